use Rattle.std.proofs.Common.{rules, subst}
use Rattle.block_tree.specs.Interior.{array_on}
use Rattle.mesh_model.specs.Fields.Arrays.{HasVar}
use Rattle.mesh_restore.proofs.leaves.fill_leaf.Goals as goal

pub fill_cells-requires : goal.fill_cells-requires
fill_cells-requires g c = (search rules, (c.requires.fit, (λ a. subst (λ u. HasVar c.args.world.now.told.counts (array_on u a)) c.in-Cell.is (c.requires.declared a), c.requires.leaf)))

pub fill_axes-requires : goal.fill_axes-requires
fill_axes-requires g c = (search rules, (c.requires.fit, (λ a. subst (λ u. HasVar c.args.world.now.told.counts (array_on u a)) c.in-Face.is (c.requires.declared a), (c.requires.leaf, λ v e. cc))))

pub fill_axes-requires-in-Edge : goal.fill_axes-requires-in-Edge
fill_axes-requires-in-Edge g c = (search rules, (c.requires.fit, (λ a. subst (λ u. HasVar c.args.world.now.told.counts (array_on u a)) c.in-Edge.is (c.requires.declared a), (c.requires.leaf, λ v e. cc))))
