use Rattle.std.proofs.Common.{rules}
use Rattle.amr_num.specs.declared.Axis.TheVariants.{X}
use Rattle.mesh_restore.proofs.LeafLemmas.{cells_filled}
use Rattle.mesh_restore.proofs.leaves.fill_cells.Goals as goal

pub fill_array-requires : goal.fill_array-requires
fill_array-requires g c = (search rules, (c.requires.fit, (c.requires.declared X, c.requires.leaf)))

pub returns-clause-filled : goal.returns-clause-filled
returns-clause-filled g c = cells_filled c.args.world.now.told.grid c.requires.leaf.shape c.args.variable c.args.node c.args.world.now c.fill_array.new.world c.args.rest.now c.fill_array.result.now c.fill_array.ensures.filling
