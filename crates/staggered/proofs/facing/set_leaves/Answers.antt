use Rattle.std.proofs.Common.{ap, arith, length, subst, ◌∙◌}
use Rattle.block_tree.proofs.Facts.{known}
use Rattle.mesh_model.specs.Fields.Advect.{three}
use Rattle.mesh_model.specs.Tree.Kinds.{Grid}
use Rattle.mesh_model.specs.Tree.Order.{nodes}
use Rattle.mesh_model.specs.Tree.ValidGrid.{Valid}
use Rattle.staggered.proofs.UniformSet.{all_even}
use Rattle.staggered.proofs.facing.set_leaves.Goals as goal

pub returns-clause-holds : goal.returns-clause-holds
returns-clause-holds g c =
    let old = c.args.world.now in
    let valid : Valid old.told.grid = subst Valid c.tree.ensures (known c.tree.result.now).valid in
    let many = c.len-node-end.ensures.value ∙ ap (λ (t : Grid). length (nodes t.leaves)) c.tree.ensures in
    all_even c.loop-node.node g.row.N g.row.G old c.loop-node.world (three c.args.fluxes) valid c.requires.fit.sizes c.loop-node.invariant.only c.loop-node.invariant.even
    (λ k leaf. let there = leaf.there in omega (arith, many, there))
