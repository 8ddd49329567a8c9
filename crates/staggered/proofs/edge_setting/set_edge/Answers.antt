use Rattle.std.proofs.Common.{◌≡◌, of_z, rules, subst, to_z, w64}
use Rattle.block_tree.proofs.Facts.{known}
use Rattle.mesh_model.specs.Tree.Kinds.{Grid}
use Rattle.mesh_model.specs.Tree.Order.{Sorted}
use Rattle.mesh_model.specs.Tree.ValidGrid.{Valid}
use Rattle.staggered.specs.EdgeSetting.{IsEdgeSet}
use Rattle.staggered.proofs.EdgeSet.{edges_hold}
use Rattle.staggered.proofs.edge_setting.set_edge.Goals as goal

pub returns-clause-set : goal.returns-clause-set
returns-clause-set g c =
    let number : to_z w64 (of_z w64 c.args.value) ≡ c.args.value = search rules in
    subst (IsEdgeSet c.args.world.now c.set_leaves.new.world c.args.at) number c.set_leaves.ensures.set

pub returns-clause-holds : goal.returns-clause-holds
returns-clause-holds g c =
    let old = c.args.world.now in
    let valid : Valid old.told.grid = subst Valid c.tree.ensures (known c.tree.result.now).valid in
    let order : Sorted old.told.grid.leaves = subst (λ (h : Grid). Sorted h.leaves) c.tree.ensures (known c.tree.result.now).order in
    edges_hold old c.set_leaves.new.world c.args.at c.args.value valid order (returns-clause-set g c)
