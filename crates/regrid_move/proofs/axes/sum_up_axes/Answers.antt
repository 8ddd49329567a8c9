use Rattle.std.proofs.Common.{arith, subst}
use Rattle.mesh_model.specs.Tree.Order.{IsIn, nodes}
use Rattle.mesh_model.specs.Tree.Kinds.{Grid}
use Rattle.mesh_model.specs.Tree.ValidGrid.{Valid}
use Rattle.block_tree.proofs.Facts.{known}
use Rattle.regrid_move.proofs.Moved.{over_leaf}
use Rattle.regrid_move.proofs.axes.sum_up_axes.Goals as goal

pub unreachable-requires : goal.unreachable-requires
unreachable-requires g c =
    let grid = c.args.old.now.told.grid in
    let valid : Valid grid = subst Valid c.tree.ensures (known c.tree.result.now).valid in
    let none = subst (λ (h : Grid). IsIn c.args.block (nodes h.leaves) → ⊥) c.tree.ensures c.in-None.ensures in
    none (over_leaf grid valid c.args.block (c.requires.children 0 (omega arith)))
