use Rattle.std.proofs.Common.{◌≡◌, ◌<◌, ℕ, ℤ, None}
use Rattle.amr_num.specs.declared.CellAt.{CellAt}
use Rattle.mesh_model.specs.Fields.Ranks.{IsFit}
use Rattle.rank_world.specs.Holding.{IsLeafNode, LeavesHold, OnlyCells}
use Rattle.regrid_move.specs.Near.{NodeMoved, stop_below}
use Rattle.regrid_move.proofs.moving.move_variable.Given as goal

abbrev pub invariant-loop-node : goal.invariant-loop-node
invariant-loop-node g l = record {
  only : OnlyCells l.initial.new l.new l.v;
  fit : IsFit g.row.N g.row.G l.new;
  views : (content : CellAt → ℤ) → LeavesHold l.old l.v content → (k : ℕ) → k < l.node → IsLeafNode l.new.told.grid k → NodeMoved l.old l.new l.v content k;
  none : (content : CellAt → ℤ) → LeavesHold l.old l.v content → stop_below l.old.told.grid l.new.told.grid content l.v l.node ≡ None;
}
