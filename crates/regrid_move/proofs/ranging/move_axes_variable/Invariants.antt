use Rattle.std.proofs.Common.{◌≡◌, ◌<◌, ℕ, None}
use Rattle.mesh_model.specs.Fields.Ranks.{IsFit}
use Rattle.rank_world.specs.Holding.{IsLeafNode, OnlyAxes}
use Rattle.regrid_move.specs.AxisMoves.{AxesMoved, FieldOf, LeavesHoldAxes, axes_stop, var_of}
use Rattle.regrid_move.proofs.ranging.move_axes_variable.Given as goal

abbrev pub invariant-loop-node : goal.invariant-loop-node
invariant-loop-node g l = record {
  only : OnlyAxes (var_of l.kind) l.initial.new l.new;
  fit : IsFit g.row.N g.row.G l.new;
  views : (field : FieldOf l.kind) → LeavesHoldAxes l.kind l.old field → (k : ℕ) → k < l.node → IsLeafNode l.new.told.grid k → AxesMoved l.kind l.old l.new field k;
  none : (field : FieldOf l.kind) → LeavesHoldAxes l.kind l.old field → axes_stop l.kind l.old.told.grid l.new.told.grid field l.node ≡ None;
}
