use Rattle.std.proofs.Common.{◌<◌, ℕ}
use Rattle.amr_num.specs.declared.Axis.{Axis}
use Rattle.mesh_model.specs.Fields.Ranks.{IsFit}
use Rattle.rank_world.specs.Holding.{OnlyAxesOf}
use Rattle.regrid_move.specs.AxisMoves.{AxisOctantMoved, FieldOf, LeavesHoldAxes, var_of}
use Rattle.regrid_move.proofs.axes.sum_axes.Given as goal

abbrev pub invariant-loop-octant : goal.invariant-loop-octant
invariant-loop-octant g l = record {
  only : OnlyAxesOf (var_of l.kind) l.initial.new l.new l.node;
  fit : IsFit g.row.N g.row.G l.new;
  sums : (field : FieldOf l.kind) (a : Axis) → LeavesHoldAxes l.kind l.old field → (q : ℕ) → q < l.octant → AxisOctantMoved l.kind l.old l.new field l.node q a;
}
