use Rattle.std.proofs.Common.{ℕ, ◌<◌, Bool}
use Rattle.amr_num.specs.declared.Axis.{Axis}
use Rattle.rank_world.specs.Holding.{IsLeafNode}
use Rattle.flux_conserve.specs.Jumps.{BlockFaces}
use Rattle.flux_conserve.specs.FaceArrays.{AreSummed, CalmHas, SideHas}
use Rattle.flux_conserve.proofs.correcting.correct_arrays.Given as goal

abbrev pub invariant-loop-node : goal.invariant-loop-node
invariant-loop-node g l = record {
  summed : AreSummed l.work g.row.N g.row.G l.initial.world l.world;
  sides : (faces : BlockFaces) (node : ℕ) (a : Axis) (high : Bool) → node < l.node → IsLeafNode l.initial.world.told.grid node → CalmHas l.work l.initial.world faces →
      SideHas l.work l.world faces node a high;
}
