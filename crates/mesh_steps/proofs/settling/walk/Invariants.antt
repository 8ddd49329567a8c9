use Rattle.std.proofs.Common.{◌≡◌, ◌*◌, ◌^◌, ℤ, length}
use Rattle.amr_num.specs.Numbers.{Within, sum_below}
use Rattle.amr_num.specs.declared.CellAt.{CellAt}
use Rattle.mesh_model.specs.Fields.Advect.{three}
use Rattle.mesh_model.specs.Fields.Ranks.{IsFit}
use Rattle.mesh_steps.specs.Settling.{AreFluxed, OnlyWorkCells, lost}
use Rattle.mesh_steps.proofs.Settled.{AreSettledBelow}
use Rattle.mesh_steps.proofs.settling.walk.Given as goal
use Rattle.rank_world.specs.NodeSums.{node_sum}

abbrev pub invariant-loop-node : goal.invariant-loop-node
invariant-loop-node g l = record {
  only : OnlyWorkCells l.initial.world l.world;
  fit : IsFit g.row.N g.row.G l.world;
  settled : AreSettledBelow l.node l.initial.world l.world l.v (three l.speeds);
  so_far : (content : CellAt → ℤ) → AreFluxed l.initial.world l.v content (three l.speeds) → l.flown ≡ sum_below l.node (node_sum l.initial.world.told.grid (lost l.initial.world.told.grid content (three l.speeds)));
  x : length l.x ≡ length l.initial.x;
  y : length l.y ≡ length l.initial.y;
  z : length l.z ≡ length l.initial.z;
  small : Within (l.node * 2 ^ 70) l.flown;
}
