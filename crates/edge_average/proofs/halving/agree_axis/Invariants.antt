use Rattle.std.proofs.Common.{ℕ, ◌+◌, ◌/◌, ◌%◌, ◌<◌, ℤ}
use Rattle.amr_num.specs.declared.EdgeAt.{EdgeAt}
use Rattle.rank_world.specs.Holding.{LeafEdgesHold}
use Rattle.edge_average.specs.EdgeArrays.{AreHalved, LineHolds}
use Rattle.edge_average.proofs.halving.agree_axis.Given as goal

abbrev pub invariant-loop-m : goal.invariant-loop-m
invariant-loop-m g l = record {
  halved : AreHalved l.work g.row.N g.row.G l.initial.world l.world;
  lines : (field : EdgeAt → ℤ) (k : ℕ) → k < l.m → LeafEdgesHold l.work l.initial.world field →
      LineHolds l.work l.world field l.node l.axis (k % (g.row.N + 1)) (k / (g.row.N + 1));
}
