use Rattle.std.proofs.Common.{ℕ, ◌<◌, ◌≤◌, ℤ}
use Rattle.amr_num.specs.declared.Axis.{Axis}
use Rattle.amr_num.specs.declared.EdgeAt.{EdgeAt}
use Rattle.rank_world.specs.Holding.{IsLeafNode, LeafEdgesHold}
use Rattle.edge_average.specs.EdgeArrays.{AreHalved, LineHolds}
use Rattle.edge_average.proofs.halving.agree_edges.Given as goal

abbrev pub invariant-loop-node : goal.invariant-loop-node
invariant-loop-node g l = record {
  halved : AreHalved l.work g.row.N g.row.G l.initial.world l.world;
  lines : (field : EdgeAt → ℤ) (k : ℕ) (a : Axis) (s t : ℕ) → k < l.node → IsLeafNode l.initial.world.told.grid k → s ≤ g.row.N → t ≤ g.row.N → LeafEdgesHold l.work l.initial.world field →
      LineHolds l.work l.world field k a s t;
}
