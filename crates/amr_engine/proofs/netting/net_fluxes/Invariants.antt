use Rattle.std.proofs.Common.{◌≡◌, ◌*◌, ◌≤◌, pos, ℤ}
use Rattle.amr_num.specs.Numbers.{sum_below}
use Rattle.amr_num.specs.declared.FaceAt.{FaceAt}
use Rattle.rank_world.specs.Holding.{LeavesHoldFaces}
use Rattle.amr_engine.specs.Netting.{counted_cell}
use Rattle.amr_engine.proofs.netting.net_fluxes.Given as goal
use Rattle.rank_world.specs.NodeSums.{node_sum}

abbrev pub invariant-loop-node : goal.invariant-loop-node
invariant-loop-node g l = record {
  so_far : (field : FaceAt → ℤ) → LeavesHoldFaces l.world field → pos l.count ≡ sum_below l.node (node_sum l.world.told.grid (counted_cell l.world.told.grid field));
  few : l.count ≤ l.node * 512;
}
