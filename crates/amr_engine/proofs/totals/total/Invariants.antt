use Rattle.std.proofs.Common.{◌≡◌, ◌*◌, ◌^◌, ℤ}
use Rattle.amr_num.specs.Numbers.{Within, sum_below}
use Rattle.amr_num.specs.declared.CellAt.{CellAt}
use Rattle.rank_world.specs.Holding.{LeavesHold}
use Rattle.amr_engine.proofs.totals.total.Given as goal
use Rattle.rank_world.specs.NodeSums.{node_sum}

abbrev pub invariant-loop-node : goal.invariant-loop-node
invariant-loop-node g l = record {
  so_far : (content : CellAt → ℤ) → LeavesHold l.world l.v content → l.sum ≡ sum_below l.node (node_sum l.world.told.grid content);
  small : Within (l.node * 2 ^ 72) l.sum;
}
