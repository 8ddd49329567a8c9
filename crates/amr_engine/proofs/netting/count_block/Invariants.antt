use Rattle.std.proofs.Common.{◌≡◌, ◌*◌, ◌≤◌, pos}
use Rattle.amr_num.specs.Numbers.{sum_below}
use Rattle.amr_engine.specs.Netting.{counted, faces_of, net_at}
use Rattle.amr_engine.proofs.netting.count_block.Given as goal

abbrev pub invariant-loop-k : goal.invariant-loop-k
invariant-loop-k l = record {
  so_far : pos l.count ≡ sum_below l.k (λ k. sum_below l.n (λ j. sum_below l.n (λ i. counted (net_at (faces_of l.n l.g l.x l.y l.z) i j k))));
  few : l.count ≤ l.k * 64;
}
