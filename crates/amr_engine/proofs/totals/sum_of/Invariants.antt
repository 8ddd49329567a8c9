use Rattle.std.proofs.Common.{◌≡◌, ◌*◌, ◌^◌}
use Rattle.amr_num.specs.Numbers.{Within, at, sum_below}
use Rattle.amr_engine.proofs.totals.sum_of.Given as goal

abbrev pub invariant-loop-number : goal.invariant-loop-number
invariant-loop-number l = record {
  so_far : l.sum ≡ sum_below l.number-index (λ i. at l.row i);
  small : Within (l.number-index * 2 ^ 63) l.sum;
}
