use Rattle.std.proofs.Common.{◌≡◌, ◌+◌, ◌≤◌, pos, ◌+ℤ◌, ◌-ℤ◌}
use Rattle.amr_num.specs.Numbers.{at, sum_below}
use Rattle.amr_engine.specs.Netting.{counted}
use Rattle.amr_engine.proofs.netting.count_row.Given as goal

abbrev pub invariant-loop-i : goal.invariant-loop-i
invariant-loop-i l = record {
  so_far : pos l.count ≡ sum_below l.i (λ i. counted ((at l.x (i + 1) -ℤ at l.x i) +ℤ (at l.y_high i -ℤ at l.y_low i) +ℤ (at l.z_high i -ℤ at l.z_low i)));
  few : l.count ≤ l.i;
}
