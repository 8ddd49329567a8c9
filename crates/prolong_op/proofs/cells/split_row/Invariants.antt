use Rattle.std.proofs.Common.{◌≡◌, ◌<◌, ◌+◌, ◌/◌, ◌%◌, ℕ}
use Rattle.amr_num.specs.Numbers.{at, part}
use Rattle.prolong_op.proofs.cells.split_row.Given as goal

abbrev pub invariant-loop-i : goal.invariant-loop-i
invariant-loop-i l = (i : ℕ) → i < l.i → at l.out i ≡ part (l.octant + i % 2) (at l.whole (i / 2)) 8
