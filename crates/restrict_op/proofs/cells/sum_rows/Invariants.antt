use Rattle.std.proofs.Common.{◌≡◌, ◌<◌, ℕ}
use Rattle.amr_num.specs.Numbers.{at}
use Rattle.restrict_op.specs.Rows.{eight_in}
use Rattle.restrict_op.proofs.cells.sum_rows.Given as goal

abbrev pub invariant-loop-t : goal.invariant-loop-t
invariant-loop-t l = (t : ℕ) → t < l.t → at l.out t ≡ eight_in l.a l.b l.c l.d t
