use Rattle.std.proofs.Common.{◌≡◌, ◌+◌, ◌*◌, ◌<◌, ℕ, length}
use Rattle.std.specs.Prelude.{slice_index}
use Rattle.amr_num.specs.Numbers.{at, sum_below}
use Rattle.restrict_op.proofs.fine.sum_row.Given as goal

abbrev pub invariant-loop-t : goal.invariant-loop-t
invariant-loop-t l = (t : ℕ) → t < l.t → at l.out t ≡ sum_below (length l.steps) (λ q. at l.values (l.from + 2 * t + slice_index l.steps q))
