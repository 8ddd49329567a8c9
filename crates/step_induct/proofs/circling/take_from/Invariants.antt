use Rattle.std.proofs.Common.{◌≡◌, ◌<◌, ◌≤◌, ◌-ℤ◌, ℕ}
use Rattle.amr_num.specs.Numbers.{at}
use Rattle.step_induct.proofs.circling.take_from.Given as goal

abbrev pub invariant-loop-t : goal.invariant-loop-t
invariant-loop-t l =
    ((t : ℕ) → t < l.t → at l.out t ≡ at l.had t -ℤ at l.initial.out t) × ((t : ℕ) → l.t ≤ t → at l.out t ≡ at l.initial.out t)
