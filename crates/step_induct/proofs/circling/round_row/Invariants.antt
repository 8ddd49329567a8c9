use Rattle.std.proofs.Common.{◌≡◌, ◌<◌, ℕ}
use Rattle.amr_num.specs.Numbers.{at}
use Rattle.step_induct.specs.Circling.{round_in}
use Rattle.step_induct.proofs.circling.round_row.Given as goal

abbrev pub invariant-loop-t : goal.invariant-loop-t
invariant-loop-t l = (t : ℕ) → t < l.t → at l.out t ≡ round_in l.first l.second l.third l.last t
