use Rattle.std.proofs.Common.{◌≡◌, ℕ, ◌<◌}
use Rattle.amr_num.specs.Numbers.{at}
use Rattle.step_advect.specs.Applied.{left_in}
use Rattle.step_advect.proofs.update.left_row.Given as goal

abbrev pub invariant-loop-t : goal.invariant-loop-t
invariant-loop-t l = (t : ℕ) → t < l.t → at l.out t ≡ left_in l.cells l.x l.y_low l.y_high l.z_low l.z_high t
