use Rattle.std.proofs.Common.{◌≡◌, ℕ, ◌<◌}
use Rattle.amr_num.specs.Numbers.{at}
use Rattle.guard_fill.specs.Strips.{cell_at}
use Rattle.guard_fill.proofs.copying.copy_row.Given as goal

abbrev pub invariant-loop-t : goal.invariant-loop-t
invariant-loop-t l = (i : ℕ) → i < l.t → at l.out i ≡ at l.cells (cell_at l.x i)
