use Rattle.std.proofs.Common.{◌≡◌, ℕ, ◌+◌, ◌/◌, ◌%◌, ◌<◌}
use Rattle.amr_num.specs.Numbers.{at, part}
use Rattle.guard_fill.specs.Strips.{cell_at}
use Rattle.guard_fill.proofs.copying.part_row.Given as goal

abbrev pub invariant-loop-t : goal.invariant-loop-t
invariant-loop-t l = (i : ℕ) → i < l.t → at l.out i ≡ part (l.octant + cell_at l.x i % 2) (at l.cells (cell_at l.x i / 2)) 8
