use Rattle.std.proofs.Common.{◌≡◌, None}
use Rattle.block_store.specs.Above.{first_in_row}
use Rattle.block_store.proofs.above.row_above.Given as goal

abbrev pub invariant-loop-i : goal.invariant-loop-i
invariant-loop-i l = first_in_row l.n l.counted l.row l.j l.k l.i ≡ None
