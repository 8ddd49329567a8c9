use Rattle.std.proofs.Common.{ℕ, ◌<◌, ◌^◌}
use Rattle.std.specs.Prelude.{IsTrue}
use Rattle.amr_num.specs.Numbers.{Within, at}
use Rattle.block_store.proofs.above.row_fits.Given as goal

abbrev pub invariant-loop-i : goal.invariant-loop-i
invariant-loop-i l = IsTrue l.all → (i : ℕ) → i < l.i → Within (2 ^ 40) (at l.row i)
