use Rattle.std.proofs.Common.{◌≡◌, ◌<◌, ℕ, false, true, slice_index_or}
use Rattle.block_store.proofs.pool.first_free.Given as goal

abbrev pub invariant-loop-slot : goal.invariant-loop-slot
invariant-loop-slot l = (k : ℕ) → k < l.slot → slice_index_or l.taken k false ≡ true
