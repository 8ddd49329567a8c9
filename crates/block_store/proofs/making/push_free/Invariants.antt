use Rattle.std.proofs.Common.{◌≡◌, ◌+◌, ◌++◌, false, replicate, vec_capacity, vec_len}
use Rattle.block_store.proofs.making.push_free.Given as goal

abbrev pub invariant-loop-slot : goal.invariant-loop-slot
invariant-loop-slot l = record {
  items : l.taken.items ≡ l.initial.taken.items ++ replicate l._slot false;
  len : vec_len l.taken ≡ vec_len l.initial.taken + l._slot;
  room : vec_capacity l.taken ≡ vec_capacity l.initial.taken;
}
