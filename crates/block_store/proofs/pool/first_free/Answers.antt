use Rattle.std.proofs.Common.{arith}
use Rattle.block_store.proofs.Pooled.{none_free}
use Rattle.block_store.proofs.pool.first_free.Goals as goal

pub unreachable-requires : goal.unreachable-requires
unreachable-requires c = let none = none_free c.args.taken.now (λ k h. c.loop-slot.invariant k (omega arith)) in let some = c.requires.some in omega arith
