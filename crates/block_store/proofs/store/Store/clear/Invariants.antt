use Rattle.block_store.specs.Held.{IsClearedBelow}
use Rattle.block_store.proofs.store.Store.clear.Given as goal

abbrev pub invariant-loop-number : goal.invariant-loop-number
invariant-loop-number l = IsClearedBelow l.number l.initial.self l.self l.slot
