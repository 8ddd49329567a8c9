use Rattle.block_store.specs.Held.{numbers}
use Rattle.block_store.proofs.Lengths.{AreZeroBelow}
use Rattle.block_store.proofs.making.zero_block.Given as goal

abbrev pub invariant-loop-number : goal.invariant-loop-number
invariant-loop-number l = AreZeroBelow l.n l.g l.layout l.number (numbers l.block.items)
