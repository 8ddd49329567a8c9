use Rattle.block_store.specs.Held.{all_numbers}
use Rattle.block_store.specs.Making.{AreZeroBlocks}
use Rattle.block_store.proofs.making.zero_blocks.Given as goal

abbrev pub invariant-loop-block : goal.invariant-loop-block
invariant-loop-block l = AreZeroBlocks l.n l.g l.layout l._block (all_numbers l.blocks.items)
