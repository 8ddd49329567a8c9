use Rattle.block_store.proofs.Hand.{put_in}
use Rattle.block_store.proofs.store.exchange_in.Goals as goal

pub returns-clause-blocks : goal.returns-clause-blocks
returns-clause-blocks c =
    put_in c.args.blocks.now c.args.slot c.args.number c.index-blocks-slot.result c.exchange.new.arrays c.args.hand.now.items c.requires.slot c.index-blocks-slot.is
    c.exchange.ensures.arrays
