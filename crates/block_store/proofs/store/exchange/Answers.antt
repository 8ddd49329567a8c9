use Rattle.std.proofs.Common.{ap, set, ◌∙◌}
use Rattle.block_store.specs.Held.{numbers}
use Rattle.block_store.proofs.Hand.{exchanged}
use Rattle.block_store.proofs.store.exchange.Goals as goal

pub returns-clause-arrays : goal.returns-clause-arrays
returns-clause-arrays c =
    exchanged c.args.arrays.now.items c.args.number c.swap.new.x
    ∙ ap (λ v. set (numbers c.args.arrays.now.items) c.args.number v.items) c.swap.ensures.x_after
