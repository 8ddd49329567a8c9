use Rattle.std.proofs.Common.{◌≡◌, None, ap, below_more, is_some, get_or, sym, ◌∙◌, arith}
use Rattle.mesh_restore.proofs.SourceLemmas.{none_round, not_some, number_of}
use Rattle.mesh_restore.proofs.sources.source_round.Goals as goal

pub loop-bits-preserved : goal.loop-bits-preserved
loop-bits-preserved c =
    let at = c.direction.ensures.value ∙ ap number_of c.choice-toward.ensures in
    below_more _ _ c.loop-bits.invariant (ap (λ d. get_or c.args.sources.now d None) (sym at) ∙ not_some (get_or c.args.sources.now c.direction.result None) (sym c.is_some.ensures ∙ c.if-is_some.false))

pub returns : goal.returns
returns c = λ g node all d choice. none_round g node c.args.part c.requires.part c.args.sources.now all (λ m less. c.loop-bits.invariant m (let over = c.loop-bits-test.false in omega (arith, less, over))) d choice
