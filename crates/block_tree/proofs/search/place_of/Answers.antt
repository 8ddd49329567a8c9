use Rattle.std.proofs.Common.{arith, subst}
use Rattle.block_tree.specs.Searching.{IsCut}
use Rattle.block_tree.specs.Numbered.{block_in}
use Rattle.block_tree.proofs.Cutting.{at_cut}
use Rattle.block_tree.proofs.Equal.{equal_shows}
use Rattle.block_tree.proofs.search.place_of.Goals as goal
use Rattle.block_tree.proofs.search.place_of.Goals.{else-place-nodes-via-then-place-nodes+else-eq, else-place-nodes-via-else-place-nodes}

pub returns-else-place-nodes : goal.returns-else-place-nodes
returns-else-place-nodes c = λ i.
    let place = c.count_below-place.result in
    let cut = subst (λ k. IsCut c.args.nodes.now k place place) c.key_of.ensures.value c.count_below-place.ensures in
    let here = at_cut c.args.nodes.now place c.args.b cut i c.requires.order in
    elim c.else-place-nodes.branch [
      | else-place-nodes-via-then-place-nodes+else-eq w ↦ let e = w.eq.ensures in let f = w.if-eq.false in let t = equal_shows (block_in c.args.nodes.now place) c.args.b here.1 in cc
      | else-place-nodes-via-else-place-nodes w ↦ let far = w.if-place-nodes.false in let near = here.0 in absurd (omega arith)
    ]
