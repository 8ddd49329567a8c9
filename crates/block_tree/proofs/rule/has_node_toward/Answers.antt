use Rattle.std.proofs.Common.{◌≡◌, ◌↔◌, IsTrue, Some, sym, ap, subst, ◌∙◌}
use Rattle.amr_num.specs.declared.BlockAt.{BlockAt}
use Rattle.mesh_model.specs.Tree.Order.{IsIn}
use Rattle.block_tree.specs.Directions.{block_toward, direction_of}
use Rattle.block_tree.proofs.Next.{has_key}
use Rattle.block_tree.proofs.Surrounding.{round_found, toward_inside}
use Rattle.block_tree.proofs.rule.has_node_toward.Goals as goal

pub place_of-requires-clause-key : goal.place_of-requires-clause-key
place_of-requires-clause-key c =
    let s = c.args.shape.now in
    has_key s c.in-Some.block c.requires.shape (toward_inside s c.direction_at.result c.args.b c.in-Some.block c.requires.shape c.requires.inside (sym c.block_toward.ensures ∙ c.in-Some.is))

pub returns-in-Some : goal.returns-in-Some
returns-in-Some c =
    let s = c.args.shape.now in
    let all = c.args.nodes.now in
    let is = ap (λ d. block_toward s d c.args.b) (sym c.direction_at.ensures) ∙ sym c.block_toward.ensures ∙ c.in-Some.is in
    round_found s (direction_of c.args.number) c.args.b c.in-Some.block all c.place_of.result c.is_some.result is c.place_of.ensures c.is_some.ensures
