use Rattle.std.proofs.Common.{◌≡◌, ◌∙◌, MatchOption, false, subst}
use Rattle.block_tree.specs.Directions.{IsRound, direction_of, lies_round}
use Rattle.block_tree.specs.GridOf.{grid_of}
use Rattle.block_tree.proofs.Parts.{next_few, one_more, stands_is}
use Rattle.block_tree.proofs.directions.finer_parts.Goals as goal

pub loop-number-preserved : goal.loop-number-preserved
loop-number-preserved c =
    let g = grid_of c.args.tree.now in
    let parts = c.loop-number.parts in
    let number = c.loop-number.number in
    let bit = c.direction_bit-parts.result in
    let t = c.is_some-stands.result in
    let found = stands_is g false c.args.b (direction_of number) c.node_round.result (subst (λ d. MatchOption c.node_round.result (lies_round g false c.args.b d ≡ false) (IsRound g false c.args.b d)) c.direction_at.ensures c.node_round.ensures) in
    record {
      few = next_few parts number bit t c.loop-number.invariant.few c.direction_bit-parts.ensures.value;
      parts = one_more g false c.args.b parts number bit t c.loop-number.invariant.parts c.loop-number.invariant.few c.direction_bit-parts.ensures.value (c.is_some-stands.ensures ∙ found);
    }
