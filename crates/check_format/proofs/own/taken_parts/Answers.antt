use Rattle.std.proofs.Common.{◌∙◌, ap}
use Rattle.block_tree.specs.Directions.{direction_of}
use Rattle.block_tree.specs.GridOf.{grid_of}
use Rattle.block_tree.proofs.Parts.{next_few}
use Rattle.check_format.specs.Own.{is_taken}
use Rattle.check_format.proofs.Taking.{next_bits}
use Rattle.check_format.proofs.own.taken_parts.Goals as goal

pub loop-number-preserved : goal.loop-number-preserved
loop-number-preserved c =
    let test = is_taken (grid_of c.args.tree.now) c.args.b in
    let t = c.is_taken.result in
    record {
      few = next_few c.loop-number.taken c.loop-number.number c.direction_bit-taken.result t c.loop-number.invariant.few c.direction_bit-taken.ensures.value;
      bits = next_bits (λ d. test (direction_of d)) c.loop-number.taken c.loop-number.number c.direction_bit-taken.result t c.loop-number.invariant.bits c.loop-number.invariant.few c.direction_bit-taken.ensures.value (c.is_taken.ensures ∙ ap test c.direction_at.ensures);
    }
