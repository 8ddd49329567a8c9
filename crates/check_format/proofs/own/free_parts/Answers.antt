use Rattle.std.proofs.Common.{◌∙◌, ap}
use Rattle.block_tree.specs.Directions.{direction_of}
use Rattle.block_tree.proofs.Parts.{next_few}
use Rattle.check_format.specs.Own.{is_free}
use Rattle.check_format.proofs.Taking.{next_bits}
use Rattle.check_format.proofs.own.free_parts.Goals as goal

pub loop-number-preserved : goal.loop-number-preserved
loop-number-preserved c =
    let test = is_free c.args.taken in
    let t = c.is_free.result in
    record {
      few = next_few c.loop-number.free c.loop-number.number c.direction_bit-free.result t c.loop-number.invariant.few c.direction_bit-free.ensures.value;
      bits = next_bits (λ d. test (direction_of d)) c.loop-number.free c.loop-number.number c.direction_bit-free.result t c.loop-number.invariant.bits c.loop-number.invariant.few c.direction_bit-free.ensures.value (c.is_free.ensures ∙ ap test c.direction_at.ensures);
    }
