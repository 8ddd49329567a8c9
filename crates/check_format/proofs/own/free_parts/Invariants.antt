use Rattle.std.proofs.Common.{◌<◌, ◌^◌}
use Rattle.block_tree.specs.Directions.{direction_of}
use Rattle.check_format.specs.Own.{AreBits, is_free}
use Rattle.check_format.proofs.own.free_parts.Given as goal

abbrev pub invariant-loop-number : goal.invariant-loop-number
invariant-loop-number l = record {
  few : l.free < 2 ^ l.number;
  bits : AreBits (λ d. is_free l.taken (direction_of d)) l.number l.free;
}
