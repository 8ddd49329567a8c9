use Rattle.std.proofs.Common.{◌<◌, ◌^◌}
use Rattle.block_tree.specs.Directions.{direction_of}
use Rattle.block_tree.specs.GridOf.{grid_of}
use Rattle.check_format.specs.Own.{AreBits, is_taken}
use Rattle.check_format.proofs.own.taken_parts.Given as goal

abbrev pub invariant-loop-number : goal.invariant-loop-number
invariant-loop-number l = record {
  few : l.taken < 2 ^ l.number;
  bits : AreBits (λ d. is_taken (grid_of l.tree) l.b (direction_of d)) l.number l.taken;
}
