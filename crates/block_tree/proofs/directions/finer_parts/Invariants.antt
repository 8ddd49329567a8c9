use Rattle.std.proofs.Common.{◌<◌, ◌^◌, false}
use Rattle.block_tree.specs.Directions.{AreParts}
use Rattle.block_tree.specs.GridOf.{grid_of}
use Rattle.block_tree.proofs.directions.finer_parts.Given as goal

abbrev pub invariant-loop-number : goal.invariant-loop-number
invariant-loop-number l = record {
  few : l.parts < 2 ^ l.number;
  parts : AreParts (grid_of l.tree) false l.b l.number l.parts;
}
