use Rattle.std.proofs.Common.{◌≡◌, ◌*◌, ◌≤◌, length, flat_map}
use Rattle.std.specs.List.{range_with_len}
use Rattle.block_tree.specs.GridOf.{grid_of}
use Rattle.check_format.specs.Counts.{own_node}
use Rattle.check_format.proofs.reading.counts.number_count.Given as goal

-- those of the nodes passed
abbrev pub invariant-loop-node : goal.invariant-loop-node
invariant-loop-node l = record {
  value : l.count ≡ length (flat_map (own_node l.group (grid_of l.tree)) (range_with_len 0 l.node));
  few : l.count ≤ 2187 * l.node;
}
