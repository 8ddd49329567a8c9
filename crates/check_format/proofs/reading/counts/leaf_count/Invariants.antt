use Rattle.std.proofs.Common.{◌≡◌, ◌*◌, ◌≤◌, length, flat_map, take}
use Rattle.block_tree.specs.GridOf.{grid_of}
use Rattle.block_tree.specs.Interior.{axes_of}
use Rattle.block_tree.specs.Numbered.{block_at}
use Rattle.check_format.specs.Counts.{own_array}
use Rattle.check_format.proofs.reading.counts.leaf_count.Given as goal

-- those of the axes passed
abbrev pub invariant-loop-axis : goal.invariant-loop-axis
invariant-loop-axis l =
    let g = grid_of l.tree in
    record {
      axes : l.axis-items ≡ axes_of l.group;
      value : l.count ≡ length (flat_map (own_array l.group g (block_at g l.node)) (take l.axis-index l.axis-items));
      few : l.count ≤ 729 * l.axis-index;
    }
