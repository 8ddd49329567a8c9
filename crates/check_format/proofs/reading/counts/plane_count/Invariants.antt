use Rattle.std.proofs.Common.{◌≡◌, ◌*◌, ◌≤◌, length, flat_map}
use Rattle.std.specs.List.{range_with_len}
use Rattle.block_tree.specs.GridOf.{grid_of}
use Rattle.block_tree.specs.Numbered.{block_at}
use Rattle.check_format.specs.Counts.{own_row}
use Rattle.check_format.proofs.reading.counts.plane_count.Given as goal

-- those of the rows passed
abbrev pub invariant-loop-j : goal.invariant-loop-j
invariant-loop-j l =
    let g = grid_of l.tree in
    record {
      value : l.count ≡ length (flat_map (own_row l.row.group g (block_at g l.row.node) l.row.axis l.row.k) (range_with_len 0 l.j));
      few : l.count ≤ 9 * l.j;
    }
