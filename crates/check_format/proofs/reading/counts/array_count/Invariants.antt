use Rattle.std.proofs.Common.{◌≡◌, ◌*◌, ◌≤◌, length, flat_map}
use Rattle.std.specs.List.{range_with_len}
use Rattle.block_tree.specs.GridOf.{grid_of}
use Rattle.block_tree.specs.Numbered.{block_at}
use Rattle.check_format.specs.Counts.{own_plane}
use Rattle.check_format.proofs.reading.counts.array_count.Given as goal

-- those of the planes passed
abbrev pub invariant-loop-k : goal.invariant-loop-k
invariant-loop-k l =
    let g = grid_of l.tree in
    record {
      value : l.count ≡ length (flat_map (own_plane l.row.group g (block_at g l.row.node) l.row.axis) (range_with_len 0 l.k));
      few : l.count ≤ 81 * l.k;
    }
