use Rattle.std.proofs.Common.{◌≡◌, ◌≤◌, length, map, filter}
use Rattle.std.specs.List.{range_with_len}
use Rattle.block_tree.specs.GridOf.{grid_of}
use Rattle.block_tree.specs.Numbered.{block_at}
use Rattle.check_format.specs.Own.{place}
use Rattle.check_format.specs.Written.{is_own_place}
use Rattle.check_format.proofs.reading.counts.row_count.Given as goal

-- those of the places passed
abbrev pub invariant-loop-i : goal.invariant-loop-i
invariant-loop-i l =
    let g = grid_of l.tree in
    record {
      value : l.count ≡ length (filter (is_own_place l.row.group g (block_at g l.row.node) l.row.axis) (map (λ i. place i l.row.j l.row.k) (range_with_len 0 l.i)));
      few : l.count ≤ l.i;
    }
