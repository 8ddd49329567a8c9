use Rattle.std.proofs.Common.{◌≡◌, ◌+◌, ◌≤◌, [], drop, length, slice_index_or, bytes_eq}
use Rattle.std.specs.List.{list_any}
use Rattle.check_format.specs.Written.{all_names}
use Rattle.check_format.proofs.reading.header.comes_again.Given as goal

-- the name is none of those passed
abbrev pub invariant-loop-j : goal.invariant-loop-j
invariant-loop-j l =
    let all = all_names l.names in
    (list_any (bytes_eq (slice_index_or all l.i [])) (drop l.j all) ≡ list_any (bytes_eq (slice_index_or all l.i [])) (drop (l.i + 1) all)) × (l.end ≡ length all)
