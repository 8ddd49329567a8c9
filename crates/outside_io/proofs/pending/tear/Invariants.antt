use Rattle.std.proofs.Common.{◌≡◌, ℕ, ◌<◌, false, length, get_or}
use Rattle.outside_io.specs.Pending.{is_in}
use Rattle.std.specs.List.{list_any}
use Rattle.outside_io.proofs.pending.tear.Given as goal

abbrev pub invariant-loop-k : goal.invariant-loop-k
invariant-loop-k l = record {
  long : length l.bytes ≡ length l.fn.bytes;
  outside : (j : ℕ) → j < length l.fn.bytes → j < l.end → list_any (is_in j) l.spans ≡ false → get_or l.bytes j 0 ≡ get_or l.fn.bytes j 0;
}
