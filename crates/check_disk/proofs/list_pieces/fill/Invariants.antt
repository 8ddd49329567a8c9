use Rattle.std.proofs.Common.{◌≡◌, ◌+◌, ◌-◌, ◌≤◌, length, take, drop}
use Rattle.check_disk.specs.Listed.{listed_image}
use Rattle.check_disk.proofs.list_pieces.fill.Given as goal

abbrev pub invariant-loop-n : goal.invariant-loop-n
invariant-loop-n l = record {
  room : l.n ≤ length l.buf;
  size : l.given + l.n ≤ length l.bytes + 9;
  bytes : take l.n l.buf ≡ take l.n (drop l.given (listed_image l.bytes l.turn));
}

abbrev pub decreases-loop-n : goal.decreases-loop-n
decreases-loop-n l = length l.initial.buf - l.n
