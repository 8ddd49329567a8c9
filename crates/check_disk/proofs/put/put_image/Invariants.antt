use Rattle.std.proofs.Common.{◌≡◌, ◌⊎◌, ◌+◌, ◌-◌, ◌≤◌, Some, is_some, ◌++◌, length, take, IfSome}
use Rattle.outside_io.specs.Areas.{Areas, bytes_of, with_bytes}
use Rattle.outside_io.specs.Crash.{LeavesOnly}
use Rattle.check_disk.specs.Steps.{KeepsGate}
use Rattle.check_disk.proofs.put.put_image.Given as goal

abbrev pub invariant-loop-piece : goal.invariant-loop-piece
invariant-loop-piece g l = record {
  place : l.place ≡ 1 + g.P.Pieces.given l.pieces;
  size : g.P.Pieces.given l.pieces ≤ length (g.P.Pieces.format.image (g.P.Pieces.mesh l.fn.pieces) l.target.turn);
  mesh : g.P.Pieces.mesh l.pieces ≡ g.P.Pieces.mesh l.fn.pieces;
  turn : (g.P.Pieces.given l.pieces ≡ 0) ⊎ (g.P.Pieces.turn_was l.pieces ≡ l.target.turn);
  holds : IfSome (g.D.Disk.holds l.fn.disk) (λ areas. g.D.Disk.holds l.disk ≡ Some (with_bytes areas l.target.area (bytes_of areas l.target.area ++ take (g.P.Pieces.given l.pieces) (g.P.Pieces.format.image (g.P.Pieces.mesh l.fn.pieces) l.target.turn))));
  tells : is_some (g.D.Disk.holds l.disk) ≡ is_some (g.D.Disk.holds l.fn.disk);
  crash : (base : Areas) → ((c : Areas) → g.D.Disk.may_leave l.fn.disk c → KeepsGate l.target.area base c) → (c : Areas) → g.D.Disk.may_leave l.disk c → KeepsGate l.target.area base c;
  moments : (base : Areas) → ((c : Areas) → g.D.Disk.may_leave l.fn.disk c → KeepsGate l.target.area base c) → LeavesOnly g.D.Disk.moment g.D.Disk.left_since l.fn.disk l.disk (KeepsGate l.target.area base);
  calm : g.D.Disk.faults l.disk ≡ g.D.Disk.faults l.fn.disk;
}

abbrev pub decreases-loop-piece : goal.decreases-loop-piece
decreases-loop-piece g l = length (g.P.Pieces.format.image (g.P.Pieces.mesh l.fn.pieces) l.target.turn) - g.P.Pieces.given l.pieces
