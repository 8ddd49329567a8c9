use Rattle.std.proofs.Common.{◌≡◌, map, drop}
use Rattle.outside_io.specs.Areas.{Areas}
use Rattle.outside_io.specs.Crash.{LeavesOnly, Rests}
use Rattle.mesh_model.specs.Images.Held.{IsWhole}
use Rattle.check_disk.specs.Held.{held}
use Rattle.check_disk.specs.Stages.{stage, IsStage}
use Rattle.check_disk.proofs.save.save_each.Given as goal

abbrev pub invariant-loop-one : goal.invariant-loop-one
invariant-loop-one g l = record {
  rest : drop l.one-index l.all ≡ drop l.one-index l.fn.all;
  moments : (areas : Areas) → Rests g.D.Disk.holds g.D.Disk.may_leave l.fn.disk areas → IsWhole (held g.P.Pieces.format areas)
      → LeavesOnly g.D.Disk.moment g.D.Disk.left_since l.fn.disk l.disk (IsStage g.P.Pieces.format (held g.P.Pieces.format areas) (map g.P.Pieces.mesh l.fn.all) l.one-index);
  saved : (areas : Areas) → Rests g.D.Disk.holds g.D.Disk.may_leave l.fn.disk areas → IsWhole (held g.P.Pieces.format areas)
      → (after : Areas) × Rests g.D.Disk.holds g.D.Disk.may_leave l.disk after × (held g.P.Pieces.format after ≡ stage (held g.P.Pieces.format areas) (map g.P.Pieces.mesh l.fn.all) l.one-index);
  calm : g.D.Disk.faults l.disk ≡ g.D.Disk.faults l.fn.disk;
}
