use Rattle.std.proofs.Common.{◌+◌, ◌*◌}
use Rattle.check_format.specs.Own.{place}
use Rattle.mesh_model.specs.Fields.Ranks.{IsFit}
use Rattle.mesh_restore.specs.Filling.{IsFilling, first_places, order_of}
use Rattle.mesh_restore.proofs.filling.fill_row.Given as goal

abbrev pub invariant-loop-i : goal.invariant-loop-i
invariant-loop-i g l = record {
  fit : IsFit g.row.N g.row.G l.world;
  filling : IsFilling l.initial.world.told.grid l.array.group l.array.axis l.array.node (16 * l.j + 256 * l.k) (order_of (place l.i l.j l.k)) (first_places l.k l.j l.i) l.initial.world l.world l.initial.rest l.rest;
}
