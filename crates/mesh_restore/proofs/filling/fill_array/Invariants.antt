use Rattle.std.proofs.Common.{◌*◌, flat_map}
use Rattle.std.specs.List.{range_with_len}
use Rattle.mesh_model.specs.Fields.Ranks.{IsFit}
use Rattle.mesh_restore.specs.Filling.{IsFilling, plane_places}
use Rattle.mesh_restore.proofs.filling.fill_array.Given as goal

abbrev pub invariant-loop-k : goal.invariant-loop-k
invariant-loop-k g l = record {
  fit : IsFit g.row.N g.row.G l.world;
  filling : IsFilling l.initial.world.told.grid l.array.group l.array.axis l.array.node 0 (256 * l.k) (flat_map (plane_places l.initial.world.told.grid l.array.group l.array.axis) (range_with_len 0 l.k)) l.initial.world l.world l.initial.rest l.rest;
}
