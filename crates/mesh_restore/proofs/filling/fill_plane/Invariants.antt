use Rattle.std.proofs.Common.{◌+◌, ◌*◌, flat_map}
use Rattle.std.specs.List.{range_with_len}
use Rattle.mesh_model.specs.Fields.Ranks.{IsFit}
use Rattle.mesh_restore.specs.Filling.{IsFilling, row_places}
use Rattle.mesh_restore.proofs.filling.fill_plane.Given as goal

abbrev pub invariant-loop-j : goal.invariant-loop-j
invariant-loop-j g l = record {
  fit : IsFit g.row.N g.row.G l.world;
  filling : IsFilling l.initial.world.told.grid l.array.group l.array.axis l.array.node (256 * l.k) (16 * l.j + 256 * l.k) (flat_map (row_places l.initial.world.told.grid l.array.group l.array.axis l.k) (range_with_len 0 l.j)) l.initial.world l.world l.initial.rest l.rest;
}
