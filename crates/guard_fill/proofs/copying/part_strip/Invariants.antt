use Rattle.std.proofs.Common.{◌+◌, ◌*◌}
use Rattle.mesh_model.specs.Fields.ArrayPlaces.{AreRowsWritten, cell_extents, number_at}
use Rattle.mesh_model.specs.Fields.Octants.{parted}
use Rattle.guard_fill.specs.Strips.{box_of, from_cells}
use Rattle.guard_fill.proofs.copying.part_strip.Given as goal

abbrev pub invariant-loop-k : goal.invariant-loop-k
invariant-loop-k l = AreRowsWritten (l.patch.y.many * l.k) (cell_extents l.n l.g) (box_of l.patch) (from_cells l.patch (parted l.n l.g l.q (number_at (cell_extents l.n l.g) l.parent))) l.fn.room l.room

abbrev pub invariant-loop-j : goal.invariant-loop-j
invariant-loop-j l = AreRowsWritten (l.j + l.patch.y.many * l.k) (cell_extents l.n l.g) (box_of l.patch) (from_cells l.patch (parted l.n l.g l.q (number_at (cell_extents l.n l.g) l.parent))) l.fn.room l.room
