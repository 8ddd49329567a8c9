use Rattle.std.proofs.Common.{◌+◌, ◌*◌}
use Rattle.mesh_model.specs.Fields.ArrayPlaces.{AreRowsWritten, cell_extents, number_at}
use Rattle.guard_fill.specs.Strips.{box_of, from_cells, inner}
use Rattle.guard_fill.proofs.copying.copy_strip.Given as goal

abbrev pub invariant-loop-k : goal.invariant-loop-k
invariant-loop-k l = AreRowsWritten (l.patch.y.many * l.k) (cell_extents l.n l.g) (box_of l.patch) (from_cells l.patch (inner l.g (number_at (cell_extents l.n l.g) l.source))) l.fn.room l.room

abbrev pub invariant-loop-j : goal.invariant-loop-j
invariant-loop-j l = AreRowsWritten (l.j + l.patch.y.many * l.k) (cell_extents l.n l.g) (box_of l.patch) (from_cells l.patch (inner l.g (number_at (cell_extents l.n l.g) l.source))) l.fn.room l.room
