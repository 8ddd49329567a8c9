use Rattle.std.proofs.Common.{◌+◌, ◌*◌}
use Rattle.mesh_model.specs.Fields.ArrayPlaces.{AreRowsWritten, number_at}
use Rattle.guard_fill.specs.Strips.{box_of, from_places}
use Rattle.guard_fill.proofs.copying.copy_places.Given as goal

abbrev pub invariant-loop-k : goal.invariant-loop-k
invariant-loop-k l = AreRowsWritten (l.patch.y.many * l.k) l.extents (box_of l.patch) (from_places l.g l.patch (number_at l.extents l.source)) l.fn.room l.room

abbrev pub invariant-loop-j : goal.invariant-loop-j
invariant-loop-j l = AreRowsWritten (l.j + l.patch.y.many * l.k) l.extents (box_of l.patch) (from_places l.g l.patch (number_at l.extents l.source)) l.fn.room l.room
