use Rattle.mesh_model.specs.Fields.Octants.{parted}
use Rattle.mesh_model.specs.Fields.ArrayPlaces.{AreRowsWritten, cell_extents, interior, number_at}
use Rattle.prolong_op.proofs.cells.split.Given as goal

abbrev pub invariant-loop-m : goal.invariant-loop-m
invariant-loop-m l =
    AreRowsWritten l.m (cell_extents l.n l.g) (interior l.n l.g) (parted l.n l.g l.q (number_at (cell_extents l.n l.g) l.parent)) l.initial.child l.child
