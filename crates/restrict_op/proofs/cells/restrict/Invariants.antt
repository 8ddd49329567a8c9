use Rattle.mesh_model.specs.Fields.Octants.{octant_box, summed}
use Rattle.mesh_model.specs.Fields.ArrayPlaces.{AreRowsWritten, cell_extents, number_at}
use Rattle.restrict_op.proofs.cells.restrict.Given as goal

abbrev pub invariant-loop-m : goal.invariant-loop-m
invariant-loop-m l =
    AreRowsWritten l.m (cell_extents l.n l.g) (octant_box l.n l.g l.q) (summed l.g (number_at (cell_extents l.n l.g) l.child)) l.initial.parent l.parent
