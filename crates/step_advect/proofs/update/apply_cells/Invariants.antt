use Rattle.mesh_model.specs.Fields.ArrayPlaces.{AreRowsWritten, cell_extents, interior}
use Rattle.step_advect.specs.Applied.{flows_in, left_at}
use Rattle.step_advect.proofs.update.apply_cells.Given as goal

abbrev pub invariant-loop-m : goal.invariant-loop-m
invariant-loop-m l = AreRowsWritten l.m (cell_extents l.n l.g) (interior l.n l.g) (left_at (flows_in l.n l.g l.cells l.fx l.fy l.fz)) l.initial.out l.out
