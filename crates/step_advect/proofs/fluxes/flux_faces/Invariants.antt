use Rattle.mesh_model.specs.Fields.ArrayPlaces.{AreRowsWritten, cell_extents, face_extents, number_at}
use Rattle.step_advect.specs.Fluxed.{block_faces, flow_of, flux_at}
use Rattle.step_advect.proofs.fluxes.flux_faces.Given as goal

abbrev pub invariant-loop-m : goal.invariant-loop-m
invariant-loop-m l =
    AreRowsWritten l.m (face_extents l.n l.g l.axis) (block_faces l.n l.g l.axis)
    (flux_at l.n l.g l.axis (flow_of l.flow) (number_at (cell_extents l.n l.g) l.cells)) l.initial.out l.out
