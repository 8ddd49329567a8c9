use Rattle.mesh_model.specs.Fields.ArrayPlaces.{AreRowsWritten, face_extents}
use Rattle.mesh_model.specs.Fields.FaceSplits.{by_axis, face_box}
use Rattle.step_induct.specs.Circling.{edges_of, faces_of, lessened}
use Rattle.step_induct.proofs.circling.lessen.Given as goal

abbrev pub invariant-loop-m : goal.invariant-loop-m
invariant-loop-m l =
    let n = l.size.n in
    let g = l.size.g in
    AreRowsWritten l.m (face_extents n g l.axis) (face_box n g l.axis) (lessened (faces_of n g l.axis l.faces) (edges_of n g (by_axis l.ex l.ey l.ez)) l.axis) l.initial.out l.out
