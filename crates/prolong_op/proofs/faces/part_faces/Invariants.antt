use Rattle.mesh_model.specs.Fields.ArrayPlaces.{AreRowsWritten, face_extents, number_at}
use Rattle.mesh_model.specs.Fields.FaceSplits.{face_box}
use Rattle.prolong_op.specs.Splitting.{part_or_old}
use Rattle.prolong_op.proofs.faces.part_faces.Given as goal

abbrev pub invariant-loop-m : goal.invariant-loop-m
invariant-loop-m l =
    let s = l.split in
    let e = face_extents s.n s.g l.axis in
    AreRowsWritten l.m e (face_box s.n s.g l.axis) (part_or_old s.n s.g s.q s.kept l.axis (number_at e l.parent) (number_at e l.initial.child)) l.initial.child l.child
