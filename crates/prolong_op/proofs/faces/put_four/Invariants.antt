use Rattle.amr_num.specs.Numbers.{at}
use Rattle.mesh_model.specs.Fields.ArrayPlaces.{AreRowsWritten, place_in}
use Rattle.prolong_op.specs.Splitting.{four_box, four_extents}
use Rattle.prolong_op.proofs.faces.put_four.Given as goal

abbrev pub invariant-loop-m : goal.invariant-loop-m
invariant-loop-m l =
    AreRowsWritten l.m l.extents (four_box l.axis l.corner.x l.corner.y l.corner.z) (λ i j k. at l.values (place_in (four_extents l.axis) i j k)) l.initial.faces l.faces
