use Rattle.amr_num.specs.declared.Axis.{Axis}
use Rattle.mesh_model.specs.Fields.FaceSplits.{all_faces, by_axis, face_between}
use Rattle.prolong_op.specs.Splitting.{AreBetween}
use Rattle.prolong_op.proofs.faces.fill_cells.Given as goal

abbrev pub invariant-loop-c : goal.invariant-loop-c
invariant-loop-c l = (a : Axis) →
    AreBetween l.c l.n l.g a (face_between l.g a (all_faces l.n l.g (by_axis l.initial.cx l.initial.cy l.initial.cz))) (by_axis l.initial.cx l.initial.cy l.initial.cz a) (by_axis l.cx l.cy l.cz a)
