use Rattle.mesh_model.proofs.FieldLemmas.CellKinds.{wide_of}
use Rattle.mesh_model.proofs.FieldLemmas.ValidGrid.{tree, deep_face}
use Rattle.mesh_model.proofs.FieldLemmas.FaceSums.{face_view_sum}
use Rattle.mesh_model.proofs.fields.laws.face_views_add_up.Goals as goal

pub returns : goal.returns
returns c g number f valid = face_view_sum g (tree g valid) (wide_of g.shape valid.shape) number f (deep_face g valid f)
