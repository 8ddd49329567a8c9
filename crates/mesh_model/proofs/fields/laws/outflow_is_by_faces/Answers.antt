use Rattle.mesh_model.proofs.FieldLemmas.OuterFaces.{outflow_by_faces}
use Rattle.mesh_model.proofs.fields.laws.outflow_is_by_faces.Goals as goal

pub returns : goal.returns
returns c g content n valid = outflow_by_faces g content n valid
