use Rattle.mesh_model.proofs.FieldLemmas.KeptValid.{faces_valid}
use Rattle.mesh_model.proofs.fields.laws.new_faces_keep_validity.Goals as goal

pub returns : goal.returns
returns c = faces_valid
