use Rattle.mesh_model.proofs.FieldLemmas.KeptValid.{advect_valid}
use Rattle.mesh_model.proofs.fields.laws.advect_keeps_validity.Goals as goal

pub returns : goal.returns
returns c = advect_valid
