use Rattle.mesh_model.proofs.FieldLemmas.Start.{start_mesh_valid}
use Rattle.mesh_model.proofs.fields.laws.start_is_valid.Goals as goal

pub returns : goal.returns
returns c = start_mesh_valid
