use Rattle.mesh_model.proofs.FieldLemmas.Circling as laws
use Rattle.mesh_model.proofs.fields.laws.circulations_cancel.Goals as goal

pub returns : goal.returns
returns c g at d = laws.circulations_cancel g at d
