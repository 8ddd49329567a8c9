use Rattle.mesh_model.proofs.FieldLemmas.Conserving as laws
use Rattle.mesh_model.proofs.fields.laws.advect_conserves.Goals as goal

pub returns : goal.returns
returns c m var n v valid = laws.advect_conserves m var n valid v
