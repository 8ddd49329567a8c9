use Rattle.mesh_model.proofs.FieldLemmas.Divergence as laws
use Rattle.mesh_model.proofs.fields.laws.uniform_balances.Goals as goal

pub returns : goal.returns
returns c m b valid = laws.uniform_balances m.grid valid.grid b
