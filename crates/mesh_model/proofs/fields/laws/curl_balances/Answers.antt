use Rattle.mesh_model.proofs.FieldLemmas.Divergence as laws
use Rattle.mesh_model.proofs.fields.laws.curl_balances.Goals as goal

pub returns : goal.returns
returns c m valid = laws.curl_balances m.grid valid.grid m.edges
