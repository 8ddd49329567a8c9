use Rattle.mesh_model.proofs.TreeLemmas.Ruled.{refined_may, least}
use Rattle.mesh_model.proofs.fields.laws.refined_is_least.Goals as goal

pub returns : goal.returns
returns c m valid = (refined_may m valid, least m valid)
