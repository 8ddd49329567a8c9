use Rattle.mesh_model.proofs.TreeLemmas.Ruled.{merged_may, greatest}
use Rattle.mesh_model.proofs.fields.laws.merged_is_greatest.Goals as goal

pub returns : goal.returns
returns c m valid = (merged_may m valid, greatest m valid)
