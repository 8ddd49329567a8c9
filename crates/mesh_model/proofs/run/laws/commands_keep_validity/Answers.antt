use Rattle.mesh_model.proofs.RunLemmas.RunValid.{keeps_validity, same_declared}
use Rattle.mesh_model.proofs.run.laws.commands_keep_validity.Goals as goal

pub returns : goal.returns
returns c = record { valid = keeps_validity; declared = same_declared }
