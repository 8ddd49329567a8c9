use Rattle.mesh_model.proofs.RunLemmas.RunLaws as laws
use Rattle.mesh_model.proofs.run.laws.runs_keep_balance.Goals as goal

pub returns : goal.returns
returns c m lines valid fit = laws.runs_keep_balance m lines valid fit
