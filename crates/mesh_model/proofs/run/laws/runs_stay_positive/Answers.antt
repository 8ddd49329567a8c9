use Rattle.mesh_model.proofs.RunLemmas.RunLaws as laws
use Rattle.mesh_model.proofs.run.laws.runs_stay_positive.Goals as goal

pub returns : goal.returns
returns c m lines valid fit = laws.runs_stay_positive m lines valid fit
