use Rattle.mesh_model.proofs.RunLemmas.RunLaws as laws
use Rattle.mesh_model.proofs.run.laws.runs_keep_totals.Goals as goal

pub returns : goal.returns
returns c = record { totals = laws.runs_keep_totals; outs = laws.runs_keep_outs }
