use Rattle.mesh_model.proofs.RunLemmas.RunLaws as laws
use Rattle.mesh_model.proofs.run.laws.reports_alone_print.Goals as goal

pub returns : goal.returns
returns c = laws.prints_nothing
