use Rattle.script_lang.proofs.Scripts.{faults_first}
use Rattle.script_lang.proofs.laws.faults_are_first.Goals as goal

pub returns : goal.returns
returns c = faults_first
