use Rattle.script_lang.proofs.Scripts.{script_in_limits, script_fits}
use Rattle.script_lang.proofs.laws.accepted_scripts_fit.Goals as goal

pub returns : goal.returns
returns c = record { declarations = script_in_limits; commands = script_fits }
