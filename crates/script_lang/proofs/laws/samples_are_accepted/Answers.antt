use Rattle.script_lang.proofs.Accepting.{sample_accepted}
use Rattle.script_lang.proofs.laws.samples_are_accepted.Goals as goal

pub returns : goal.returns
returns c = sample_accepted
