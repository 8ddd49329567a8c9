use Rattle.step_induct.proofs.Held.{circulations_held}
use Rattle.step_induct.proofs.laws.block_circulations_are_held.Goals as goal

pub returns : goal.returns
returns c = circulations_held
