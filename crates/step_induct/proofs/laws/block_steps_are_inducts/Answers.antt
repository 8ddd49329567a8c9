use Rattle.step_induct.proofs.Left.{lessened_held, lessened_inducted}
use Rattle.step_induct.proofs.laws.block_steps_are_inducts.Goals as goal

pub returns : goal.returns
returns c = record { held = lessened_held; inducted = lessened_inducted }
