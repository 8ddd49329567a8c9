use Rattle.step_induct.proofs.Lifted.{forces_of_leaves}
use Rattle.step_induct.proofs.laws.block_forces_are_of_leaves.Goals as goal

pub returns : goal.returns
returns c = forces_of_leaves
