use Rattle.step_advect.proofs.Lifted.{fluxes_of_leaves}
use Rattle.step_advect.proofs.laws.block_fluxes_are_of_leaves.Goals as goal

pub returns : goal.returns
returns c = fluxes_of_leaves
