use Rattle.step_advect.proofs.Nets.{applied_advected, left_advected}
use Rattle.step_advect.proofs.OuterSides.{all_lost}
use Rattle.step_advect.proofs.Refusals.{none_refused, refused_first}
use Rattle.step_advect.proofs.laws.block_steps_are_advects.Goals as goal

pub returns : goal.returns
returns c = record {
  left = left_advected;
  applied = applied_advected;
  refused = λ g content n b cells fx fy fz at valid holds is. refused_first g content n b cells fx fy fz valid holds at is;
  in_range = λ g content n b cells fx fy fz valid holds within. none_refused g content n b cells fx fy fz valid holds within;
  out = λ g content n b cells fx fy fz sides valid holds outer. all_lost g b sides valid holds.leaf outer content n cells fx fy fz holds;
}
