use Rattle.guard_fill.proofs.TrialWorlds.{new_trial}
use Rattle.block_tree.specs.GridOf.{grid_of}
use Rattle.guard_fill.proofs.tests.world_of.Goals as goal

pub returns-in-Ok : goal.returns-in-Ok
returns-in-Ok c = new_trial (grid_of c.args.tree) c.in-Ok.world c.in-Ok.ensures
