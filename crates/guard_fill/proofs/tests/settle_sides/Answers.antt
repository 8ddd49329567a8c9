use Rattle.std.proofs.Common.{arith}
use Rattle.guard_fill.proofs.TrialWorlds.{filled_trial, restricted_trial, trial_mesh}
use Rattle.guard_fill.proofs.tests.settle_sides.Goals as goal

pub restrict_all-requires : goal.restrict_all-requires
restrict_all-requires c = (omega arith, (c.requires.fit, (trial_mesh c.args.world.now c.tree-tree.result.now c.tree-tree.ensures c.requires, omega (arith, c.requires.cells))))

pub returns : goal.returns
returns c =
    let mid = c.restrict_all.new.world in
    filled_trial mid c.fill_sides.new.world (restricted_trial c.args.world.now mid c.requires c.restrict_all.ensures.fit c.restrict_all.ensures.only) c.fill_sides.ensures.fit c.fill_sides.ensures.only
