use Rattle.guard_fill.specs.Trials.{IsTrial}
use Rattle.guard_fill.proofs.tests.put_all.Given as goal

abbrev pub invariant-loop-at : goal.invariant-loop-at
invariant-loop-at l = IsTrial l.world
