use Rattle.guard_fill.specs.Guarding.{IsReachedTo}
use Rattle.guard_fill.proofs.guarding.reach.Given as goal

abbrev pub invariant-loop-direction : goal.invariant-loop-direction
invariant-loop-direction g l = IsReachedTo g.row.N g.row.G l.world l.var l.node l.direction l.room
