use Rattle.guard_fill.specs.Filling.{IsGatheredTo}
use Rattle.guard_fill.proofs.filling.gather.Given as goal

abbrev pub invariant-loop-direction : goal.invariant-loop-direction
invariant-loop-direction g l = IsGatheredTo g.row.N g.row.G l.guards l.world l.v l.node l.direction l.room
