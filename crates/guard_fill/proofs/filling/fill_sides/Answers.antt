use Rattle.guard_fill.proofs.Filled.{sides_asked}
use Rattle.guard_fill.proofs.filling.fill_sides.Goals as goal

pub returns-clause-guards : goal.returns-clause-guards
returns-clause-guards g c content holds = sides_asked c.fill_cells_of.new.world c.args.v content (c.fill_cells_of.ensures.guards content holds)
