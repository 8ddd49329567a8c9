use Rattle.guard_fill.proofs.AxisStrips.{reach_along}
use Rattle.guard_fill.proofs.strips.along.Goals as goal

pub returns : goal.returns
returns c = reach_along c.args.n c.args.g c.args.positions c.args.periodic c.args.blocks c.args.block c.own_places.result c.requires.block c.own_places.ensures.value
