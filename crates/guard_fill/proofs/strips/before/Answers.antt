use Rattle.std.proofs.Common.{sym}
use Rattle.guard_fill.proofs.AxisStrips.{before_other, before_same, reach_before}
use Rattle.guard_fill.proofs.strips.before.Goals as goal

pub returns-in-Some : goal.returns-in-Some
returns-in-Some c =
    reach_before c.args.n c.args.g c.args.positions c.args.periodic c.args.blocks c.args.block _ c.requires.size c.requires.block
    (before_other c.args.n c.args.g c.args.periodic c.args.blocks c.args.block c.in-Some.other c.requires.size c.requires.block (sym c.in-Some.ensures))

pub returns-in-None : goal.returns-in-None
returns-in-None c =
    reach_before c.args.n c.args.g c.args.positions c.args.periodic c.args.blocks c.args.block _ c.requires.size c.requires.block
    (before_same c.args.n c.args.g c.args.periodic c.args.blocks c.args.block c.requires.size c.requires.block (sym c.in-None.ensures))
