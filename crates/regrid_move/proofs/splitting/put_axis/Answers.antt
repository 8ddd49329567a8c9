use Rattle.std.proofs.Common.{◌∙◌}
use Rattle.regrid_move.proofs.AxisMoved.{axis_fit, axis_only, axis_value}
use Rattle.regrid_move.proofs.splitting.put_axis.Goals as goal

pub returns-clause-only : goal.returns-clause-only
returns-clause-only g c =
    axis_only g.row.N g.row.G c.args.kind c.args.new.now c.args.axis c.args.node c.var_of.result c.var_of.ensures c.copy_from_slice.new.self c.requires.size c.requires.fit c.requires.node c.requires.declared

pub returns-clause-fit : goal.returns-clause-fit
returns-clause-fit g c =
    axis_fit g.row.N g.row.G c.args.kind c.args.new.now c.args.axis c.args.node c.var_of.result c.var_of.ensures c.copy_from_slice.new.self c.requires.size c.requires.fit c.requires.node c.requires.declared

pub returns-clause-value : goal.returns-clause-value
returns-clause-value g c =
    axis_value g.row.N g.row.G c.args.kind c.args.new.now c.args.axis c.args.node c.var_of.result c.var_of.ensures c.copy_from_slice.new.self c.requires.size c.requires.fit c.requires.node c.requires.declared
    (c.copy_from_slice.ensures.len ∙ c.values_mut.ensures.whole) ∙ c.copy_from_slice.ensures.after
