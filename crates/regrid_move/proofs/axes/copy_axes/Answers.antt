use Rattle.std.proofs.Common.{sym, ap, ◌∙◌, arith}
use Rattle.mesh_model.specs.Fields.Ranks.{Told}
use Rattle.block_tree.specs.Numbered.{block_at}
use Rattle.regrid_move.proofs.AxisMoved.{may_again, only_three, three_moved}
use Rattle.regrid_move.proofs.axes.copy_axes.Goals as goal

pub copy_axis-requires-2 : goal.copy_axis-requires-2
copy_axis-requires-2 g c =
    let told = c.copy_axis.ensures.only.told in (
      omega arith,
      (
        may_again g.row.N g.row.G c.args.kind c.args.old.now c.args.new.now c.copy_axis.new.new c.args.node c.requires.may told c.copy_axis.ensures.fit,
        (c.requires.from, c.requires.same ∙ ap (λ (t : Told). block_at t.grid c.args.node) (sym told)),
      ),
    )

pub copy_axis-requires-3 : goal.copy_axis-requires-3
copy_axis-requires-3 g c =
    let told = c.copy_axis-2.ensures.only.told ∙ c.copy_axis.ensures.only.told in (
      omega arith,
      (
        may_again g.row.N g.row.G c.args.kind c.args.old.now c.args.new.now c.copy_axis-2.new.new c.args.node c.requires.may told c.copy_axis-2.ensures.fit,
        (c.requires.from, c.requires.same ∙ ap (λ (t : Told). block_at t.grid c.args.node) (sym told)),
      ),
    )

pub returns-clause-only : goal.returns-clause-only
returns-clause-only g c = only_three c.args.kind c.args.new.now c.copy_axis.new.new c.copy_axis-2.new.new c.copy_axis-3.new.new c.args.node c.copy_axis.ensures.only c.copy_axis-2.ensures.only c.copy_axis-3.ensures.only

pub returns-clause-views : goal.returns-clause-views
returns-clause-views g c field holds =
    three_moved c.args.kind c.args.new.now c.copy_axis.new.new c.copy_axis-2.new.new c.copy_axis-3.new.new c.args.node c.copy_axis.ensures.only c.copy_axis-2.ensures.only c.copy_axis-3.ensures.only c.args.old.now field
    (c.copy_axis.ensures.views field holds) (c.copy_axis-2.ensures.views field holds) (c.copy_axis-3.ensures.views field holds)
