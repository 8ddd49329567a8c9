use Rattle.std.proofs.Common.{sym, ap, ◌∙◌, arith}
use Rattle.mesh_model.specs.Geometry.Blocks.{child_block}
use Rattle.mesh_model.specs.Fields.Ranks.{Told}
use Rattle.block_tree.specs.Numbered.{block_at}
use Rattle.regrid_move.proofs.AxisMoved.{may_again, octants_kept, only_three, three_octants}
use Rattle.regrid_move.proofs.axes.sum_child_axes.Goals as goal

pub sum_axis-requires-2 : goal.sum_axis-requires-2
sum_axis-requires-2 g c =
    let told = c.sum_axis.ensures.only.told in (
      omega arith,
      (
        may_again g.row.N g.row.G c.args.kind c.args.old.now c.args.new.now c.sum_axis.new.new c.args.node c.requires.may told c.sum_axis.ensures.fit,
        (c.requires.child, (c.requires.octant, c.requires.inside ∙ ap (λ (t : Told). child_block (block_at t.grid c.args.node) c.args.octant) (sym told))),
      ),
    )

pub sum_axis-requires-3 : goal.sum_axis-requires-3
sum_axis-requires-3 g c =
    let told = c.sum_axis-2.ensures.only.told ∙ c.sum_axis.ensures.only.told in (
      omega arith,
      (
        may_again g.row.N g.row.G c.args.kind c.args.old.now c.args.new.now c.sum_axis-2.new.new c.args.node c.requires.may told c.sum_axis-2.ensures.fit,
        (c.requires.child, (c.requires.octant, c.requires.inside ∙ ap (λ (t : Told). child_block (block_at t.grid c.args.node) c.args.octant) (sym told))),
      ),
    )

pub returns-clause-only : goal.returns-clause-only
returns-clause-only g c = only_three c.args.kind c.args.new.now c.sum_axis.new.new c.sum_axis-2.new.new c.sum_axis-3.new.new c.args.node c.sum_axis.ensures.only c.sum_axis-2.ensures.only c.sum_axis-3.ensures.only

pub returns-clause-sums : goal.returns-clause-sums
returns-clause-sums g c field a holds =
    three_octants c.args.kind c.args.new.now c.sum_axis.new.new c.sum_axis-2.new.new c.sum_axis-3.new.new c.args.node c.sum_axis.ensures.only c.sum_axis-2.ensures.only c.sum_axis-3.ensures.only c.args.old.now field
    c.args.octant (c.sum_axis.ensures.sums field holds) (c.sum_axis-2.ensures.sums field holds) (c.sum_axis-3.ensures.sums field holds) a

pub returns-clause-stays : goal.returns-clause-stays
returns-clause-stays g c field p a hp ne holds before =
    octants_kept c.args.kind c.args.new.now c.sum_axis.new.new c.sum_axis-2.new.new c.sum_axis-3.new.new c.args.node c.sum_axis.ensures.only c.sum_axis-2.ensures.only c.sum_axis-3.ensures.only c.args.old.now field p
    (λ m. c.sum_axis.ensures.stays field p hp ne holds m) (λ m. c.sum_axis-2.ensures.stays field p hp ne holds m) (λ m. c.sum_axis-3.ensures.stays field p hp ne holds m) a before
