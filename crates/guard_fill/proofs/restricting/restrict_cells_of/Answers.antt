use Rattle.std.proofs.Common.{◌∙◌, ap, arith}
use Rattle.mesh_model.specs.declared.fields.values.Var.TheVariants.{Cell}
use Rattle.mesh_model.specs.Tree.Kinds.{Grid}
use Rattle.mesh_model.specs.Fields.Views.{cell_view}
use Rattle.guard_fill.proofs.Restricted.{ready_now}
use Rattle.guard_fill.proofs.Summable.{cells_add_up, cells_have, few_cells, nodes_hold_cells, valid}
use Rattle.guard_fill.proofs.restricting.restrict_cells_of.Goals as goal

pub restrict_arrays-requires : goal.restrict_arrays-requires
restrict_arrays-requires g c = (
  omega arith,
  (
    ready_now g.row.N g.row.G c.args.world.now (Cell c.args.v) c.shape-shape.result c.shape-shape.ensures.limits (c.shape-shape.ensures.value ∙ ap (λ (h : Grid). h.shape) c.tree.ensures)
        c.requires.fit c.requires.variable,
    few_cells c.args.world.now c.requires.mesh c.args.v c.requires.variable,
  ),
)

pub returns-clause-only : goal.returns-clause-only
returns-clause-only g c = let only = c.restrict_arrays.ensures.only in record {
  only = record { told = only.told; others = only.others };
  leaves = only.leaves;
}

pub returns-clause-views : goal.returns-clause-views
returns-clause-views g c content leaves =
    let w = c.args.world.now in
    let right = valid w c.requires.mesh in
    nodes_hold_cells w c.restrict_arrays.new.world right c.args.v content c.restrict_arrays.ensures.only.told
    (c.restrict_arrays.ensures.views (cell_view w.told.grid content) (cells_add_up w.told.grid right c.args.v content) (cells_have w c.requires.mesh c.args.v content leaves))
