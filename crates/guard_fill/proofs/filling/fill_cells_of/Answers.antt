use Rattle.std.proofs.Common.{◌∙◌, ap, arith, rules}
use Rattle.mesh_model.specs.declared.fields.values.Var.TheVariants.{Cell}
use Rattle.mesh_model.specs.Tree.Kinds.{Grid}
use Rattle.guard_fill.proofs.Restricted.{ready_now}
use Rattle.guard_fill.proofs.filling.fill_cells_of.Goals as goal

pub fill_variable-requires : goal.fill_variable-requires
fill_variable-requires g c = (
  omega arith,
  (
    ready_now g.row.N g.row.G c.args.world.now (Cell c.args.v) c.shape-shape.result c.shape-shape.ensures.limits (c.shape-shape.ensures.value ∙ ap (λ (h : Grid). h.shape) c.tree.ensures)
        c.requires.fit c.requires.variable,
    search rules,
  ),
)
