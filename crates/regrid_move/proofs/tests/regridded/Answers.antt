use Rattle.std.proofs.Common.{◌≡◌, subst, arith}
use Rattle.mesh_model.specs.Tree.Kinds.{Grid}
use Rattle.mesh_model.specs.Tree.Order.{Sorted}
use Rattle.mesh_model.specs.Tree.ValidGrid.{FewNodes, Valid}
use Rattle.block_tree.proofs.Facts.{known}
use Rattle.block_tree.specs.Growing.{MayRegrow}
use Rattle.rank_world.proofs.Meshes.{of_some_mesh}
use Rattle.refine_marks.specs.Flags.{IsOnePerNode}
use Rattle.refine_marks.specs.Planned.{merged_by, refined_by}
use Rattle.regrid_move.proofs.tests.regridded.Goals as goal

pub regrid-requires : goal.regrid-requires
regrid-requires g c =
    let w = c.args.world.now in
    let tree = known c.tree.result.now in
    let at = c.tree.ensures in
    let plan = c.in_ok-plan.plan in
    let mesh = of_some_mesh w (subst Valid at tree.valid) (subst (λ (h : Grid). Sorted h.leaves) at tree.order) (subst FewNodes at tree.few) c.requires.few c.requires.cells.0 c.requires.cells.1 c.requires.range in (
      omega arith,
      (
        c.requires.fit,
        (
          mesh,
          (
            c.requires.range,
            (
              subst (λ (h : Grid). IsOnePerNode h plan.refine.items) at c.in_ok-plan.ensures.refine,
              (
                subst (λ (h : Grid). IsOnePerNode h plan.merge.items) at c.in_ok-plan.ensures.merge,
                subst (λ (h : Grid). MayRegrow h (refined_by h plan) (merged_by h plan)) at c.in_ok-plan.ensures.may,
              ),
            ),
          ),
        ),
      ),
    )
