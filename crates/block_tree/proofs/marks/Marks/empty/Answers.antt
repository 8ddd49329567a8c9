use Rattle.std.proofs.Common.{◌≤◌, length, sym, ap, ◌∙◌, subst}
use Rattle.mesh_model.specs.Geometry.Limits.{most_nodes}
use Rattle.mesh_model.specs.Tree.Order.{nodes}
use Rattle.block_tree.specs.GridOf.{grid_of}
use Rattle.block_tree.proofs.Facts.{known}
use Rattle.block_tree.proofs.Unmarked.{unmarked, fits_unmarked}
use Rattle.block_tree.proofs.marks.Marks.empty.Goals as goal

pub returns-clause-none : goal.returns-clause-none
returns-clause-none c = unmarked (grid_of c.args.tree.now) _ c.most_nodes-most.result c.most_nodes-most.result c.in_ok-refine.ensures c.in_ok-derefine.ensures

pub returns-clause-marks : goal.returns-clause-marks
returns-clause-marks c =
    fits_unmarked (grid_of c.args.tree.now) _ c.most_nodes-most.result c.most_nodes-most.result c.in_ok-refine.ensures c.in_ok-derefine.ensures
    (subst (λ n. length (nodes (grid_of c.args.tree.now).leaves) ≤ n) (sym (c.most_nodes-most.ensures.value ∙ ap most_nodes c.shape.ensures.value)) (known c.args.tree.now).few)
