use Rattle.std.proofs.lemmas.Result.{err_from_is_err_and}
use Rattle.std.specs.Prelude.{flat_map}
use Rattle.block_tree.specs.GridOf.{grid_of}
use Rattle.mesh_model.specs.Run.Texts.{leaf_text, mesh_text, size_text}
use Rattle.amr_report.proofs.Printed.{first_broke, printed_after}
use Rattle.amr_report.proofs.mesh.print_mesh.Goals as goal

pub returns-in_err-print_size : goal.returns-in_err-print_size
unfolding mesh_text
returns-in_err-print_size g c =
    let grid = grid_of c.args.tree.now in
    let p = err_from_is_err_and c.from_residual.result c.from_residual.ensures.1 in
    rw p.1 (first_broke _ _ (size_text grid) (flat_map leaf_text grid.leaves) _ _ c.in_err-print_size.ensures)

pub returns : goal.returns
unfolding mesh_text
returns g c =
    let grid = grid_of c.args.tree.now in
    printed_after _ _ _ _ (size_text grid) (flat_map leaf_text grid.leaves) _ _ _ c.in_ok-print_size.ensures c.print_leaves.ensures
