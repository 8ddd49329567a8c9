use Rattle.std.proofs.Common.{arith}
use Rattle.std.proofs.lemmas.Result.{err_from_is_err_and}
use Rattle.block_tree.specs.GridOf.{grid_of}
use Rattle.mesh_model.specs.Run.Texts.{leaf_text}
use Rattle.amr_report.specs.Nodes.{of_leaf}
use Rattle.amr_report.proofs.Numbered.{node_broke, nodes_printed}
use Rattle.amr_report.proofs.Printed.{place_printed}
use Rattle.amr_report.proofs.mesh.print_leaves.Goals as goal

pub returns-in_err-print_if_leaf : goal.returns-in_err-print_if_leaf
returns-in_err-print_if_leaf g c =
    let p = err_from_is_err_and c.from_residual.result c.from_residual.ensures.1 in
    rw p.1 (node_broke c.args.tree.now leaf_text _ _ _ c.loop-node.node _ _ _ (omega arith) c.loop-node.invariant c.in_err-print_if_leaf.ensures)

pub loop-node-preserved : goal.loop-node-preserved
loop-node-preserved g c = place_printed _ _ _ (of_leaf (grid_of c.args.tree.now) leaf_text) c.loop-node.node _ _ _ c.loop-node.invariant c.in_ok-print_if_leaf.ensures

pub returns : goal.returns
returns g c = nodes_printed c.args.tree.now leaf_text _ _ c.loop-node.node _ _ (omega arith) c.loop-node.invariant
