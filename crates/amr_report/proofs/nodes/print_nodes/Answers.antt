use Rattle.std.proofs.Common.{arith}
use Rattle.std.proofs.lemmas.Result.{err_from_is_err_and}
use Rattle.block_tree.specs.GridOf.{grid_of}
use Rattle.amr_report.specs.Nodes.{node_line}
use Rattle.amr_report.proofs.Numbered.{line_broke, lines_printed}
use Rattle.amr_report.proofs.Printed.{place_printed}
use Rattle.amr_report.proofs.nodes.print_nodes.Goals as goal

pub returns-in_err-print_node : goal.returns-in_err-print_node
returns-in_err-print_node g c =
    let p = err_from_is_err_and c.from_residual.result c.from_residual.ensures.1 in
    rw p.1 (line_broke (grid_of c.args.tree.now) _ _ _ c.loop-node.node _ _ _ (omega arith) c.loop-node.invariant c.in_err-print_node.ensures)

pub loop-node-preserved : goal.loop-node-preserved
loop-node-preserved g c = place_printed _ _ _ (node_line (grid_of c.args.tree.now)) c.loop-node.node _ _ _ c.loop-node.invariant c.in_ok-print_node.ensures

pub returns : goal.returns
returns g c = lines_printed (grid_of c.args.tree.now) _ _ c.loop-node.node _ _ (omega arith) c.loop-node.invariant
