use Rattle.std.proofs.Common.{arith}
use Rattle.std.proofs.lemmas.Result.{err_from_is_err_and}
use Rattle.block_tree.specs.GridOf.{grid_of}
use Rattle.amr_report.specs.Arrays.{leaf_text_of}
use Rattle.amr_report.proofs.Printed.{place_broke, place_printed, places_printed}
use Rattle.amr_report.proofs.variables.print_leaves.Goals as goal

pub returns-in_err-print_if_leaf : goal.returns-in_err-print_if_leaf
returns-in_err-print_if_leaf g c =
    let p = err_from_is_err_and c.from_residual.result c.from_residual.ensures.1 in
    rw p.1 (place_broke _ _ _ (leaf_text_of (g.V.BlockValues.number c.args.values.now) c.args.name.now (grid_of c.args.tree.now) c.args.group) c.loop-node.node _ _ _ _ (omega arith) c.loop-node.invariant c.in_err-print_if_leaf.ensures)

pub loop-node-preserved : goal.loop-node-preserved
loop-node-preserved g c = place_printed _ _ _ (leaf_text_of (g.V.BlockValues.number c.args.values.now) c.args.name.now (grid_of c.args.tree.now) c.args.group) c.loop-node.node _ _ _ c.loop-node.invariant c.in_ok-print_if_leaf.ensures

pub returns : goal.returns
returns g c = places_printed _ _ (leaf_text_of (g.V.BlockValues.number c.args.values.now) c.args.name.now (grid_of c.args.tree.now) c.args.group) c.loop-node.node _ _ _ (omega arith) c.loop-node.invariant
