use Rattle.std.proofs.Common.{◌≡◌, ap, arith, length, subst, sym, ◌∙◌}
use Rattle.block_tree.proofs.Facts.{known}
use Rattle.mesh_model.specs.Tree.Kinds.{Grid}
use Rattle.mesh_model.specs.Tree.Order.{Sorted, nodes}
use Rattle.mesh_model.specs.Tree.ValidGrid.{Valid}
use Rattle.amr_num.specs.Numbers.{sum_below}
use Rattle.amr_engine.specs.Netting.{counted_cell}
use Rattle.amr_engine.proofs.Netted.{all_counted}
use Rattle.amr_engine.proofs.netting.net_fluxes.Goals as goal
use Rattle.rank_world.specs.NodeSums.{node_sum}

pub returns-clause-count : goal.returns-clause-count
returns-clause-count g c field holds =
    let grid = c.args.world.now.told.grid in
    let facts = known c.tree.result.now in
    let valid : Valid grid = subst Valid c.tree.ensures facts.valid in
    let order : Sorted grid.leaves = subst (λ (h : Grid). Sorted h.leaves) c.tree.ensures facts.order in
    let many : length (nodes grid.leaves) ≡ c.len-node-end.result = ap (λ (h : Grid). length (nodes h.leaves)) (sym c.tree.ensures) ∙ sym c.len-node-end.ensures.value in
    let all : c.loop-node.node ≡ length (nodes grid.leaves) = omega (arith, many) in
    c.loop-node.invariant.so_far field holds ∙ ap (λ m. sum_below m (node_sum grid (counted_cell grid field))) all ∙ all_counted grid field valid order
