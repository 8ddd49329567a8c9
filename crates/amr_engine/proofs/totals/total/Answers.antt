use Rattle.std.proofs.Common.{◌≡◌, ◌+◌, ◌*◌, ◌^◌, ◌<◌, length, sym, ap, subst, ◌∙◌, arith, to_z}
use Rattle.std.specs.Int.{w128}
use Rattle.amr_num.specs.Numbers.{sum_below}
use Rattle.block_tree.proofs.Facts.{known}
use Rattle.mesh_model.specs.Tree.Kinds.{Grid}
use Rattle.mesh_model.specs.Tree.Order.{nodes}
use Rattle.mesh_model.specs.Tree.ValidGrid.{Valid}
use Rattle.block_tree.proofs.Numbers.{most_few}
use Rattle.mesh_steps.proofs.Machine.{more_of, more_small}
use Rattle.amr_engine.proofs.totals.total.Goals as goal
use Rattle.rank_world.specs.NodeSums.{node_sum}
use Rattle.rank_world.proofs.NodeSums.{node_sums}

pub loop-node-preserved : goal.loop-node-preserved
loop-node-preserved g c =
    let so_far = c.loop-node.invariant in
    let most = most_few c.tree.result.now.shape in
    let few : c.loop-node.node * 2 ^ 72 + 2 ^ 72 < 2 ^ 127 = omega (arith, c.loop-node-test.true, c.len-node-end.ensures.few, most) in
    let small = more_small (to_z w128 c.loop-node.sum-bits) c.node_total-sum.result (c.loop-node.node * 2 ^ 72) (2 ^ 72) so_far.small c.node_total-sum.ensures.small few in
    record {
      so_far = λ content holds. more_of (to_z w128 c.loop-node.sum-bits) c.node_total-sum.result (c.loop-node.node * 2 ^ 72) (2 ^ 72) so_far.small c.node_total-sum.ensures.small few
          (node_sum c.args.world.now.told.grid content) c.loop-node.node (so_far.so_far content holds) (c.node_total-sum.ensures.value content holds);
      small = omega (arith, small);
    }

pub returns-clause-value : goal.returns-clause-value
returns-clause-value g c content holds =
    let grid = c.args.world.now.told.grid in
    let valid : Valid grid = subst Valid c.tree.ensures (known c.tree.result.now).valid in
    let many : length (nodes grid.leaves) ≡ c.len-node-end.result = ap (λ (h : Grid). length (nodes h.leaves)) (sym c.tree.ensures) ∙ sym c.len-node-end.ensures.value in
    let all : c.loop-node.node ≡ length (nodes grid.leaves) = omega (arith, many) in
    c.loop-node.invariant.so_far content holds ∙ ap (λ m. sum_below m (node_sum grid content)) all ∙ node_sums grid content valid
