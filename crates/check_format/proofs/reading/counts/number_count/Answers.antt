use Rattle.std.proofs.Common.{◌≡◌, ◌≤◌, ℕ, length, flat_map, ap, sym, ◌∙◌, arith}
use Rattle.std.specs.List.{range_with_len}
use Rattle.block_tree.specs.GridOf.{grid_of}
use Rattle.block_tree.proofs.Facts.{known}
use Rattle.check_format.specs.Counts.{own_node}
use Rattle.check_format.proofs.Counting.{by_nodes, count_more}
use Rattle.check_format.proofs.reading.counts.number_count.Goals as goal

pub loop-node-preserved : goal.loop-node-preserved
loop-node-preserved c =
    let before = c.loop-node.invariant.few in
    let here = c.node_count-count.ensures.few in
    record {
      value = count_more (own_node c.args.group (grid_of c.args.tree.now)) c.loop-node.node c.loop-node.count c.node_count-count.result c.loop-node.invariant.value c.node_count-count.ensures.value;
      few = omega arith;
    }

pub returns : goal.returns
returns c =
    let t = c.args.tree.now in
    let last = c.loop-node-test.false in
    let end = c.loop-node.auto.node-end in
    let many : c.loop-node.node ≡ c.len-node-end.result = omega arith in
    c.loop-node.invariant.value ∙ ap (λ n. length (flat_map (own_node c.args.group (grid_of t)) (range_with_len 0 n))) (many ∙ c.len-node-end.ensures.value)
    ∙ by_nodes (grid_of t) (known t).valid c.args.group
