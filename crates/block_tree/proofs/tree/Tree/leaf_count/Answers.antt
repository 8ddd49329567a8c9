use Rattle.std.proofs.Common.{◌≡◌, ◌<◌, ◌≤◌, length, take, filter, List, sym, ap, ◌∙◌, subst, arith}
use Rattle.std.proofs.Math.Seq.{take-length}
use Rattle.amr_num.specs.declared.BlockAt.{BlockAt}
use Rattle.mesh_model.specs.Tree.Order.{nodes}
use Rattle.mesh_model.specs.Tree.Kinds.{is_leaf_block}
use Rattle.block_tree.specs.GridOf.{grid_of}
use Rattle.block_tree.specs.Numbered.{block_in, block_at}
use Rattle.block_tree.proofs.Counting.{passed_more, passed_few, one_more, none_more}
use Rattle.block_tree.proofs.Numbers.{most_few}
use Rattle.block_tree.proofs.Facts.{known}
use Rattle.block_tree.proofs.Leaves.{leaves_are}
use Rattle.block_tree.proofs.tree.Tree.leaf_count.Goals as goal
use Rattle.block_tree.proofs.tree.Tree.leaf_count.Goals.{then-is_leaf, else-is_leaf}

pub overflow_add-count : goal.overflow_add-count
overflow_add-count c =
    let g = grid_of c.args.self.now in
    let below : c.loop-node.count ≤ c.loop-node.node = subst (λ n. n ≤ c.loop-node.node) (sym c.loop-node.invariant) (passed_few (is_leaf_block g) (nodes g.leaves) c.loop-node.node) in
    let far = c.loop-node-test.true in
    let few = c.len-node-end.ensures.few in
    let most = most_few g.shape in
    omega arith

pub loop-node-preserved : goal.loop-node-preserved
unfolding block_at
loop-node-preserved c =
    let g = grid_of c.args.self.now in
    let all = nodes g.leaves in
    let node = c.loop-node.node in
    let count = c.loop-node.invariant in
    let here : node < length all = let lt = c.loop-node-test.true in let len = c.len-node-end.ensures.value in omega arith in
    let more = passed_more (is_leaf_block g) all node here in
    elim c.if-is_leaf.branch [
      | then-is_leaf w ↦ let one = one_more (is_leaf_block g) (block_in all node) (sym c.is_leaf.ensures ∙ w.if-is_leaf.true) in let up = w.count-is in omega arith
      | else-is_leaf w ↦ let none = none_more (is_leaf_block g) (block_in all node) (sym c.is_leaf.ensures ∙ w.if-is_leaf.false) in let same = w.count-is in omega arith
    ]

pub returns : goal.returns
returns c =
    let g = grid_of c.args.self.now in
    let all = nodes g.leaves in
    let end : c.loop-node.node ≡ length all = let last = c.loop-node-test.false in let room = c.loop-node.auto.node-end in let len = c.len-node-end.ensures.value in omega arith in
    c.loop-node.invariant
    ∙ ap (λ n. length (filter (is_leaf_block g) (take n all))) end
    ∙ ap (λ u. length (filter (is_leaf_block g) u)) (take-length all)
    ∙ ap (λ (u : List BlockAt). length u) (leaves_are g (known c.args.self.now).valid)
