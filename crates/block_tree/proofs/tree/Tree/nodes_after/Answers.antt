use Rattle.std.proofs.Common.{◌≡◌, ◌++◌, ◌<◌, Bool, List, length, take, sym, ap, ◌∙◌, subst, arith}
use Rattle.std.specs.Prelude.{flat_map}
use Rattle.std.proofs.Math.Seq.{take-length}
use Rattle.amr_num.specs.declared.BlockAt.{BlockAt}
use Rattle.mesh_model.specs.Tree.Order.{nodes}
use Rattle.morton_key.specs.Keyed.{HasKey}
use Rattle.block_tree.specs.GridOf.{grid_of}
use Rattle.block_tree.specs.Numbered.{block_at, block_in, blocks_of, flag_in}
use Rattle.block_tree.specs.Places.{nodes_for}
use Rattle.block_tree.proofs.Counting.{flat_take}
use Rattle.block_tree.proofs.Facts.{known}
use Rattle.block_tree.proofs.Flags.{set_at}
use Rattle.block_tree.proofs.Numbers.{key_at}
use Rattle.block_tree.proofs.Regrowing.{placed, placed_few, new_nodes}
use Rattle.block_tree.proofs.tree.Tree.nodes_after.Goals as goal

pub push_place-requires-clause-level : goal.push_place-requires-clause-level
push_place-requires-clause-level c = λ up.
    let t = c.args.self.now in
    let node = c.loop-node.node in
    let here : node < length (nodes (grid_of t).leaves) = let lt = c.loop-node-test.true in let len = c.len-node-end.ensures.value in omega arith in
    let deep = c.requires.may.deep (block_at (grid_of t) node) (set_at t (flag_in c.args.refine.now) node here ∙ up) in
    let top = (known t).valid.shape.max in
    let level : c.at.result.level ≡ (block_at (grid_of t) node).level = ap (λ (u : BlockAt). u.level) c.at.ensures.value in
    omega arith

pub push_place-requires-clause-place : goal.push_place-requires-clause-place
push_place-requires-clause-place c =
    let here : c.loop-node.node < length (nodes (grid_of c.args.self.now).leaves) = let lt = c.loop-node-test.true in let len = c.len-node-end.ensures.value in omega arith in
    subst (λ u. HasKey u) (sym c.at.ensures.value) (key_at c.args.self.now c.loop-node.node here)

pub loop-node-preserved : goal.loop-node-preserved
unfolding block_at
loop-node-preserved c =
    let t = c.args.self.now in
    let g = grid_of t in
    let all = nodes g.leaves in
    let node = c.loop-node.node in
    let b = block_in all node in
    let refine : BlockAt → Bool = blocks_of g (flag_in c.args.refine.now) in
    let merge : BlockAt → Bool = blocks_of g (flag_in c.args.merge.now) in
    let flag = flag_in c.args.refine.now node in
    let here : node < length all = let lt = c.loop-node-test.true in let len = c.len-node-end.ensures.value in omega arith in
    c.in_ok-push_place.ensures
    ∙ ap (λ u. c.loop-node.nodes.items ++ nodes_for u flag c.goes-goes.result) c.at.ensures.value
    ∙ ap (λ u. c.loop-node.nodes.items ++ nodes_for b u c.goes-goes.result) (sym (set_at t (flag_in c.args.refine.now) node here))
    ∙ ap (λ u. c.loop-node.nodes.items ++ nodes_for b (refine b) u) c.goes-goes.ensures
    ∙ ap (λ u. u ++ placed refine merge b) c.loop-node.invariant
    ∙ sym (flat_take (placed refine merge) all node here)

pub returns-clause-nodes : goal.returns-clause-nodes
returns-clause-nodes c =
    let t = c.args.self.now in
    let g = grid_of t in
    let all = nodes g.leaves in
    let refine : BlockAt → Bool = blocks_of g (flag_in c.args.refine.now) in
    let merge : BlockAt → Bool = blocks_of g (flag_in c.args.merge.now) in
    let end : c.loop-node.node ≡ length all = let last = c.loop-node-test.false in let room = c.loop-node.auto.node-end in let len = c.len-node-end.ensures.value in omega arith in
    c.loop-node.invariant
    ∙ ap (λ n. flat_map (placed refine merge) (take n all)) end
    ∙ ap (flat_map (placed refine merge)) (take-length all)
    ∙ new_nodes refine merge g (known t).valid c.requires.may

pub returns-clause-few : goal.returns-clause-few
returns-clause-few c =
    let t = c.args.self.now in
    let g = grid_of t in
    let all = nodes g.leaves in
    let refine : BlockAt → Bool = blocks_of g (flag_in c.args.refine.now) in
    let merge : BlockAt → Bool = blocks_of g (flag_in c.args.merge.now) in
    let end : c.loop-node.node ≡ length all = let last = c.loop-node-test.false in let room = c.loop-node.auto.node-end in let len = c.len-node-end.ensures.value in omega arith in
    let same = ap (λ (u : List BlockAt). length u) (c.loop-node.invariant ∙ ap (λ n. flat_map (placed refine merge) (take n all)) end ∙ ap (flat_map (placed refine merge)) (take-length all)) in
    let few = placed_few refine merge all in
    let size = c.requires.refine in
    omega arith
