use Rattle.std.proofs.Common.{◌≡◌, ◌+◌, not, sym, ap, ap₂, ◌∙◌, arith}
use Rattle.amr_num.specs.declared.BlockAt.{BlockAt}
use Rattle.mesh_model.specs.Geometry.Blocks.{child_block}
use Rattle.block_tree.specs.GridOf.{grid_of}
use Rattle.block_tree.specs.Numbered.{IsNode, block_at}
use Rattle.block_tree.proofs.Equal.{equal_test}
use Rattle.block_tree.proofs.Facts.{known}
use Rattle.block_tree.proofs.Next.{has_key}
use Rattle.block_tree.proofs.Numbers.{leaf_by_next, next_test}
use Rattle.block_tree.proofs.tree.Tree.is_leaf.Goals as goal
use Rattle.block_tree.proofs.tree.Tree.is_leaf.Goals.{then-b-ge10-via-then-b-ge10, then-b-ge10-via-else-b-ge10+then-next-len}

pub child_block-requires-clause-place : goal.child_block-requires-clause-place
child_block-requires-clause-place c =
    let t = c.args.self.now in
    has_key t.shape c.at-b.result (known t).valid.shape c.at-b.ensures.inside

pub returns-then-b-ge10 : goal.returns-then-b-ge10
returns-then-b-ge10 c =
    let t = c.args.self.now in
    let g = grid_of t in
    let level : c.at-b.result.level ≡ (block_at g c.args.node).level = ap (λ (u : BlockAt). u.level) c.at-b.ensures.value in
    sym (leaf_by_next t c.args.node c.requires (λ more deep e. elim c.then-b-ge10.branch [
      | then-b-ge10-via-then-b-ge10 w ↦ let high = w.if-b-ge10.true in omega arith
      | then-b-ge10-via-else-b-ge10+then-next-len w ↦ let far = w.if-next-len.true in let len = w.len.ensures.value in omega arith
    ]))

pub returns : goal.returns
returns c =
    let t = c.args.self.now in
    let g = grid_of t in
    let more : IsNode g (c.args.node + 1) = let lt = c.if-next-len.false in let len = c.len.ensures.value in omega arith in
    c.ne.ensures
    ∙ ap₂ (λ u w. not (equal_test u w)) c.at.ensures.value (c.child_block.ensures ∙ ap (λ u. child_block u 0) c.at-b.ensures.value)
    ∙ next_test t c.args.node c.requires more
