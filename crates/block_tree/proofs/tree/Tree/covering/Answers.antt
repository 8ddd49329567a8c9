use Rattle.std.proofs.Common.{◌≡◌, ◌+◌, false, sym, ap, ◌∙◌, subst, arith, inl, inr}
use Rattle.std.proofs.lemmas.Bool.{cases_lt}
use Rattle.mesh_model.specs.Tree.Kinds.{block_of, is_leaf_block}
use Rattle.mesh_model.specs.Geometry.Blocks.{LiesIn}
use Rattle.block_tree.specs.GridOf.{grid_of}
use Rattle.block_tree.proofs.ByChildren.{found_leaf}
use Rattle.block_tree.proofs.Covering.{over, over_in, nowhere, split_or_outside, covered_whole, covered_inside, on_leaf}
use Rattle.block_tree.proofs.Facts.{known}
use Rattle.block_tree.proofs.tree.Tree.covering.Goals as goal

pub loop-level-preserved : goal.loop-level-preserved
unfolding over
loop-level-preserved c = λ k h. elim (cases_lt k c.loop-level.level) [
  | inl lt ↦ c.loop-level.invariant k lt
  | inr le ↦
      let g = grid_of c.args.self.now in
      let here : c.loop-level.level ≡ k = omega arith in
      let no = ap (is_leaf_block g) (sym c.block_over.ensures) ∙ found_leaf g c.block_over.result c.leaf_at-leaf.result c.leaf_at-leaf.ensures ∙ sym c.is_some.ensures ∙ c.if-is_some.false in
      subst (λ n. is_leaf_block g (over g.shape.n c.args.c n) ≡ false) here no
]

pub returns-clause-nowhere : goal.returns-clause-nowhere
returns-clause-nowhere c =
    let t = c.args.self.now in
    let end = c.loop-level-test.false in
    nowhere (grid_of t) (known t).valid c.args.c (c.min-finest.result + 1) (λ l h. c.loop-level.invariant l (omega arith)) (λ leaf i h.
    let room = ((known t).valid.tiles.inside leaf i).level in
    let least = c.min-finest.ensures in
    omega arith)

pub returns-clause-none : goal.returns-clause-none
returns-clause-none c = split_or_outside (grid_of c.args.self.now) (known c.args.self.now).valid c.args.c (returns-clause-nowhere c)

pub returns-then-is_some-clause-whole : goal.returns-then-is_some-clause-whole
unfolding over
returns-then-is_some-clause-whole c =
    let g = grid_of c.args.self.now in
    let b = c.block_over.result in
    let far = c.loop-level-test.true in
    let least = c.min-finest.ensures in
    let inside = subst (λ u. LiesIn (block_of g.shape.n c.args.c) u) (sym c.block_over.ensures) (over_in g.shape.n c.args.c c.loop-level.level (omega arith)) in
    on_leaf g b c.leaf_at-leaf.result _ c.leaf_at-leaf.ensures (λ i. covered_whole g (known c.args.self.now).valid c.args.c b i inside)

pub returns-then-is_some-clause-inside : goal.returns-then-is_some-clause-inside
unfolding over
returns-then-is_some-clause-inside c =
    let g = grid_of c.args.self.now in
    let b = c.block_over.result in
    let far = c.loop-level-test.true in
    let least = c.min-finest.ensures in
    let inside = subst (λ u. LiesIn (block_of g.shape.n c.args.c) u) (sym c.block_over.ensures) (over_in g.shape.n c.args.c c.loop-level.level (omega arith)) in
    on_leaf g b c.leaf_at-leaf.result _ c.leaf_at-leaf.ensures (λ i. covered_inside g (known c.args.self.now).valid c.args.c b i inside)
