use Rattle.std.proofs.Common.{◌≡◌, ◌<◌, false, sym, ap, ◌∙◌, subst, arith, inl, inr}
use Rattle.std.proofs.lemmas.Bool.{cases_lt}
use Rattle.amr_num.specs.declared.BlockAt.{BlockAt}
use Rattle.mesh_model.specs.Geometry.Blocks.{child_block}
use Rattle.mesh_model.specs.Tree.Kinds.{is_leaf_block}
use Rattle.morton_key.specs.Keyed.{HasKey}
use Rattle.block_tree.specs.GridOf.{grid_of}
use Rattle.block_tree.specs.Numbered.{block_at}
use Rattle.block_tree.proofs.ByChildren.{is_low, is_parent, is_inner, found_leaf}
use Rattle.block_tree.proofs.Numbers.{inner_room, key_at}
use Rattle.block_tree.proofs.tree.Tree.kind.Goals as goal

pub returns-then-is_leaf : goal.returns-then-is_leaf
returns-then-is_leaf c = let g = grid_of c.args.self.now in is_low g (block_at g c.args.node) (sym c.is_leaf.ensures ∙ c.if-is_leaf.true)

pub child_block-requires-clause-level : goal.child_block-requires-clause-level
child_block-requires-clause-level c =
    subst (λ (u : BlockAt). u.level < 10) (sym c.at-b.ensures.value) (inner_room c.args.self.now c.args.node c.requires (sym c.is_leaf.ensures ∙ c.if-is_leaf.false))

pub child_block-requires-clause-place : goal.child_block-requires-clause-place
child_block-requires-clause-place c = subst (λ u. HasKey u) (sym c.at-b.ensures.value) (key_at c.args.self.now c.args.node c.requires)

pub returns-then-is_some : goal.returns-then-is_some
returns-then-is_some c =
    let g = grid_of c.args.self.now in
    let octant = c.loop-octant.octant in
    let same = c.child_block.ensures ∙ ap (λ u. child_block u octant) c.at-b.ensures.value in
    let leaf = ap (is_leaf_block g) (sym same) ∙ found_leaf g c.child_block.result c.leaf_at.result c.leaf_at.ensures ∙ sym c.is_some.ensures ∙ c.if-is_some.true in
    is_parent g (block_at g c.args.node) octant (let lt = c.loop-octant-test.true in omega arith) (sym c.is_leaf.ensures ∙ c.if-is_leaf.false) leaf

pub loop-octant-preserved : goal.loop-octant-preserved
loop-octant-preserved c = λ q h. elim (cases_lt q c.loop-octant.octant) [
  | inl lt ↦ c.loop-octant.invariant q lt
  | inr le ↦
      let g = grid_of c.args.self.now in
      let here : c.loop-octant.octant ≡ q = omega arith in
      let no = ap (is_leaf_block g) (sym c.child_block.ensures) ∙ found_leaf g c.child_block.result c.leaf_at.result c.leaf_at.ensures ∙ sym c.is_some.ensures ∙ c.if-is_some.false in
      subst (λ n. is_leaf_block g (child_block c.at-b.result n) ≡ false) here no
]

pub returns : goal.returns
returns c =
    let g = grid_of c.args.self.now in
    is_inner g (block_at g c.args.node) (sym c.is_leaf.ensures ∙ c.if-is_leaf.false) (λ q h.
    ap (λ u. is_leaf_block g (child_block u q)) (sym c.at-b.ensures.value) ∙ c.loop-octant.invariant q (let end = c.loop-octant-test.false in omega arith))
