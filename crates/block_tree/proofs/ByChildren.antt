-- Kinds of nodes, by their children.
use Rattle.std.proofs.Common.{◌≡◌, ℕ, ◌<◌, true, false, Option, Some, None, MatchOption, is_some, refl, ap, ◌∙◌}
use Rattle.std.specs.List.{list_any}
use Rattle.amr_num.specs.declared.BlockAt.{BlockAt}
use Rattle.mesh_model.specs.Geometry.Blocks.{child_block, children}
use Rattle.mesh_model.specs.Tree.Kinds.{kind_of, Grid, is_leaf_block}
use Rattle.mesh_model.proofs.TreeLemmas.Closure.{in_children, from_children}
use Rattle.mesh_model.proofs.TreeLemmas.Tests.{refuted, found, there}
use Rattle.block_tree.specs.Numbered.{IsNumberOf}
use Rattle.mesh_model.specs.declared.tree.NodeKind.TheVariants.{Leaf, AboveLeaf, Inner}

module _ (g : Grid) (b : BlockAt) where
  pub is_low : is_leaf_block g b ≡ true → Leaf ≡ kind_of g b
  unfolding kind_of
  is_low t = rw t refl

  pub is_parent : (q : ℕ) → q < 8 → is_leaf_block g b ≡ false → is_leaf_block g (child_block b q) ≡ true → AboveLeaf ≡ kind_of g b
  unfolding kind_of
  is_parent q h f t = let some = there (is_leaf_block g) (child_block b q) (children b) (in_children b q h) t in rw f (rw some refl)

  pub is_inner : is_leaf_block g b ≡ false → ((q : ℕ) → q < 8 → is_leaf_block g (child_block b q) ≡ false) → Inner ≡ kind_of g b
  unfolding kind_of
  is_inner f none =
      let no = refuted (list_any (is_leaf_block g) (children b)) (λ t.
      let c = found (is_leaf_block g) (children b) t in
      let q = from_children b c.0 c.1 in
      let leaf = ap (is_leaf_block g) q.2 ∙ c.2 in
      let other = none q.0 q.1 in
      cc) in
      rw f (rw no refl)

-- what a search for a leaf tells
pub found_leaf : (g : Grid) (b : BlockAt) (r : Option ℕ) → MatchOption r (is_leaf_block g b ≡ false) (λ i. (is_leaf_block g b ≡ true) × IsNumberOf g b i) → is_leaf_block g b ≡ is_some r
found_leaf g b None h = h
found_leaf g b (Some i) h = h.0
