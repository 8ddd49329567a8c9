-- A tree's nodes by their numbers.
use Rattle.std.proofs.Common.{◌≡◌, ℕ, ◌+◌, ◌<◌, ◌≤◌, ◌==◌, true, false, not, sym, ap, ◌∙◌, subst, inl, inr, arith, List, length, get_or, Option, Some, None, MatchOption}
use Rattle.std.proofs.lemmas.Bool.{cases_Bool}
use Rattle.std.proofs.lemmas.List.{get_or_read}
use Rattle.amr_num.specs.declared.BlockAt.{BlockAt}
use Rattle.mesh_model.proofs.TreeLemmas.Nodes.{nodes_sorted}
use Rattle.mesh_model.specs.declared.geometry.Shape.{Shape}
use Rattle.mesh_model.specs.Geometry.Blocks.{child_block, parent_block, InDomain}
use Rattle.mesh_model.specs.Geometry.Limits.{most_nodes}
use Rattle.mesh_model.specs.Tree.Order.{IsIn, Sorted, nodes}
use Rattle.mesh_model.specs.Tree.Kinds.{is_leaf_block, is_split_block}
use Rattle.mesh_model.proofs.TreeLemmas.Tests.{refuted}
use Rattle.mesh_model.proofs.TreeLemmas.Tiling.{leaf_says}
use Rattle.morton_key.specs.Keyed.{HasKey}
use Rattle.block_tree.specs.declared.tree.Tree.{Tree}
use Rattle.block_tree.specs.GridOf.{grid_of}
use Rattle.block_tree.specs.Numbered.{IsNode, block_in, block_at, IsNumberOf}
use Rattle.block_tree.proofs.Equal.{equal_test, equal_shows, equal_says}
use Rattle.block_tree.proofs.Facts.{known}
use Rattle.block_tree.proofs.Leaves.{node_inside, node_split, leaf_node, parent_node, child_node}
use Rattle.block_tree.proofs.Members.{in_at}
use Rattle.block_tree.proofs.Next.{has_key, node_key, node_room, next_child, next_other}

pub most_few : (s : Shape) → most_nodes s ≤ 8192
most_few s = elim (cases_Bool (s.g == 4)) [
  | inl t ↦ rw t (omega arith)
  | inr f ↦ rw f (omega arith)
]

module _ (t : Tree) where
  -- what is read from the list is the node's block
  pub node_block : (i : ℕ) (b : BlockAt) → IsNode (grid_of t) i → b ≡ get_or t.nodes.items i b → b ≡ block_at (grid_of t) i
  unfolding block_at
  node_block i b h e =
      let whole = (known t).whole in
      let within : i < length t.nodes.items = subst (λ (u : List BlockAt). i < length u) whole h in
      get_or_read t.nodes.items i b within e (record { level = 0; x = 0; y = 0; z = 0 }) ∙ ap (λ u. block_in u i) (sym whole)

  pub node_in_all : (i : ℕ) → IsNode (grid_of t) i → IsIn (block_at (grid_of t) i) (nodes (grid_of t).leaves)
  unfolding block_at
  node_in_all i h = in_at (nodes (grid_of t).leaves) i h

  pub block_inside : (i : ℕ) → IsNode (grid_of t) i → InDomain t.shape (block_at (grid_of t) i)
  block_inside i h = node_inside (grid_of t) (known t).valid (block_at (grid_of t) i) (node_in_all i h)

  -- ---- the list that is kept

  pub kept_sorted : Sorted t.nodes.items
  kept_sorted = let tree = known t in subst (λ u. Sorted u) tree.whole (nodes_sorted (grid_of t) tree.valid tree.order)

  pub kept_key : (b : BlockAt) → IsIn b t.nodes.items → HasKey b
  kept_key b i = let tree = known t in node_key (grid_of t) tree.valid tree.order tree.few b (subst (λ u. IsIn b u) (sym tree.whole) i)

  pub kept_few : length t.nodes.items ≤ 8192
  kept_few =
      let tree = known t in
      let same = ap (λ (u : List BlockAt). length u) tree.whole in
      let few = tree.few in
      let most = most_few t.shape in
      omega arith

  pub kept_number : (b : BlockAt) (i : ℕ) → i < length t.nodes.items → block_in t.nodes.items i ≡ b → IsNumberOf (grid_of t) b i
  unfolding block_at
  kept_number b i h e =
      let whole = sym (known t).whole in
      record { there = subst (λ (u : List BlockAt). i < length u) whole h; block = ap (λ u. block_in u i) (sym whole) ∙ e }

  -- ---- leaves

  -- a node that has no first child directly behind it is a leaf
  pub leaf_by_next : (i : ℕ) → IsNode (grid_of t) i → (IsNode (grid_of t) (i + 1) → (block_at (grid_of t) i).level < 10 → block_at (grid_of t) (i + 1) ≡ child_block (block_at (grid_of t) i) 0 → ⊥) → is_leaf_block (grid_of t) (block_at (grid_of t) i) ≡ true
  unfolding block_at
  leaf_by_next i h none = elim (cases_Bool (is_leaf_block (grid_of t) (block_in (nodes (grid_of t).leaves) i))) [
    | inl h2 ↦ h2
    | inr f ↦
        let g = grid_of t in
        let next = next_child g (known t).valid (known t).order (known t).few i h f in
        let b = block_in (nodes (grid_of t).leaves) i in
        let deep = node_room g (known t).valid (known t).order (known t).few b (node_split g (known t).valid b (in_at (nodes (grid_of t).leaves) i h) f) in
        absurd (none next.0 deep next.1)
  ]

  pub inner_by_next : (i : ℕ) → IsNode (grid_of t) i → IsNode (grid_of t) (i + 1) → block_at (grid_of t) (i + 1) ≡ child_block (block_at (grid_of t) i) 0 → is_leaf_block (grid_of t) (block_at (grid_of t) i) ≡ false
  unfolding block_at
  inner_by_next i h k e = refuted _ (λ h2. next_other (grid_of t) (known t).valid (known t).order (known t).few i k h2 e)

  pub next_test : (i : ℕ) → IsNode (grid_of t) i → IsNode (grid_of t) (i + 1) → not (equal_test (block_at (grid_of t) (i + 1)) (child_block (block_at (grid_of t) i) 0)) ≡ is_leaf_block (grid_of t) (block_at (grid_of t) i)
  next_test i h k =
      let b = block_at (grid_of t) i in
      let next = block_at (grid_of t) (i + 1) in
      elim (cases_Bool (equal_test next (child_block b 0))) [
        | inl same ↦ ap not same ∙ sym (inner_by_next i h k (equal_says next (child_block b 0) same))
        | inr f ↦ ap not f ∙ sym (leaf_by_next i h (λ more deep e. let same = equal_shows next (child_block b 0) e in cc))
      ]

  pub no_leaf : (b : BlockAt) → (IsIn b (nodes (grid_of t).leaves) → ⊥) → is_leaf_block (grid_of t) b ≡ false
  no_leaf b none = refuted _ (λ leaf. none (leaf_node (grid_of t) (known t).valid b (leaf_says (grid_of t) b leaf)))

  -- a node that was looked for is found
  pub looked_up : (b : BlockAt) (r : Option ℕ) (P : Type 0) (Q : ℕ → Type 0) → IsIn b (nodes (grid_of t).leaves) → MatchOption r (IsIn b (nodes (grid_of t).leaves) → ⊥) (IsNumberOf (grid_of t) b) → ((i : ℕ) → IsNumberOf (grid_of t) b i → Q i) → MatchOption r P Q
  looked_up b None P Q here h f = absurd (h here)
  looked_up b (Some i) P Q here h f = f i h

  pub parent_in_all : (i : ℕ) → IsNode (grid_of t) i → 0 < (block_at (grid_of t) i).level → IsIn (parent_block (block_at (grid_of t) i)) (nodes (grid_of t).leaves)
  parent_in_all i h up = parent_node (grid_of t) (known t).valid (block_at (grid_of t) i) (node_in_all i h) up

  pub splits : (i : ℕ) → IsNode (grid_of t) i → is_leaf_block (grid_of t) (block_at (grid_of t) i) ≡ false → is_split_block (grid_of t) (block_at (grid_of t) i) ≡ true
  splits i h f = node_split (grid_of t) (known t).valid (block_at (grid_of t) i) (node_in_all i h) f

  pub child_in_all : (i q : ℕ) → IsNode (grid_of t) i → is_leaf_block (grid_of t) (block_at (grid_of t) i) ≡ false → IsIn (child_block (block_at (grid_of t) i) q) (nodes (grid_of t).leaves)
  child_in_all i q h f = child_node (grid_of t) (known t).valid (block_at (grid_of t) i) q (splits i h f)

  pub inner_room : (i : ℕ) → IsNode (grid_of t) i → is_leaf_block (grid_of t) (block_at (grid_of t) i) ≡ false → (block_at (grid_of t) i).level < 10
  inner_room i h f = node_room (grid_of t) (known t).valid (known t).order (known t).few (block_at (grid_of t) i) (splits i h f)

  pub key_at : (i : ℕ) → IsNode (grid_of t) i → HasKey (block_at (grid_of t) i)
  key_at i h = has_key t.shape (block_at (grid_of t) i) (known t).valid.shape (block_inside i h)
