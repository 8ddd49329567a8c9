-- The contents that a world's leaves have are the contents that its leaves hold.
use Rattle.std.proofs.Common.{◌≡◌, ℕ, ◌+◌, ◌*◌, ◌/◌, ◌%◌, ◌<◌, true, false, ℤ, pos, refl, sym, ap, ap₂, subst, ◌∙◌, arith, inl, inr}
use Rattle.std.proofs.lemmas.Bool.{cases_Bool}
use Rattle.std.proofs.lemmas.List.Sums.{position_or_len_is}
use Rattle.amr_num.specs.declared.BlockAt.{BlockAt}
use Rattle.amr_num.specs.declared.CellAt.{CellAt}
use Rattle.mesh_model.specs.Geometry.Blocks.{is_same_block}
use Rattle.mesh_model.specs.Geometry.Places.{in_block}
use Rattle.mesh_model.specs.Tree.Order.{Sorted, key, nodes}
use Rattle.mesh_model.specs.Tree.Kinds.{Grid, block_of, is_leaf, is_leaf_block}
use Rattle.mesh_model.specs.Tree.ValidGrid.{Valid}
use Rattle.mesh_model.specs.Fields.Ranks.{WorldState}
use Rattle.mesh_model.specs.Fields.Views.{cell_view}
use Rattle.mesh_model.proofs.FieldLemmas.BlockOctants.{block_of_cell}
use Rattle.mesh_model.proofs.FieldLemmas.BlockPlaces.{digit}
use Rattle.mesh_model.proofs.FieldLemmas.CellSums.{view_leaf}
use Rattle.mesh_model.proofs.FieldLemmas.LeafSums.{off_leaf, on_leaf}
use Rattle.mesh_model.proofs.FieldLemmas.ValidGrid.{leaf_whole}
use Rattle.mesh_model.proofs.TreeLemmas.Nodes.{nodes_sorted}
use Rattle.mesh_model.proofs.TreeLemmas.Tests.{refuted}
use Rattle.mesh_model.proofs.TreeLemmas.Tiling.{leaf_says}
use Rattle.block_tree.specs.Numbered.{IsNode, block_at}
use Rattle.block_tree.proofs.Flags.{same_says, same_shows}
use Rattle.block_tree.proofs.Leaves.{leaf_node}
use Rattle.block_tree.proofs.Members.{at_in, one_place}
use Rattle.rank_world.specs.Contents.{content_in, contents_of, node_of}
use Rattle.rank_world.specs.Holding.{IsLeafNode, LeavesHold, numbers_of}

-- ---- blocks and numbers of nodes

module _ (g : Grid) (valid : Valid g) (order : Sorted g.leaves) where
  -- a node's block has its number
  pub number_of_node : (node : ℕ) → IsNode g node → node_of g (block_at g node) ≡ node
  unfolding node_of block_at
  number_of_node node there =
      position_or_len_is (is_same_block (block_at g node)) (nodes g.leaves) node (record { level = 0; x = 0; y = 0; z = 0 }) (omega arith)
      (λ k before. refuted _ (λ same.
      let e = one_place (nodes g.leaves) (nodes_sorted g valid order) node k there (omega arith) (ap key (same_says (block_at g node) (block_at g k) same)) in
      absurd (omega arith)))
      (λ h. same_shows (block_at g node) (block_at g node) refl)

  -- and a leaf is the block of its number
  pub leaf_of_number : (b : BlockAt) → is_leaf_block g b ≡ true → IsLeafNode g (node_of g b) × (block_at g (node_of g b) ≡ b)
  unfolding block_at
  leaf_of_number b leaf =
      let found = at_in b (nodes g.leaves) (leaf_node g valid b (leaf_says g b leaf)) in
      let number : node_of g b ≡ found.0 = ap (node_of g) (sym found.2) ∙ number_of_node found.0 found.1 in
      let is : block_at g (node_of g b) ≡ b = ap (block_at g) number ∙ found.2 in
      (record { there = subst (IsNode g) (sym number) found.1; leaf = ap (is_leaf_block g) is ∙ leaf }, is)

-- ---- contents

-- a coordinate on an axis by its block and its place there
pub along : (n x : ℕ) → 0 < n → n * (x / n) + x % n ≡ x
along n x some = omega arith

cell_by_block : (n : ℕ) (c : CellAt) → 0 < n → in_block n (block_of n c) (c.x % n) (c.y % n) (c.z % n) ≡ c
cell_by_block n c some = λ i. record { level = c.level; x = along n c.x some i; y = along n c.y some i; z = along n c.z some i }

module _ (w : WorldState) (v : ℕ) (valid : Valid w.told.grid) (order : Sorted w.told.grid.leaves) where
  some_cells : 0 < w.told.grid.shape.n
  some_cells = elim valid.shape.cells [ inl four ↦ omega arith | inr eight ↦ omega arith ]

  -- what stands at a place of a node is the content of the cell there
  content_at : (node i j k : ℕ) → IsNode w.told.grid node → let n = w.told.grid.shape.n in let g = w.told.grid.shape.g in i < n → j < n → k < n →
      content_in w v (in_block n (block_at w.told.grid node) i j k) ≡ numbers_of w v node (g + i) (g + j) (g + k)
  unfolding content_in
  content_at node i j k there hi hj hk =
      let n = w.told.grid.shape.n in
      let g = w.told.grid.shape.g in
      let b = block_at w.told.grid node in
      let number : node_of w.told.grid (block_of n (in_block n b i j k)) ≡ node = ap (node_of w.told.grid) (block_of_cell n b i j k hi hj hk) ∙ number_of_node w.told.grid valid order node there in
      let at : (x u : ℕ) → u < n → (n * x + u) % n ≡ u = λ x u h. (let turned : n * x + u ≡ u + n * x = omega arith in ap (λ m. m % n) turned ∙ digit u n x h) in
      ap (λ m. numbers_of w v m (g + (n * b.x + i) % n) (g + (n * b.y + j) % n) (g + (n * b.z + k) % n)) number
      ∙ ap (λ x. numbers_of w v node (g + x) (g + (n * b.y + j) % n) (g + (n * b.z + k) % n)) (at b.x i hi)
      ∙ ap₂ (λ y z. numbers_of w v node (g + i) (g + y) (g + z)) (at b.y j hj) (at b.z k hk)

  leaf_cell : (node i j k : ℕ) → IsLeafNode w.told.grid node → let n = w.told.grid.shape.n in i < n → j < n → k < n → is_leaf w.told.grid (in_block n (block_at w.told.grid node) i j k) ≡ true
  leaf_cell node i j k leaf hi hj hk = ap (is_leaf_block w.told.grid) (block_of_cell w.told.grid.shape.n (block_at w.told.grid node) i j k hi hj hk) ∙ leaf.leaf

  -- a leaf cell's view is its content
  view_is : (content : CellAt → ℤ) (c : CellAt) → is_leaf w.told.grid c ≡ true → cell_view w.told.grid content c ≡ content c
  view_is content c leaf = view_leaf w.told.grid content c (leaf_whole w.told.grid valid c leaf) leaf

  -- the leaves hold the contents that they have
  pub leaves_hold : LeavesHold w v (contents_of w v)
  leaves_hold node leaf = record {
    at = λ i j k hi hj hk.
        let c = in_block w.told.grid.shape.n (block_at w.told.grid node) i j k in
        let here = leaf_cell node i j k leaf hi hj hk in
        sym (view_is (contents_of w v) c here ∙ on_leaf w.told.grid (content_in w v) c here ∙ content_at node i j k leaf.there hi hj hk);
  }

  -- and no others
  pub contents_are : (content : CellAt → ℤ) → LeavesHold w v content → ((c : CellAt) → is_leaf w.told.grid c ≡ false → content c ≡ pos 0) → (c : CellAt) → contents_of w v c ≡ content c
  contents_are content holds off c = elim (cases_Bool (is_leaf w.told.grid c)) [
    | inr other ↦ off_leaf w.told.grid (content_in w v) c other ∙ sym (off c other)
    | inl leaf ↦
        let n = w.told.grid.shape.n in
        let b = block_of n c in
        let found = leaf_of_number w.told.grid valid order b leaf in
        let node = node_of w.told.grid b in
        let same : in_block n (block_at w.told.grid node) (c.x % n) (c.y % n) (c.z % n) ≡ c = ap (λ p. in_block n p (c.x % n) (c.y % n) (c.z % n)) found.1 ∙ cell_by_block n c some_cells in
        let view = (holds node found.0).at (c.x % n) (c.y % n) (c.z % n) (omega (arith, some_cells)) (omega (arith, some_cells)) (omega (arith, some_cells)) in
        on_leaf w.told.grid (content_in w v) c leaf
        ∙ ap (content_in w v) (sym same) ∙ content_at node (c.x % n) (c.y % n) (c.z % n) found.0.there (omega (arith, some_cells)) (omega (arith, some_cells)) (omega (arith, some_cells))
        ∙ view ∙ ap (cell_view w.told.grid content) same ∙ view_is content c leaf
  ]
