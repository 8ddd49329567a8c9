-- Sums over the nodes of a tree.
use Rattle.std.proofs.Common.{◌≡◌, ℕ, zero, suc, ◌+◌, Bool, true, false, List, [], ◌∷◌, length, get_or, filter, ℤ, pos, ◌+ℤ◌, refl, ap, ◌∙◌, arith}
use Rattle.std.specs.Prelude.{if◌then◌else◌}
use Rattle.std.proofs.lemmas.Int.{ints}
use Rattle.amr_num.specs.Numbers.{sum_below}
use Rattle.amr_num.specs.declared.BlockAt.{BlockAt}
use Rattle.amr_num.specs.declared.CellAt.{CellAt}
use Rattle.mesh_model.specs.Fields.ArrayPlaces.{HoldsViews}
use Rattle.mesh_model.specs.Fields.Totals.{block_sum, box_sum, sum_over, total}
use Rattle.mesh_model.specs.Geometry.Places.{in_block}
use Rattle.mesh_model.specs.Tree.Kinds.{Grid, is_leaf, is_leaf_block}
use Rattle.mesh_model.specs.Tree.Order.{nodes}
use Rattle.mesh_model.specs.Tree.ValidGrid.{Valid}
use Rattle.mesh_model.proofs.FieldLemmas.BlockOctants.{block_of_cell}
use Rattle.mesh_model.proofs.FieldLemmas.CellSums.{view_leaf}
use Rattle.mesh_model.proofs.FieldLemmas.Sums.{box_same}
use Rattle.mesh_model.proofs.FieldLemmas.ValidGrid.{leaf_whole}
use Rattle.block_tree.specs.Numbered.{block_at}
use Rattle.block_tree.proofs.Leaves.{leaves_are}
use Rattle.rank_world.specs.NodeSums.{node_sum}

-- the first of a sum
first_apart : (k : ℕ) (f : ℕ → ℤ) → sum_below (suc k) f ≡ f 0 +ℤ sum_below k (λ i. f (suc i))
first_apart zero f = omega (arith, ints)
first_apart (suc k) f = let here = first_apart k f in omega (arith, ints)

-- a sum over those blocks of a list that pass
passing_sum : (f : BlockAt → ℤ) (p : BlockAt → Bool) (all : List BlockAt) (d : BlockAt) →
    sum_below (length all) (λ k. if p (get_or all k d) then f (get_or all k d) else pos 0) ≡ sum_over f (filter p all)
passing_sum f p [] d = refl
passing_sum f p (b ∷ bs) d =
    first_apart (length bs) (λ k. if p (get_or (b ∷ bs) k d) then f (get_or (b ∷ bs) k d) else pos 0) ∙ ap (λ s. (if p b then f b else pos 0) +ℤ s) (passing_sum f p bs d) ∙ by (p b)
  where
    by : (t : Bool) → (if t then f b else pos 0) +ℤ sum_over f (filter p bs) ≡ sum_over f (if t then b ∷ filter p bs else filter p bs)
    by true = refl
    by false = omega (arith, ints)

-- the sum over all nodes is the total
pub node_sums : (g : Grid) (content : CellAt → ℤ) → Valid g → sum_below (length (nodes g.leaves)) (node_sum g content) ≡ total g content
unfolding block_at
node_sums g content valid =
    passing_sum (block_sum g.shape.n content) (is_leaf_block g) (nodes g.leaves) (record { level = 0; x = 0; y = 0; z = 0 })
    ∙ ap (sum_over (block_sum g.shape.n content)) (leaves_are g valid)

-- the sum of the numbers of a leaf's cells is the sum of its contents
pub leaf_sum_is : (g : Grid) (content : CellAt → ℤ) (b : BlockAt) (numbers : ℕ → ℕ → ℕ → ℤ) → Valid g → is_leaf_block g b ≡ true → HoldsViews g content b numbers →
    box_sum g.shape.n g.shape.n g.shape.n (λ i j k. numbers (g.shape.g + i) (g.shape.g + j) (g.shape.g + k)) ≡ block_sum g.shape.n content b
leaf_sum_is g content b numbers valid leaf holds =
    let n = g.shape.n in
    box_same n n n (λ i j k. numbers (g.shape.g + i) (g.shape.g + j) (g.shape.g + k)) (λ i j k. content (in_block n b i j k)) (λ i j k hi hj hk.
    let c = in_block n b i j k in
    let here : is_leaf g c ≡ true = ap (is_leaf_block g) (block_of_cell n b i j k hi hj hk) ∙ leaf in
    holds.at i j k hi hj hk ∙ view_leaf g content c (leaf_whole g valid c here) here)
