-- The net fluxes of the cells of leaves, from the numbers on their sides.
use Rattle.std.proofs.Common.{◌≡◌, ℕ, suc, ◌+◌, ◌*◌, ◌<◌, true, List, ℤ, pos, ◌+ℤ◌, ◌-ℤ◌, sym, ap, ap₂, ◌∙◌, arith}
use Rattle.std.proofs.lemmas.Int.{ints}
use Rattle.amr_num.specs.Numbers.{sum_below}
use Rattle.amr_num.specs.declared.Axis.{Axis}
use Rattle.amr_num.specs.declared.Axis.TheVariants.{X, Y, Z}
use Rattle.amr_num.specs.declared.BlockAt.{BlockAt}
use Rattle.amr_num.specs.declared.FaceAt.{FaceAt}
use Rattle.mesh_model.specs.Fields.ArrayPlaces.{HoldsFaces}
use Rattle.mesh_model.specs.Fields.FinePlaces.{faces_in}
use Rattle.mesh_model.specs.Fields.Circulation.{net_flux}
use Rattle.mesh_model.specs.Fields.Ranks.{IsSized}
use Rattle.mesh_model.specs.Fields.Totals.{block_sum, box_sum, leaf_sum}
use Rattle.mesh_model.specs.Fields.Views.{face_view}
use Rattle.mesh_model.specs.Geometry.Canonical.{canonical_on}
use Rattle.mesh_model.specs.Geometry.Coordinates.{Inside, after, face_of, on, with}
use Rattle.mesh_model.specs.Geometry.Places.{in_block}
use Rattle.mesh_model.specs.Tree.Kinds.{Grid, is_leaf_block}
use Rattle.mesh_model.specs.Tree.Order.{Sorted, nodes}
use Rattle.mesh_model.specs.Tree.ValidGrid.{Valid}
use Rattle.mesh_model.proofs.FieldLemmas.BlockOctants.{block_of_cell}
use Rattle.mesh_model.proofs.FieldLemmas.Sums.{box_same}
use Rattle.mesh_model.proofs.FieldLemmas.Totals.{total_by_levels}
use Rattle.mesh_model.proofs.FieldLemmas.ValidGrid.{leaf_inside}
use Rattle.rank_world.proofs.FaceContents.{after_is, canonical_inside}
use Rattle.amr_engine.specs.Netting.{counted, counted_cell, faces_of, net_at}
use Rattle.std.proofs.Common.{length}
use Rattle.rank_world.specs.NodeSums.{node_sum}
use Rattle.rank_world.proofs.NodeSums.{node_sums}

-- one more count
pub one_more : (m k i : ℕ) (f : ℕ → ℤ) → pos m ≡ sum_below i f → pos k ≡ f i → pos (m + k) ≡ sum_below (i + 1) f
one_more m k i f so_far here =
    let next : suc i ≡ i + 1 = omega arith in
    let both : pos (m + k) ≡ pos m +ℤ pos k = omega (arith, ints) in
    both ∙ ap₂ (λ a b. a +ℤ b) so_far here ∙ ap (λ n. sum_below n f) next

module _ (g : Grid) (field : FaceAt → ℤ) (b : BlockAt) (xs ys zs : List ℤ) (valid : Valid g) (leaf : is_leaf_block g b ≡ true)
    (on_x : HoldsFaces g field X b (faces_in g X xs)) (on_y : HoldsFaces g field Y b (faces_in g Y ys)) (on_z : HoldsFaces g field Z b (faces_in g Z zs)) where
  abbrev n : ℕ
  n = g.shape.n

  abbrev faces : Axis → ℕ → ℕ → ℕ → ℤ
  faces = faces_of g.shape.n g.shape.g xs ys zs

  abbrev view : FaceAt → ℤ
  view = face_view g field

  inside : (i j k : ℕ) → i < n → j < n → k < n → Inside g.shape (in_block g.shape.n b i j k)
  inside i j k hi hj hk = leaf_inside g valid (in_block g.shape.n b i j k) (ap (is_leaf_block g) (block_of_cell g.shape.n b i j k hi hj hk) ∙ leaf)

  low_is : (a : Axis) (i j k : ℕ) → i < n → j < n → k < n → view (face_of a (canonical_on g.shape a (in_block g.shape.n b i j k))) ≡ view (face_of a (in_block g.shape.n b i j k))
  low_is a i j k hi hj hk = ap (λ c. view (face_of a c)) (canonical_inside g.shape a (in_block g.shape.n b i j k) (inside i j k hi hj hk))

  further : (x i : ℕ) → g.shape.n * x + (i + 1) ≡ suc (g.shape.n * x + i)
  further x i = omega arith

  -- the sides of a cell
  x_low : (i j k : ℕ) → i < n → j < n → k < n → faces X i j k ≡ view (face_of X (in_block g.shape.n b i j k))
  x_low i j k hi hj hk = on_x.at i j k (omega (arith, hi)) hj hk ∙ low_is X i j k hi hj hk

  x_high : (i j k : ℕ) → i < n → j < n → k < n → faces X (i + 1) j k ≡ view (face_of X (after g.shape X (in_block g.shape.n b i j k)))
  x_high i j k hi hj hk =
      let c = in_block g.shape.n b i j k in
      let next : in_block g.shape.n b (i + 1) j k ≡ with X (suc (on X c)) c = λ t. record { level = b.level; x = further b.x i t; y = g.shape.n * b.y + j; z = g.shape.n * b.z + k } in
      on_x.at (i + 1) j k (omega (arith, hi)) hj hk ∙ ap (λ d. view (face_of X d)) (ap (canonical_on g.shape X) next ∙ after_is g.shape X c)

  y_low : (i j k : ℕ) → i < n → j < n → k < n → faces Y i j k ≡ view (face_of Y (in_block g.shape.n b i j k))
  y_low i j k hi hj hk = on_y.at i j k hi (omega (arith, hj)) hk ∙ low_is Y i j k hi hj hk

  y_high : (i j k : ℕ) → i < n → j < n → k < n → faces Y i (j + 1) k ≡ view (face_of Y (after g.shape Y (in_block g.shape.n b i j k)))
  y_high i j k hi hj hk =
      let c = in_block g.shape.n b i j k in
      let next : in_block g.shape.n b i (j + 1) k ≡ with Y (suc (on Y c)) c = λ t. record { level = b.level; x = g.shape.n * b.x + i; y = further b.y j t; z = g.shape.n * b.z + k } in
      on_y.at i (j + 1) k hi (omega (arith, hj)) hk ∙ ap (λ d. view (face_of Y d)) (ap (canonical_on g.shape Y) next ∙ after_is g.shape Y c)

  z_low : (i j k : ℕ) → i < n → j < n → k < n → faces Z i j k ≡ view (face_of Z (in_block g.shape.n b i j k))
  z_low i j k hi hj hk = on_z.at i j k hi hj (omega (arith, hk)) ∙ low_is Z i j k hi hj hk

  z_high : (i j k : ℕ) → i < n → j < n → k < n → faces Z i j (k + 1) ≡ view (face_of Z (after g.shape Z (in_block g.shape.n b i j k)))
  z_high i j k hi hj hk =
      let c = in_block g.shape.n b i j k in
      let next : in_block g.shape.n b i j (k + 1) ≡ with Z (suc (on Z c)) c = λ t. record { level = b.level; x = g.shape.n * b.x + i; y = g.shape.n * b.y + j; z = further b.z k t } in
      on_z.at i j (k + 1) hi hj (omega (arith, hk)) ∙ ap (λ d. view (face_of Z d)) (ap (canonical_on g.shape Z) next ∙ after_is g.shape Z c)

  net_is : (i j k : ℕ) → i < n → j < n → k < n → net_at faces i j k ≡ net_flux g view (in_block g.shape.n b i j k)
  net_is i j k hi hj hk = ap₂ (λ p q. p +ℤ q)
      (ap₂ (λ p q. p +ℤ q) (ap₂ (λ p q. p -ℤ q) (x_high i j k hi hj hk) (x_low i j k hi hj hk)) (ap₂ (λ p q. p -ℤ q) (y_high i j k hi hj hk) (y_low i j k hi hj hk)))
      (ap₂ (λ p q. p -ℤ q) (z_high i j k hi hj hk) (z_low i j k hi hj hk))

  pub leaf_counted : box_sum g.shape.n g.shape.n g.shape.n (λ i j k. counted (net_at faces i j k)) ≡ block_sum g.shape.n (counted_cell g field) b
  leaf_counted = box_same g.shape.n g.shape.n g.shape.n (λ i j k. counted (net_at faces i j k)) (λ i j k. counted_cell g field (in_block g.shape.n b i j k))
      (λ i j k hi hj hk. ap counted (net_is i j k hi hj hk))

-- in the sizes of a world's blocks
pub block_sized : (m e : ℕ) (g : Grid) (xs ys zs : List ℤ) → IsSized m e g.shape →
    box_sum m m m (λ i j k. counted (net_at (faces_of m e xs ys zs) i j k)) ≡ box_sum g.shape.n g.shape.n g.shape.n (λ i j k. counted (net_at (faces_of g.shape.n g.shape.g xs ys zs) i j k))
block_sized m e g xs ys zs sized = ap₂ (λ u v. box_sum u u u (λ i j k. counted (net_at (faces_of u v xs ys zs) i j k))) (sym sized.cells) (sym sized.guards)

pub all_counted : (g : Grid) (field : FaceAt → ℤ) → Valid g → Sorted g.leaves → sum_below (length (nodes g.leaves)) (node_sum g (counted_cell g field)) ≡ leaf_sum g (counted_cell g field)
all_counted g field valid order = node_sums g (counted_cell g field) valid ∙ total_by_levels g (counted_cell g field) valid order
