-- Places of edges by lines, and where they stand in arrays.
use Rattle.std.proofs.Common.{◌≡◌, ℕ, ◌+◌, ◌*◌, ◌<◌, ◌≢◌, List, length, set, ℤ, pos, ◌+ℤ◌, ap, ap₂, ◌∙◌, arith}
use Rattle.std.proofs.lemmas.Int.{ints}
use Rattle.std.proofs.lemmas.List.{get_or-set_other, get_or-set_same, length-set}
use Rattle.amr_num.specs.declared.Axis.{Axis}
use Rattle.amr_num.specs.declared.Axis.TheVariants.{X, Y, Z}
use Rattle.mesh_model.specs.Fields.ArrayPlaces.{Extents, edge_extents, place_in}
use Rattle.mesh_model.specs.Geometry.Places.{longer_across}
use Rattle.mesh_model.proofs.FieldLemmas.BlockPlaces.{same_x, same_y, same_z}
use Rattle.edge_average.specs.EdgeSums.{IsEdgeSet, edge_at, pair_at}
use Rattle.edge_average.specs.Lines.{IsEdgePlace, line_place}

-- ---- places by three numbers, and by one along an axis and two across it

pub by_line : (P : ℕ → ℕ → ℕ → Type 0) (a : Axis) (n : ℕ) → ((p s t : ℕ) → IsEdgePlace n p s t → P (line_place a p s t).x (line_place a p s t).y (line_place a p s t).z) →
    (i j k : ℕ) → i < longer_across a X n → j < longer_across a Y n → k < longer_across a Z n → P i j k
by_line P X n each i j k hi hj hk = each i j k (record { along = hi; first = omega (arith, hj); second = omega (arith, hk) })
by_line P Y n each i j k hi hj hk = each j k i (record { along = hj; first = omega (arith, hk); second = omega (arith, hi) })
by_line P Z n each i j k hi hj hk = each k i j (record { along = hk; first = omega (arith, hi); second = omega (arith, hj) })

pub at_line : (P : ℕ → ℕ → ℕ → Type 0) (a : Axis) (n : ℕ) → ((i j k : ℕ) → i < longer_across a X n → j < longer_across a Y n → k < longer_across a Z n → P i j k) →
    (p s t : ℕ) → IsEdgePlace n p s t → P (line_place a p s t).x (line_place a p s t).y (line_place a p s t).z
at_line P X n each p s t place = (let one = place.first in let two = place.second in each p s t place.along (omega (arith, one)) (omega (arith, two)))
at_line P Y n each p s t place = (let one = place.first in let two = place.second in each t p s (omega (arith, two)) place.along (omega (arith, one)))
at_line P Z n each p s t place = (let one = place.first in let two = place.second in each s t p (omega (arith, one)) (omega (arith, two)) place.along)

-- ---- where an edge stands

abbrev pub edge_stands : ℕ → ℕ → Axis → ℕ → ℕ → ℕ → ℕ
edge_stands n g a p s t = place_in (edge_extents n g a) (g + (line_place a p s t).x) (g + (line_place a p s t).y) (g + (line_place a p s t).z)

three_same : (e : Extents) (i j k x y z : ℕ) → i < e.x → x < e.x → j < e.y → y < e.y → place_in e i j k ≡ place_in e x y z → (i ≡ x) × (j ≡ y) × (k ≡ z)
three_same e i j k x y z hi hx hj hy is = (same_x e i j k x y z hi hx is, same_y e i j k x y z hi hx hj hy is, same_z e i j k x y z hi hx hj hy is)

module _ (n g p s t i q r : ℕ) (one : IsEdgePlace n p s t) (other : IsEdgePlace n i q r) where
  once : (a : Axis) → edge_stands n g a i q r ≡ edge_stands n g a p s t → (i ≡ p) × (q ≡ s) × (r ≡ t)
  once X is = let same = three_same (edge_extents n g X) _ _ _ _ _ _ (omega arith) (omega arith) (omega arith) (omega arith) is in (omega arith, omega arith, omega arith)
  once Y is = let same = three_same (edge_extents n g Y) _ _ _ _ _ _ (omega arith) (omega arith) (omega arith) (omega arith) is in (omega arith, omega arith, omega arith)
  once Z is = let same = three_same (edge_extents n g Z) _ _ _ _ _ _ (omega arith) (omega arith) (omega arith) (omega arith) is in (omega arith, omega arith, omega arith)

-- an edge is written
pub edge_set : (n g : ℕ) (a : Axis) (p s t : ℕ) (value : ℤ) (old : List ℤ) → IsEdgePlace n p s t → edge_stands n g a p s t < length old →
    IsEdgeSet n g a p s t value old (set old (edge_stands n g a p s t) value)
unfolding edge_at
edge_set n g a p s t value old one inside = record {
  size = length-set old (edge_stands n g a p s t) value;
  here = get_or-set_same old (edge_stands n g a p s t) value (pos 0) inside;
  others = λ i q r other apart.
      let ne : edge_stands n g a i q r ≢ edge_stands n g a p s t = (λ is. let same = once n g p s t i q r one other a is in apart same.0 same.1 same.2) in
      get_or-set_other old (edge_stands n g a p s t) (edge_stands n g a i q r) value (pos 0) ne;
}

-- two edges, one after the other
pub pair_is : (n g : ℕ) (a : Axis) (xs : List ℤ) (m s t : ℕ) (v w : ℤ) → v ≡ edge_at n g a xs (2 * m) s t → w ≡ edge_at n g a xs (2 * m + 1) s t → v +ℤ w ≡ pair_at n g a xs m s t
unfolding pair_at
pair_is n g a xs m s t v w ev ew =
    let even : 2 * m ≡ 2 * m + 0 = omega arith in
    let first : v ≡ pos 0 +ℤ v = omega (arith, ints) in
    ap₂ (λ x y. x +ℤ y) (first ∙ ap (λ x. pos 0 +ℤ x) (ev ∙ ap (λ k. edge_at n g a xs k s t) even)) ew
