-- Places of faces in arrays: no two faces stand at one.
use Rattle.std.proofs.Common.{◌≡◌, ℕ, ◌+◌, ◌*◌, ◌^◌, ◌<◌, ◌≢◌, List, length, set, ℤ, pos, ◌+ℤ◌, ap, ap₂, ◌∙◌, arith}
use Rattle.std.proofs.lemmas.Int.{ints}
use Rattle.std.proofs.lemmas.List.{get_or-set_other, get_or-set_same, length-set}
use Rattle.amr_num.specs.Numbers.{Within}
use Rattle.amr_num.specs.declared.Axis.{Axis}
use Rattle.amr_num.specs.declared.Axis.TheVariants.{X, Y, Z}
use Rattle.mesh_model.specs.Fields.ArrayPlaces.{Extents, face_extents, place_in}
use Rattle.mesh_model.proofs.FieldLemmas.BlockPlaces.{same_x, same_y, same_z}
use Rattle.flux_conserve.specs.Jumps.{IsFacePlace, spot}
use Rattle.flux_conserve.specs.Sums.{IsFaceSet, four_at}
use Rattle.flux_conserve.specs.FaceArrays.{face_at}

-- where a face stands
abbrev pub stands_at : ℕ → ℕ → Axis → ℕ → ℕ → ℕ → ℕ
stands_at n g a p s t = place_in (face_extents n g a) (g + (spot a p s t).x) (g + (spot a p s t).y) (g + (spot a p s t).z)

three_same : (e : Extents) (i j k x y z : ℕ) → i < e.x → x < e.x → j < e.y → y < e.y → place_in e i j k ≡ place_in e x y z → (i ≡ x) × (j ≡ y) × (k ≡ z)
three_same e i j k x y z hi hx hj hy is = (same_x e i j k x y z hi hx is, same_y e i j k x y z hi hx hj hy is, same_z e i j k x y z hi hx hj hy is)

module _ (n g p s t q i j : ℕ) (one : IsFacePlace n p s t) (other : IsFacePlace n q i j) where
  once : (a : Axis) → stands_at n g a q i j ≡ stands_at n g a p s t → (q ≡ p) × (i ≡ s) × (j ≡ t)
  once X is = let same = three_same (face_extents n g X) _ _ _ _ _ _ (omega arith) (omega arith) (omega arith) (omega arith) is in (omega arith, omega arith, omega arith)
  once Y is = let same = three_same (face_extents n g Y) _ _ _ _ _ _ (omega arith) (omega arith) (omega arith) (omega arith) is in (omega arith, omega arith, omega arith)
  once Z is = let same = three_same (face_extents n g Z) _ _ _ _ _ _ (omega arith) (omega arith) (omega arith) (omega arith) is in (omega arith, omega arith, omega arith)

-- a face is written
pub face_set : (n g : ℕ) (a : Axis) (p s t : ℕ) (value : ℤ) (old : List ℤ) → IsFacePlace n p s t → stands_at n g a p s t < length old →
    IsFaceSet n g a p s t value old (set old (stands_at n g a p s t) value)
unfolding face_at
face_set n g a p s t value old one inside = record {
  size = length-set old (stands_at n g a p s t) value;
  here = get_or-set_same old (stands_at n g a p s t) value (pos 0) inside;
  others = λ q i j other apart.
      let ne : stands_at n g a q i j ≢ stands_at n g a p s t = (λ is. let same = once n g p s t q i j one other a is in apart same.0 same.1 same.2) in
      get_or-set_other old (stands_at n g a p s t) (stands_at n g a q i j) value (pos 0) ne;
}

-- four faces, one after the other
pub four_are : (n g : ℕ) (a : Axis) (xs : List ℤ) (p s t : ℕ) (v0 v1 v2 v3 : ℤ) → v0 ≡ face_at n g a xs p (2 * s) (2 * t) → v1 ≡ face_at n g a xs p (2 * s + 1) (2 * t) →
    v2 ≡ face_at n g a xs p (2 * s) (2 * t + 1) → v3 ≡ face_at n g a xs p (2 * s + 1) (2 * t + 1) → ((v0 +ℤ v1) +ℤ v2) +ℤ v3 ≡ four_at n g a xs p s t
unfolding four_at
four_are n g a xs p s t v0 v1 v2 v3 e0 e1 e2 e3 =
    let s0 : 2 * s ≡ 2 * s + 0 = omega arith in
    let t0 : 2 * t ≡ 2 * t + 0 = omega arith in
    let first : v0 ≡ pos 0 +ℤ v0 = omega (arith, ints) in
    ap₂ (λ u v. u +ℤ v)
    (ap₂ (λ u v. u +ℤ v)
    (ap₂ (λ u v. u +ℤ v) (first ∙ ap (λ v. pos 0 +ℤ v) (e0 ∙ ap₂ (λ u v. face_at n g a xs p u v) s0 t0)) (e1 ∙ ap (λ v. face_at n g a xs p (2 * s + 1) v) t0))
    (e2 ∙ ap (λ u. face_at n g a xs p u (2 * t + 1)) s0))
    e3

-- they are not too great together
pub four_small : (v0 v1 v2 v3 : ℤ) → Within (2 ^ 56) v0 → Within (2 ^ 56) v1 → Within (2 ^ 56) v2 → Within (2 ^ 56) v3 → Within (2 ^ 58) (((v0 +ℤ v1) +ℤ v2) +ℤ v3)
four_small v0 v1 v2 v3 h0 h1 h2 h3 = omega (arith, ints)
