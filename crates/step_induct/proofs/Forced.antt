-- Rows of a block's edges, the faces upstream of them, and the size of their forces.
use Rattle.std.proofs.Common.{◌≡◌, ℕ, zero, suc, ◌+◌, ◌-◌, ◌*◌, ◌^◌, ◌<◌, ◌≤◌, Bool, true, false, List, ℤ, pos, negsuc, ◌-ℤ◌, ◌*ℤ◌, ap, subst, sym, ◌∙◌, arith}
use Rattle.std.specs.Prelude.{if◌then◌else◌, neg_ℤ, unsigned_abs}
use Rattle.std.proofs.lemmas.Int.{ints}
use Rattle.amr_num.specs.Numbers.{Within, carry, floor_div}
use Rattle.amr_num.proofs.Sizes.{carried_size}
use Rattle.amr_num.specs.declared.Axis.{Axis}
use Rattle.amr_num.specs.declared.Axis.TheVariants.{X, Y, Z}
use Rattle.mesh_model.specs.Geometry.Coordinates.{next, step}
use Rattle.mesh_model.specs.Geometry.Places.{longer_across}
use Rattle.mesh_model.specs.Fields.Advect.{speed}
use Rattle.mesh_model.specs.Fields.ArrayPlaces.{Fits, edge_extents, face_extents, number_at}
use Rattle.mesh_model.specs.Fields.EdgeSplits.{edge_box}
use Rattle.mesh_model.specs.Fields.FaceSplits.{all_faces}
use Rattle.step_induct.specs.Forces.{AreEdgesWithin, AreFacesNear, Flow, IsNear, IsSlow, force_at, force_from, is_closed_edge, places_back, upstream_number}

-- the edges of a block lie within their array
pub edges_fit : (n g : ℕ) (a : Axis) → Fits (edge_extents n g a) (edge_box n g a)
edges_fit n g X = record { x = omega arith; y = omega arith; z = omega arith }
edges_fit n g Y = record { x = omega arith; y = omega arith; z = omega arith }
edges_fit n g Z = record { x = omega arith; y = omega arith; z = omega arith }

-- their places are no further than the block
pub edge_inside : (a : Axis) (n i j k : ℕ) → i < longer_across a X n → j < longer_across a Y n → k < longer_across a Z n → (i ≤ n) × (j ≤ n) × (k ≤ n)
edge_inside X n i j k hi hj hk = (omega arith, omega arith, omega arith)
edge_inside Y n i j k hi hj hk = (omega arith, omega arith, omega arith)
edge_inside Z n i j k hi hj hk = (omega arith, omega arith, omega arith)

-- ---- upstream

back_small : (q : Axis) (m : ℤ) → let s = step q (places_back m) in (s.x ≤ 1) × (s.y ≤ 1) × (s.z ≤ 1)
back_small X (pos m) = (omega arith, omega arith, omega arith)
back_small Y (pos m) = (omega arith, omega arith, omega arith)
back_small Z (pos m) = (omega arith, omega arith, omega arith)
back_small X (negsuc m) = (omega arith, omega arith, omega arith)
back_small Y (negsuc m) = (omega arith, omega arith, omega arith)
back_small Z (negsuc m) = (omega arith, omega arith, omega arith)

near : (n g i h : ℕ) → i ≤ n → h ≤ 1 → IsNear n g (g + i - h)
near n g i h le small = (omega arith, omega arith)

-- what stands upstream is in the block or beside it
pub upstream_within : (most n g : ℕ) (arrays : Axis → List ℤ) (d q : Axis) (m : ℤ) (i j k : ℕ) → AreFacesNear most n g arrays → i ≤ n → j ≤ n → k ≤ n →
    Within most (upstream_number q m (all_faces n g arrays d) (g + i) (g + j) (g + k))
upstream_within most n g arrays d q m i j k faces hi hj hk =
    let s = step q (places_back m) in
    let small = back_small q m in
    faces.at d (g + i - s.x) (g + j - s.y) (g + k - s.z) (near n g i s.x hi small.0) (near n g j s.y hj small.1) (near n g k s.z hk small.2)

-- the rows of faces upstream of a row of edges are those of the next two axes
module _ (n g : ℕ) (a b c : Axis) (flow : Flow) (arrays : Axis → List ℤ) (bs cs : List ℤ) (t j k : ℕ) (on_b : b ≡ next a) (on_c : c ≡ next b)
    (normal_b : bs ≡ arrays b) (normal_c : cs ≡ arrays c) where
  last : c ≡ next (next a)
  last = on_c ∙ ap next on_b

  faces_b : bs ≡ arrays (next a)
  faces_b = normal_b ∙ ap arrays on_b

  faces_c : cs ≡ arrays (next (next a))
  faces_c = normal_c ∙ ap arrays last

  pub first_is : upstream_number c (speed flow.speeds c) (number_at (face_extents n g b) bs) (g + t) (g + j) (g + k)
      ≡ upstream_number (next (next a)) (speed flow.speeds (next (next a))) (all_faces n g arrays (next a)) (g + t) (g + j) (g + k)
  first_is = λ i. upstream_number (last i) (speed flow.speeds (last i)) (number_at (face_extents n g (on_b i)) (faces_b i)) (g + t) (g + j) (g + k)

  pub second_is : upstream_number b (speed flow.speeds b) (number_at (face_extents n g c) cs) (g + t) (g + j) (g + k)
      ≡ upstream_number (next a) (speed flow.speeds (next a)) (all_faces n g arrays (next (next a))) (g + t) (g + j) (g + k)
  second_is = λ i. upstream_number (on_b i) (speed flow.speeds (on_b i)) (number_at (face_extents n g (last i)) (faces_c i)) (g + t) (g + j) (g + k)

-- ---- sizes

neg_within : (most : ℕ) (z : ℤ) → Within most z → Within most (neg_ℤ z)
neg_within most (pos zero) h = h
neg_within most (pos (suc n)) h = h
neg_within most (negsuc n) h = h

-- what is carried of a number is no greater than it
carry_size : (m : ℤ) (l : ℕ) (v : ℤ) → unsigned_abs m * 2 ^ l ≤ 2 ^ 20 → Within (unsigned_abs v) (carry m l v)
unfolding carry
carry_size (pos n) l v h = carried_size (n * 2 ^ l) v h
carry_size (negsuc n) l v h = neg_within (unsigned_abs v) (floor_div (pos (suc n * 2 ^ l) *ℤ v) (2 ^ 20)) (carried_size (suc n * 2 ^ l) v h)

less_within : (most : ℕ) (closed : Bool) (p q : ℤ) → Within most p → Within most q → Within (2 * most) (if closed then pos 0 else p -ℤ q)
less_within most true p q hp hq = omega arith
less_within most false p q hp hq = omega (arith, ints)

-- so a force is no greater than the numbers of both faces
force_within : (most n : ℕ) (a : Axis) (f : Flow) (p q : ℤ) (i j k : ℕ) → IsSlow f → Within most p → Within most q → Within (2 * most) (force_from n a f p q i j k)
unfolding force_from
force_within most n a f p q i j k slow hp hq =
    let b = next a in
    let c = next b in
    let first = carry_size (speed f.speeds c) f.level p (slow.speed_on c) in
    let second = carry_size (speed f.speeds b) f.level q (slow.speed_on b) in
    less_within most (is_closed_edge n f.closed a i j k) (carry (speed f.speeds c) f.level p) (carry (speed f.speeds b) f.level q) (omega arith) (omega arith)

pub forces_within : (most n g : ℕ) (a : Axis) (f : Flow) (arrays : Axis → List ℤ) (edges : ℕ → ℕ → ℕ → ℤ) → IsSlow f → AreFacesNear most n g arrays →
    ((i j k : ℕ) → i < longer_across a X n → j < longer_across a Y n → k < longer_across a Z n → edges (g + i) (g + j) (g + k) ≡ force_at n g a f arrays i j k) →
    AreEdgesWithin (2 * most) n g a edges
forces_within most n g a f arrays edges slow faces are = record {
  at = λ i j k hi hj hk.
      let le = edge_inside a n i j k hi hj hk in
      let b = next a in
      let c = next b in
      subst (Within (2 * most)) (sym (are i j k hi hj hk))
      (force_within most n a f _ _ i j k slow (upstream_within most n g arrays b c (speed f.speeds c) i j k faces le.0 le.1 le.2)
      (upstream_within most n g arrays c b (speed f.speeds b) i j k faces le.0 le.1 le.2));
}
