-- Rows of a block's faces, and the edges round them.
use borrow.Rule.Slice.PartMut.{put_mid}
use Rattle.std.proofs.Common.{◌≡◌, ℕ, ◌+◌, ◌-◌, ◌/◌, ◌%◌, ◌<◌, ◌≤◌, List, length, ◌^◌, ℤ, ◌+ℤ◌, ◌-ℤ◌, ap, ap₂, sym, subst, ◌∙◌, arith, drop, take}
use Rattle.std.specs.Prelude.{Bool, pos, [], ◌∷◌, unsigned_abs}
use Rattle.std.proofs.lemmas.Int.{ints}
use Rattle.std.proofs.lemmas.List.{length-drop, length-take-le}
use Rattle.amr_num.specs.declared.Axis.{Axis}
use Rattle.amr_num.specs.declared.Axis.TheVariants.{X, Y, Z}
use Rattle.amr_num.specs.Numbers.{Within, at}
use Rattle.mesh_model.specs.Fields.Advect.{three as three_of}
use Rattle.mesh_model.specs.Fields.ArrayPlaces.{Fits, IsRowWritten, edge_extents, face_extents, number_at, place_in, row_of, size_of}
use Rattle.mesh_model.specs.Fields.FaceSplits.{by_axis, face_box}
use Rattle.mesh_model.specs.Geometry.Coordinates.{next, step}
use Rattle.mesh_model.specs.Geometry.Places.{longer_across, longer_on}
use Rattle.mesh_model.proofs.FieldLemmas.Beside.{three}
use Rattle.mesh_model.proofs.FieldLemmas.BlockPlaces.{row_put}
use Rattle.block_store.specs.declared.regions.PlaceAt.{PlaceAt}
use Rattle.step_induct.specs.Circling.{AreEdgeArrays, IsFaceArray, circled, edges_of, faces_of, lessened, round_in}
use Rattle.step_induct.specs.Forces.{AreFaceArrays, IsSlow}

-- the places of the edges round a face are those of the block's edges
pub low_inside : (a : Axis) (n t j k : ℕ) → t < longer_on a X n → j < longer_on a Y n → k < longer_on a Z n → let b = next a in
    (t < longer_across b X n) × (j < longer_across b Y n) × (k < longer_across b Z n)
low_inside X n t j k ht hj hk = (ht, hj, omega arith)
low_inside Y n t j k ht hj hk = (omega arith, hj, hk)
low_inside Z n t j k ht hj hk = (ht, omega arith, hk)

pub high_inside : (a : Axis) (n t j k : ℕ) → t < longer_on a X n → j < longer_on a Y n → k < longer_on a Z n → let b = next a in let c = next b in
    (t + (step b 1).x < longer_across c X n) × (j + (step b 1).y < longer_across c Y n) × (k + (step b 1).z < longer_across c Z n)
high_inside X n t j k ht hj hk = (omega arith, omega arith, omega arith)
high_inside Y n t j k ht hj hk = (omega arith, omega arith, omega arith)
high_inside Z n t j k ht hj hk = (omega arith, omega arith, omega arith)

pub back_inside : (a : Axis) (n t j k : ℕ) → t < longer_on a X n → j < longer_on a Y n → k < longer_on a Z n → let b = next a in let c = next b in
    (t + (step c 1).x < longer_across b X n) × (j + (step c 1).y < longer_across b Y n) × (k + (step c 1).z < longer_across b Z n)
back_inside X n t j k ht hj hk = (omega arith, omega arith, omega arith)
back_inside Y n t j k ht hj hk = (omega arith, omega arith, omega arith)
back_inside Z n t j k ht hj hk = (omega arith, omega arith, omega arith)

pub last_inside : (a : Axis) (n t j k : ℕ) → t < longer_on a X n → j < longer_on a Y n → k < longer_on a Z n → let c = next (next a) in
    (t < longer_across c X n) × (j < longer_across c Y n) × (k < longer_across c Z n)
last_inside X n t j k ht hj hk = (omega arith, omega arith, omega arith)
last_inside Y n t j k ht hj hk = (omega arith, omega arith, omega arith)
last_inside Z n t j k ht hj hk = (omega arith, omega arith, omega arith)

-- one step on an axis
abbrev pub one_step : Axis → PlaceAt
one_step a = record { x = (step a 1).x; y = (step a 1).y; z = (step a 1).z }

-- what flows round a face of a row is the circulation there
module _ (n g : ℕ) (a b c : Axis) (arrays : Axis → List ℤ) (bs cs : List ℤ) (p q : PlaceAt) (t j k : ℕ) (on_b : b ≡ next a) (on_c : c ≡ next b) (along_b : bs ≡ arrays b) (along_c : cs ≡ arrays c)
    (up_b : p ≡ one_step b) (up_c : q ≡ one_step c) where
  on_last : c ≡ next (next a)
  on_last = on_c ∙ ap next on_b

  abbrev number : Axis → List ℤ → ℕ → ℕ → ℕ → ℤ
  number d xs x y z = number_at (edge_extents n g d) xs (g + x) (g + y) (g + z)

  first_is : number b bs (t + 0) j k ≡ edges_of n g arrays (next a) t j k
  first_is =
      let none : t + 0 ≡ t = omega arith in
      ap (λ x. number b bs x j k) none ∙ ap (λ xs. number b xs t j k) along_b ∙ ap (λ d. edges_of n g arrays d t j k) on_b

  last_is : number c cs (t + 0) j k ≡ edges_of n g arrays (next (next a)) t j k
  last_is =
      let none : t + 0 ≡ t = omega arith in
      ap (λ x. number c cs x j k) none ∙ ap (λ xs. number c xs t j k) along_c ∙ ap (λ d. edges_of n g arrays d t j k) on_last

  second_is : number c cs (t + p.x) (j + p.y) (k + p.z) ≡ (let s = step (next a) 1 in edges_of n g arrays (next (next a)) (t + s.x) (j + s.y) (k + s.z))
  second_is =
      ap (λ (r : PlaceAt). number c cs (t + r.x) (j + r.y) (k + r.z)) (up_b ∙ ap one_step on_b)
      ∙ (let s = one_step (next a) in ap (λ xs. number c xs (t + s.x) (j + s.y) (k + s.z)) along_c ∙ ap (λ d. edges_of n g arrays d (t + s.x) (j + s.y) (k + s.z)) on_last)

  third_is : number b bs (t + q.x) (j + q.y) (k + q.z) ≡ (let s = step (next (next a)) 1 in edges_of n g arrays (next a) (t + s.x) (j + s.y) (k + s.z))
  third_is =
      ap (λ (r : PlaceAt). number b bs (t + r.x) (j + r.y) (k + r.z)) (up_c ∙ ap one_step on_last)
      ∙ (let s = one_step (next (next a)) in ap (λ xs. number b xs (t + s.x) (j + s.y) (k + s.z)) along_b ∙ ap (λ d. edges_of n g arrays d (t + s.x) (j + s.y) (k + s.z)) on_b)

  pub round_circled : (first second third last : List ℤ) → at first t ≡ number b bs (t + 0) j k → at second t ≡ number c cs (t + p.x) (j + p.y) (k + p.z) →
      at third t ≡ number b bs (t + q.x) (j + q.y) (k + q.z) → at last t ≡ number c cs (t + 0) j k → round_in first second third last t ≡ circled (edges_of n g arrays) a t j k
  unfolding round_in circled
  round_circled first second third last one two three four =
      ap₂ (λ u v. u -ℤ v) (ap₂ (λ u v. u -ℤ v) (ap₂ (λ u v. u +ℤ v) (one ∙ first_is) (two ∙ second_is)) (three ∙ third_is)) (four ∙ last_is)

-- the faces of a block lie within its array
pub faces_fit : (n g : ℕ) (a : Axis) → Fits (face_extents n g a) (face_box n g a)
faces_fit n g X = record { x = omega arith; y = omega arith; z = omega arith }
faces_fit n g Y = record { x = omega arith; y = omega arith; z = omega arith }
faces_fit n g Z = record { x = omega arith; y = omega arith; z = omega arith }

-- a part of an array that was written as a row
pub part_written : (start many w : ℕ) (wanted : ℕ → ℤ) (old row : List ℤ) → many ≡ w → start + w ≤ length old → length row ≡ length (take (start + many - start) (drop start old)) →
    ((t : ℕ) → t < w → at row t ≡ wanted t) → IsRowWritten start w wanted old (put_mid start (start + many - start) old row)
part_written start many w wanted old row same fits long is =
    let all : start + many - start ≡ w = omega arith in
    let part : length (take (start + many - start) (drop start old)) ≡ w = length-take-le (start + many - start) (drop start old) (omega (arith, length-drop start old)) ∙ all in
    subst (λ r. IsRowWritten start w wanted old (put_mid start r old row)) (sym all) (row_put start w wanted old row fits (long ∙ part) is)

-- ---- what faces lose

four_within : (p q r s : ℤ) → Within (2 ^ 58) p → Within (2 ^ 58) q → Within (2 ^ 58) r → Within (2 ^ 58) s → Within (2 ^ 60) (p +ℤ q -ℤ r -ℤ s)
four_within p q r s hp hq hr hs = omega (arith, ints)

-- a circulation is no greater than four edges together
pub circled_within : (n g : ℕ) (a : Axis) (arrays : Axis → List ℤ) → AreEdgeArrays n g arrays → (t j k : ℕ) → t < longer_on a X n → j < longer_on a Y n → k < longer_on a Z n →
    Within (2 ^ 60) (circled (edges_of n g arrays) a t j k)
unfolding circled
circled_within n g a arrays edges t j k ht hj hk =
    let low = low_inside a n t j k ht hj hk in
    let high = high_inside a n t j k ht hj hk in
    let back = back_inside a n t j k ht hj hk in
    let last = last_inside a n t j k ht hj hk in
    let b = next a in
    let c = next b in
    let p = step b 1 in
    let q = step c 1 in
    let e = edges_of n g arrays in
    four_within (e b t j k) (e c (t + p.x) (j + p.y) (k + p.z)) (e b (t + q.x) (j + q.y) (k + q.z)) (e c t j k) (edges.small b t j k low.0 low.1 low.2)
    (edges.small c (t + p.x) (j + p.y) (k + p.z) high.0 high.1 high.2) (edges.small b (t + q.x) (j + q.y) (k + q.z) back.0 back.1 back.2) (edges.small c t j k last.0 last.1 last.2)

-- a row of circulations that are taken from what faces had
pub lessened_rows : (n g : ℕ) (a : Axis) (faces : List ℤ) (arrays : Axis → List ℤ) (m : ℕ) (now mid new : List ℤ) → let h = longer_on a Y n in let start = row_of (face_extents n g a) (face_box n g a) m in
    IsRowWritten start (longer_on a X n) (λ t. circled (edges_of n g arrays) a t (m % h) (m / h)) now mid →
    IsRowWritten start (longer_on a X n) (λ t. faces_of n g a faces t (m % h) (m / h) -ℤ at mid (start + t)) mid new →
    IsRowWritten start (longer_on a X n) (λ t. lessened (faces_of n g a faces) (edges_of n g arrays) a t (m % h) (m / h)) now new
unfolding lessened
lessened_rows n g a faces arrays m now mid new first second = record {
  size = second.size ∙ first.size;
  here = λ t l. second.here t l ∙ ap (λ v. faces_of n g a faces t (m % longer_on a Y n) (m / longer_on a Y n) -ℤ v) (first.here t l);
  below = λ p l. second.below p l ∙ first.below p l;
  above = λ p l. second.above p l ∙ first.above p l;
}

-- ---- in tests

-- arrays of blocks of 4 cells along each axis with a guard cell on each side, all of whose numbers are small enough
pub few_arrays : (ex ey ez : List ℤ) → length ex ≡ 294 → length ey ≡ 294 → length ez ≡ 294 → ((p : ℕ) → Within (2 ^ 56) (at ex p)) → ((p : ℕ) → Within (2 ^ 56) (at ey p)) → ((p : ℕ) → Within (2 ^ 56) (at ez p)) →
    AreEdgeArrays 4 1 (by_axis ex ey ez)
few_arrays ex ey ez lx ly lz fx fy fz = record {
  whole = three (λ a. length (by_axis ex ey ez a) ≡ size_of (edge_extents 4 1 a)) lx ly lz;
  small = λ a i j k hi hj hk.
      let own = three (λ a. (p : ℕ) → Within (2 ^ 56) (at (by_axis ex ey ez a) p)) fx fy fz a (place_in (edge_extents 4 1 a) (1 + i) (1 + j) (1 + k)) in
      omega arith;
}

pub few_faces : (a : Axis) (faces : List ℤ) → length faces ≡ 252 → ((p : ℕ) → Within (2 ^ 56) (at faces p)) → IsFaceArray 4 1 a faces
few_faces X faces long few = record { whole = long; small = λ i j k hi hj hk. few (place_in (face_extents 4 1 X) (1 + i) (1 + j) (1 + k)) }
few_faces Y faces long few = record { whole = long; small = λ i j k hi hj hk. few (place_in (face_extents 4 1 Y) (1 + i) (1 + j) (1 + k)) }
few_faces Z faces long few = record { whole = long; small = λ i j k hi hj hk. few (place_in (face_extents 4 1 Z) (1 + i) (1 + j) (1 + k)) }

pub few_face_arrays : (bx by bz : List ℤ) → length bx ≡ 252 → length by ≡ 252 → length bz ≡ 252 → ((p : ℕ) → Within (2 ^ 56) (at bx p)) → ((p : ℕ) → Within (2 ^ 56) (at by p)) → ((p : ℕ) → Within (2 ^ 56) (at bz p)) →
    AreFaceArrays 4 1 (by_axis bx by bz)
few_face_arrays bx by bz lx ly lz fx fy fz = record {
  whole = three (λ a. length (by_axis bx by bz a) ≡ size_of (face_extents 4 1 a)) lx ly lz;
  small = record { at = λ a i j k hi hj hk. three (λ a. (p : ℕ) → Within (2 ^ 56) (at (by_axis bx by bz a) p)) fx fy fz a (place_in (face_extents 4 1 a) i j k) };
}

-- speeds of at most one coarsest cell a step
pub slow_flow : (y z : ℤ) (closed : List Bool) → unsigned_abs y ≤ 2 ^ 20 → unsigned_abs z ≤ 2 ^ 20 → IsSlow (record { level = 0; speeds = three_of (pos 0 ∷ y ∷ z ∷ []); closed = closed })
slow_flow y z closed hy hz = record {
  level = omega arith;
  speed_on = elim [
    | X ↦ omega arith
    | Y ↦ omega arith
    | Z ↦ omega arith
  ];
}
