-- Numbers out of range that are found, and the places at which they are.
use Rattle.std.proofs.Common.{◌≡◌, ℕ, zero, suc, ◌<◌, ◌≤◌, ◌^◌, Bool, true, false, ℤ, Option, Some, None, is_some, refl, sym, subst, ◌∙◌, arith, inl, inr}
use Rattle.std.specs.Prelude.{if◌then◌else◌}
use Rattle.std.specs.Option.{option_or}
use Rattle.std.proofs.lemmas.Bool.{cases_Bool, cases_lt}
use Rattle.amr_num.specs.declared.Axis.TheVariants.{X, Y, Z}
use Rattle.amr_num.specs.declared.BlockAt.{BlockAt}
use Rattle.mesh_model.specs.declared.geometry.Shape.{Shape}
use Rattle.mesh_model.specs.Fields.Firsts.{first_below, first_in_places}
use Rattle.mesh_model.specs.Fields.RangeWalk.{is_above}
use Rattle.mesh_model.specs.Geometry.Blocks.{InDomain}
use Rattle.mesh_model.specs.Geometry.Limits.{IsShape}
use Rattle.mesh_model.specs.Geometry.Places.{longer_across, longer_on}
use Rattle.block_store.specs.Above.{above_at, first_in_block, first_in_edges, first_in_faces, is_counted_edge, is_counted_face}
use Rattle.block_store.specs.declared.above.Above.{Above}
use Rattle.block_store.specs.declared.above.CountedEdges.{CountedEdges}
use Rattle.block_store.specs.declared.above.CountedFaces.{CountedFaces}
use Rattle.block_tree.proofs.Next.{has_key}

-- what is found is at a place below n
pub was_found : {A : Type 0} (n : ℕ) (at : ℕ → Option A) (x : A) → first_below n at ≡ Some x → (k : ℕ) × (k < n) × (at k ≡ Some x)
was_found zero at x is = cc
was_found (suc n) at x is = was_or n at x (first_below n at) (was_found n at x) is
  where
    was_or : {A : Type 0} (n : ℕ) (at : ℕ → Option A) (x : A) (before : Option A) → (before ≡ Some x → (k : ℕ) × (k < n) × (at k ≡ Some x)) → option_or before (at n) ≡ Some x →
        (k : ℕ) × (k < suc n) × (at k ≡ Some x)
    was_or n at x None found is = (n, omega arith, is)
    was_or n at x (Some y) found is = let it = found is in let less = it.1 in (it.0, omega arith, it.2)

-- a number that is told is told with its place
told_place : (cells : ℕ → ℕ → ℕ → ℤ) (i j k : ℕ) (a : Above) → above_at cells i j k ≡ Some a → (a.i ≡ i) × (a.j ≡ j) × (a.k ≡ k)
told_place cells i j k a is = elim (cases_Bool (is_above (2 ^ 40) (cells i j k))) [
  | inl above ↦ (cc, cc, cc)
  | inr below ↦ (cc, cc, cc)
]

pub inside_of : (cells : ℕ → ℕ → ℕ → ℤ) (n : ℕ) (a : Above) → first_in_block cells n ≡ Some a → (a.i < n) × (a.j < n) × (a.k < n)
inside_of cells n a is =
    let z = was_found n (λ k. first_below n (λ j. first_below n (λ i. above_at cells i j k))) a is in
    let y = was_found n (λ j. first_below n (λ i. above_at cells i j z.0)) a z.2 in
    let x = was_found n (λ i. above_at cells i y.0 z.0) a y.2 in
    let place = told_place cells x.0 y.0 z.0 a x.2 in
    (subst (λ m. m < n) (sym place.0) x.1, subst (λ m. m < n) (sym place.1) y.1, subst (λ m. m < n) (sym place.2) z.1)

-- the same where only some count
pub counted_inside : (x y z : ℕ) (counts : ℕ → ℕ → ℕ → Bool) (numbers : ℕ → ℕ → ℕ → ℤ) (a : Above) → first_in_places x y z (λ i j k. if counts i j k then above_at numbers i j k else None) ≡ Some a →
    (a.i < x) × (a.j < y) × (a.k < z)
counted_inside x y z counts numbers a is =
    let at = λ (i j k : ℕ). if counts i j k then above_at numbers i j k else None in
    let on_z = was_found z (λ k. first_below y (λ j. first_below x (λ i. at i j k))) a is in
    let on_y = was_found y (λ j. first_below x (λ i. at i j on_z.0)) a on_z.2 in
    let on_x = was_found x (λ i. at i on_y.0 on_z.0) a on_y.2 in
    let place = counted_place on_x.0 on_y.0 on_z.0 on_x.2 in
    (subst (λ m. m < x) (sym place.0) on_x.1, subst (λ m. m < y) (sym place.1) on_y.1, subst (λ m. m < z) (sym place.2) on_z.1)
  where
    counted_place : (i j k : ℕ) → (if counts i j k then above_at numbers i j k else None) ≡ Some a → (a.i ≡ i) × (a.j ≡ j) × (a.k ≡ k)
    counted_place i j k is = elim (cases_Bool (counts i j k)) [
      | inl there ↦ told_place numbers i j k a (sym (rw there refl) ∙ is)
      | inr none ↦ (let nothing : (if counts i j k then above_at numbers i j k else None) ≡ None = rw none refl in absurd cc)
    ]

pub face_inside : (numbers : ℕ → ℕ → ℕ → ℤ) (n : ℕ) (f : CountedFaces) (a : Above) → first_in_faces numbers n f ≡ Some a → (a.i < longer_on f.axis X n) × (a.j < longer_on f.axis Y n) × (a.k < longer_on f.axis Z n)
face_inside numbers n f = counted_inside (longer_on f.axis X n) (longer_on f.axis Y n) (longer_on f.axis Z n) (is_counted_face n f) numbers

pub edge_inside : (numbers : ℕ → ℕ → ℕ → ℤ) (n : ℕ) (e : CountedEdges) (a : Above) → first_in_edges numbers n e ≡ Some a → (a.i < longer_across e.axis X n) × (a.j < longer_across e.axis Y n) × (a.k < longer_across e.axis Z n)
edge_inside numbers n e = counted_inside (longer_across e.axis X n) (longer_across e.axis Y n) (longer_across e.axis Z n) (is_counted_edge n e) numbers

-- the first of some that are looked at one after the other
pub first_of : {A : Type 0} (p q : Option A) → is_some p ≡ true → p ≡ option_or p q
first_of None q is = absurd cc
first_of (Some x) q is = refl

pub rest_of : {A : Type 0} (p q : Option A) → is_some p ≡ false → q ≡ option_or p q
rest_of None q is = refl
rest_of (Some x) q is = absurd cc

-- a block's coordinates are small
small_power : (l : ℕ) → l ≤ 10 → 2 ^ l ≤ 1024
small_power l h = elim (cases_lt l 11) [
  | inl less ↦ power_up l 10 h
  | inr more ↦ absurd (omega arith)
]
  where
    power_up : (a b : ℕ) → a ≤ b → 2 ^ a ≤ 2 ^ b
    power_up a zero h = let none : a ≡ zero = omega arith in subst (λ m. 2 ^ m ≤ 1) (sym none) (omega arith)
    power_up a (suc b) h = elim (cases_lt b a) [
      | inl above ↦ (let same : a ≡ suc b = omega arith in subst (λ m. 2 ^ m ≤ 2 ^ suc b) (sym same) (omega arith))
      | inr below ↦ (let low = power_up a b (omega arith) in omega arith)
    ]

pub small_block : (s : Shape) (b : BlockAt) → IsShape s → InDomain s b → (b.x < 8192) × (b.y < 8192) × (b.z < 8192)
small_block s b shape inside =
    let key = has_key s b shape inside in
    let power = small_power b.level key.level in
    let x = key.x in let y = key.y in let z = key.z in
    (omega arith, omega arith, omega arith)
