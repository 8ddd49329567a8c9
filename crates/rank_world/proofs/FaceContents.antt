-- The numbers on faces that a world's leaves have are those that its leaves hold.
use Rattle.std.proofs.Common.{◌≡◌, ℕ, zero, suc, ◌+◌, ◌-◌, ◌*◌, ◌/◌, ◌%◌, ◌<◌, Bool, true, false, ◌&&◌, ◌||◌, ◌==◌, not, ℤ, pos, refl, sym, ap, ap₂, ◌∙◌, arith, inl, inr, Option, Some, None}
use Rattle.std.specs.Prelude.{if◌then◌else◌, nat_lt}
use Rattle.std.proofs.lemmas.Bool.{and_parts, cases_Bool, cases_lt, le-ltb, lt-ltb}
use Rattle.amr_num.specs.declared.Axis.{Axis}
use Rattle.amr_num.specs.declared.Axis.TheVariants.{X, Y, Z}
use Rattle.amr_num.specs.declared.CellAt.{CellAt}
use Rattle.amr_num.specs.declared.FaceAt.{FaceAt}
use Rattle.mesh_model.specs.declared.geometry.Shape.{Shape}
use Rattle.mesh_model.specs.Geometry.Canonical.{canonical_on, is_canonical, is_canonical_at}
use Rattle.mesh_model.specs.Geometry.Coordinates.{Inside, above, after, below, extent, face_numbers, face_of, high_cell, is_periodic, low_cell, moved, on, step, with, wrapped}
use Rattle.mesh_model.specs.Geometry.Places.{in_block, longer_on}
use Rattle.mesh_model.specs.Tree.Kinds.{Grid, block_of, holds, is_leaf, is_leaf_face}
use Rattle.mesh_model.specs.Tree.Order.{Sorted}
use Rattle.mesh_model.specs.Tree.ValidGrid.{Valid}
use Rattle.mesh_model.specs.Fields.Plain.{on_faces}
use Rattle.mesh_model.specs.Fields.Ranks.{WorldState}
use Rattle.mesh_model.specs.Fields.Views.{face_view}
use Rattle.mesh_model.proofs.FieldLemmas.Beside.{above_in, above_out, wrapped_before, wrapped_end, wrapped_open}
use Rattle.mesh_model.proofs.FieldLemmas.CellKinds.{kinds_of_tiles, wide_of}
use Rattle.mesh_model.proofs.FieldLemmas.LeafFaces.{view_of_leaf_face}
use Rattle.mesh_model.proofs.FieldLemmas.ValidGrid.{leaf_inside}
use Rattle.mesh_model.proofs.GeometryLemmas.OnAxes.{on_with, with_level, with_own, with_with}
use Rattle.mesh_model.proofs.GeometryLemmas.ShapeLimits.{cells_some}
use Rattle.rank_world.specs.Contents.{at_cell, beside_cell, face_in, faces_of, node_of}
use Rattle.rank_world.specs.Holding.{LeavesHoldFaces}
use Rattle.rank_world.proofs.Contents.{along, leaf_of_number}

-- ---- the cells beside a face

-- a position inside is canonical already
same_anyhow : (t : Bool) (p : ℕ) → (if t then p else p) ≡ p
same_anyhow true p = refl
same_anyhow false p = refl

zero_wrapped : (b : Bool) (e : ℕ) → wrapped b e 0 ≡ 0
unfolding wrapped
zero_wrapped b e = same_anyhow (b && (0 == e)) 0

inside_wrapped : (b : Bool) (e p : ℕ) → p < e → wrapped b e p ≡ p
inside_wrapped b e zero h = zero_wrapped b e
inside_wrapped b e (suc q) h = wrapped_before b e q h

pub canonical_inside : (s : Shape) (a : Axis) (c : CellAt) → Inside s c → canonical_on s a c ≡ c
canonical_inside s a c i = ap (λ p. with a p c) (inside_wrapped (is_periodic s a) (extent s a c.level) (on a c) (i a)) ∙ with_own a c

-- the cell above a face is the one of the face's numbers
pub face_of_high : (s : Shape) (f : FaceAt) (c : CellAt) → is_canonical s f ≡ true → high_cell s f ≡ Some c → face_of f.axis c ≡ f
unfolding is_canonical_at
face_of_high s f c canonical high = elim (cases_lt (on f.axis (face_numbers f)) (extent s f.axis f.level)) [
  | inl inside ↦
      let there : high_cell s f ≡ Some (face_numbers f) = ap (λ o. moved f.axis o (face_numbers f)) (above_in (is_periodic s f.axis) (extent s f.axis f.level) (on f.axis (face_numbers f)) inside) ∙ ap Some (with_own f.axis (face_numbers f)) in
      let same : Some c ≡ Some (face_numbers f) = sym high ∙ there in
      let is : c ≡ face_numbers f = cc in
      ap (face_of f.axis) is
  | inr past ↦ elim (cases_Bool (is_periodic s f.axis)) [
    | inl periodic ↦
        let inside : (not (is_periodic s f.axis) || nat_lt (on f.axis (face_numbers f)) (extent s f.axis f.level)) ≡ false = ap (λ b. not b || nat_lt (on f.axis (face_numbers f)) (extent s f.axis f.level)) periodic ∙ le-ltb (on f.axis (face_numbers f)) (extent s f.axis f.level) past in
        absurd cc
    | inr ends ↦
        let none : high_cell s f ≡ None =
        ap (λ b. moved f.axis (above b (extent s f.axis f.level) (on f.axis (face_numbers f))) (face_numbers f)) ends ∙ ap (λ o. moved f.axis o (face_numbers f)) (above_out (extent s f.axis f.level) (on f.axis (face_numbers f)) past) in
        absurd cc
  ]
]

-- the face after the cell below a face is the face
pub face_of_low : (s : Shape) (f : FaceAt) (c : CellAt) → ((a : Axis) (l : ℕ) → 0 < extent s a l) → is_canonical s f ≡ true → low_cell s f ≡ Some c → face_of f.axis (after s f.axis c) ≡ f
unfolding is_canonical_at
face_of_low s f c wide canonical low = by_position (is_periodic s f.axis) (on f.axis (face_numbers f)) refl refl low
  where
    -- the cell below at position r, and one position further
    next_is : (r : ℕ) → c ≡ with f.axis r (face_numbers f) → wrapped (is_periodic s f.axis) (extent s f.axis f.level) (suc r) ≡ on f.axis (face_numbers f) → face_of f.axis (after s f.axis c) ≡ f
    next_is r is same =
        let moved_on : after s f.axis c ≡ with f.axis (wrapped (is_periodic s f.axis) (extent s f.axis f.level) (suc r)) (face_numbers f) =
        ap (after s f.axis) is
        ∙ ap₂ (λ l p. with f.axis (wrapped (is_periodic s f.axis) (extent s f.axis l) (suc p)) (with f.axis r (face_numbers f))) (with_level f.axis r (face_numbers f)) (on_with f.axis r (face_numbers f))
        ∙ with_with f.axis (wrapped (is_periodic s f.axis) (extent s f.axis f.level) (suc r)) r (face_numbers f) in
        ap (face_of f.axis) (moved_on ∙ ap (λ p. with f.axis p (face_numbers f)) same ∙ with_own f.axis (face_numbers f))

    some_is : (r : ℕ) → Some c ≡ moved f.axis (Some r) (face_numbers f) → c ≡ with f.axis r (face_numbers f)
    some_is r e = cc

    by_position : (b : Bool) (p : ℕ) → is_periodic s f.axis ≡ b → on f.axis (face_numbers f) ≡ p → moved f.axis (below b (extent s f.axis f.level) p) (face_numbers f) ≡ Some c → face_of f.axis (after s f.axis c) ≡ f
    by_position true zero periodic at is =
        let w = wide f.axis f.level in
        next_is (extent s f.axis f.level - 1) (some_is (extent s f.axis f.level - 1) (sym is))
        (ap (λ b. wrapped b (extent s f.axis f.level) (suc (extent s f.axis f.level - 1))) periodic ∙ wrapped_end (extent s f.axis f.level) (extent s f.axis f.level - 1) (omega (arith, w)) ∙ sym at)
    by_position false zero periodic at is = absurd cc
    by_position true (suc r) periodic at is = elim (cases_lt (suc r) (extent s f.axis f.level)) [
      | inl inside ↦ next_is r (some_is r (sym is)) (wrapped_before (is_periodic s f.axis) (extent s f.axis f.level) r inside ∙ sym at)
      | inr past ↦
          let off : (not (is_periodic s f.axis) || nat_lt (on f.axis (face_numbers f)) (extent s f.axis f.level)) ≡ false =
          ap₂ (λ b p. not b || nat_lt p (extent s f.axis f.level)) periodic at ∙ le-ltb (suc r) (extent s f.axis f.level) past in
          absurd cc
    ]
    by_position false (suc r) periodic at is =
        next_is r (some_is r (sym is)) (ap (λ b. wrapped b (extent s f.axis f.level) (suc r)) periodic ∙ wrapped_open (extent s f.axis f.level) r ∙ sym at)

-- ---- what stands on the sides of a leaf cell

-- a place of the block of a cell, moved on by some steps
shifted : (n : ℕ) (c m : CellAt) → 0 < n → in_block n (block_of n c) (c.x % n + m.x) (c.y % n + m.y) (c.z % n + m.z) ≡ record { level = c.level; x = c.x + m.x; y = c.y + m.y; z = c.z + m.z }
shifted n c m some = λ i. record { level = c.level; x = one c.x m.x i; y = one c.y m.y i; z = one c.z m.z i }
  where
    one : (x r : ℕ) → n * (x / n) + (x % n + r) ≡ x + r
    one x r = omega (arith, along n x some)

none : (x : ℕ) → x + 0 ≡ x
none x = omega arith

one_more : (x : ℕ) → x + 1 ≡ suc x
one_more x = omega arith

unmoved : (a : Axis) (c : CellAt) → record { level = c.level; x = c.x + (step a 0).x; y = c.y + (step a 0).y; z = c.z + (step a 0).z } ≡ c
unmoved X c = λ i. record { level = c.level; x = none c.x i; y = none c.y i; z = none c.z i }
unmoved Y c = λ i. record { level = c.level; x = none c.x i; y = none c.y i; z = none c.z i }
unmoved Z c = λ i. record { level = c.level; x = none c.x i; y = none c.y i; z = none c.z i }

moved_on : (a : Axis) (c : CellAt) → record { level = c.level; x = c.x + (step a 1).x; y = c.y + (step a 1).y; z = c.z + (step a 1).z } ≡ with a (suc (on a c)) c
moved_on X c = λ i. record { level = c.level; x = one_more c.x i; y = none c.y i; z = none c.z i }
moved_on Y c = λ i. record { level = c.level; x = none c.x i; y = one_more c.y i; z = none c.z i }
moved_on Z c = λ i. record { level = c.level; x = none c.x i; y = none c.y i; z = one_more c.z i }

-- a place of a block, moved on by one at most, is one of its faces' places
face_place : (a : Axis) (h n : ℕ) (c : CellAt) → h < 2 → 0 < n → let m = step a h in (c.x % n + m.x < longer_on a X n) × (c.y % n + m.y < longer_on a Y n) × (c.z % n + m.z < longer_on a Z n)
face_place X h n c low some = omega (arith, low, some)
face_place Y h n c low some = omega (arith, low, some)
face_place Z h n c low some = omega (arith, low, some)

-- the next face on an axis, by its canonical name
pub after_is : (s : Shape) (a : Axis) (c : CellAt) → canonical_on s a (with a (suc (on a c)) c) ≡ after s a c
after_is s a c =
    ap₂ (λ l p. with a (wrapped (is_periodic s a) (extent s a l) p) (with a (suc (on a c)) c)) (with_level a (suc (on a c)) c) (on_with a (suc (on a c)) c)
    ∙ with_with a (wrapped (is_periodic s a) (extent s a c.level) (suc (on a c))) (suc (on a c)) c

module _ (w : WorldState) (valid : Valid w.told.grid) (order : Sorted w.told.grid.leaves) where
  abbrev pub g : Grid
  g = w.told.grid

  some : 0 < g.shape.n
  some = cells_some valid.shape

  wide : (a : Axis) (l : ℕ) → 0 < extent g.shape a l
  wide = wide_of g.shape valid.shape

  -- on a side of a leaf cell stands the view there
  module _ (field : FaceAt → ℤ) (holds_it : LeavesHoldFaces w field) (a : Axis) (c : CellAt) (leaf : is_leaf g c ≡ true) where
    on_side : (h : ℕ) → h < 2 → let m = step a h in
        beside_cell w a h c ≡ face_view g field (face_of a (canonical_on g.shape a (record { level = c.level; x = c.x + m.x; y = c.y + m.y; z = c.z + m.z })))
    unfolding beside_cell
    on_side h low =
        let n = g.shape.n in
        let m = step a h in
        let b = block_of n c in
        let node = leaf_of_number g valid order b leaf in
        let inside = face_place a h n c low some in
        (holds_it (node_of g b) node.0 a).at (c.x % n + m.x) (c.y % n + m.y) (c.z % n + m.z) inside.0 inside.1 inside.2
        ∙ ap (λ d. face_view g field (face_of a (canonical_on g.shape a (in_block n d (c.x % n + m.x) (c.y % n + m.y) (c.z % n + m.z))))) node.1
        ∙ ap (λ d. face_view g field (face_of a (canonical_on g.shape a d))) (shifted n c m some)

    pub low_side : beside_cell w a 0 c ≡ face_view g field (face_of a c)
    low_side = on_side 0 (omega arith) ∙ ap (λ d. face_view g field (face_of a d)) (ap (canonical_on g.shape a) (unmoved a c) ∙ canonical_inside g.shape a c (leaf_inside g valid c leaf))

    pub high_side : beside_cell w a 1 c ≡ face_view g field (face_of a (after g.shape a c))
    high_side = on_side 1 (omega arith) ∙ ap (λ d. face_view g field (face_of a d)) (ap (canonical_on g.shape a) (moved_on a c) ∙ after_is g.shape a c)

  -- ---- the numbers of leaf faces

  -- a cell that is there
  there : (o : Option CellAt) → holds (is_leaf g) o ≡ true → (c : CellAt) × (o ≡ Some c) × (is_leaf g c ≡ true)
  there None h = absurd cc
  there (Some c) h = (c, refl, h)

  leaf_beside : (f : FaceAt) → is_leaf_face g f ≡ true → holds (is_leaf g) (high_cell g.shape f) ≡ false → holds (is_leaf g) (low_cell g.shape f) ≡ true
  unfolding is_leaf_face
  leaf_beside f leaf no_high = one_of (holds (is_leaf g) (low_cell g.shape f)) (holds (is_leaf g) (high_cell g.shape f)) (and_parts _ _ leaf).0 no_high
    where
      one_of : (p q : Bool) → (p || q) ≡ true → q ≡ false → p ≡ true
      one_of true q h n = refl
      one_of false q h n = absurd cc

  -- what stands on a leaf face is what the leaves hold there
  pub face_in_is : (field : FaceAt → ℤ) → LeavesHoldFaces w field → (f : FaceAt) → is_canonical g.shape f ≡ true → is_leaf_face g f ≡ true → face_in w f ≡ face_view g field f
  unfolding face_in
  face_in_is field holds_it f canonical leaf = elim (cases_Bool (holds (is_leaf g) (high_cell g.shape f))) [
    | inl high ↦
        let c = there (high_cell g.shape f) high in
        ap (λ t. if t then at_cell (beside_cell w f.axis 0) (high_cell g.shape f) else at_cell (beside_cell w f.axis 1) (low_cell g.shape f)) high
        ∙ ap (at_cell (beside_cell w f.axis 0)) c.1 ∙ low_side field holds_it f.axis c.0 c.2
        ∙ ap (face_view g field) (face_of_high g.shape f c.0 canonical c.1)
    | inr no_high ↦
        let c = there (low_cell g.shape f) (leaf_beside f leaf no_high) in
        ap (λ t. if t then at_cell (beside_cell w f.axis 0) (high_cell g.shape f) else at_cell (beside_cell w f.axis 1) (low_cell g.shape f)) no_high
        ∙ ap (at_cell (beside_cell w f.axis 1)) c.1 ∙ high_side field holds_it f.axis c.0 c.2
        ∙ ap (face_view g field) (face_of_low g.shape f c.0 wide canonical c.1)
  ]

  -- the leaves hold no other field that is 0 off the leaf faces
  pub faces_are : (field : FaceAt → ℤ) → 0 < w.told.counts.faces → LeavesHoldFaces w field → ((f : FaceAt) → (is_canonical g.shape f && is_leaf_face g f) ≡ false → field f ≡ pos 0) → (f : FaceAt) → faces_of w f ≡ field f
  faces_are field some_face holds_it off f = ap (λ t. if t then on_faces g (face_in w) f else pos 0) (lt-ltb 0 w.told.counts.faces some_face) ∙ elim (cases_Bool (is_canonical g.shape f && is_leaf_face g f)) [
    | inr other ↦ ap (λ t. if t then face_in w f else pos 0) other ∙ sym (off f other)
    | inl both ↦
        let parts = and_parts _ _ both in
        ap (λ t. if t then face_in w f else pos 0) both ∙ face_in_is field holds_it f parts.0 parts.1
        ∙ view_of_leaf_face g (kinds_of_tiles g valid.tiles valid.shape) valid.shape wide field f parts.1
  ]

-- where there is no face variable the numbers are 0
pub no_faces : (w : WorldState) → w.told.counts.faces ≡ 0 → (f : FaceAt) → faces_of w f ≡ pos 0
no_faces w none f = ap (λ n. if nat_lt 0 n then on_faces w.told.grid (face_in w) f else pos 0) none
