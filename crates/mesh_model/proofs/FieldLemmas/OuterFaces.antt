-- What leaf cells lose through the outer sides is what flows out of all leaf faces on outer sides.
use Rattle.std.proofs.Common.{◌≡◌, ℕ, suc, ◌<◌, ◌⊎◌, Bool, true, false, ◌||◌, ◌&&◌, not, ◌==◌, ℤ, pos, refl, sym, ap, ap₂, ◌∙◌, arith, inl, inr, None, eqb-true}
use Rattle.std.specs.Prelude.{if◌then◌else◌, nat_lt}
use Rattle.std.proofs.lemmas.Bool.{cases_Bool, le-ltb}
use Rattle.amr_num.specs.declared.Axis.{Axis}
use Rattle.amr_num.specs.declared.Axis.TheVariants.{X, Y, Z}
use Rattle.amr_num.specs.declared.CellAt.{CellAt}
use Rattle.amr_num.specs.declared.FaceAt.{FaceAt}
use Rattle.amr_num.specs.Numbers.{sum_below}
use Rattle.amr_num.proofs.Parts.{sum_below_same}
use Rattle.mesh_model.specs.declared.geometry.Shape.{Shape}
use Rattle.mesh_model.specs.Geometry.Coordinates.{extent, is_periodic, on, below, above, moved, wrapped, low_cell, high_cell, after, face_of, face_numbers, Inside}
use Rattle.mesh_model.specs.Tree.Kinds.{Grid, is_leaf, is_split, holds, is_leaf_face, is_split_face}
use Rattle.mesh_model.specs.Fields.Plain.{on_faces}
use Rattle.mesh_model.specs.Geometry.Canonical.{is_canonical_at, is_canonical}
use Rattle.mesh_model.specs.Tree.ValidGrid.{Valid}
use Rattle.mesh_model.specs.Fields.Circulation.{net_flux}
use Rattle.mesh_model.specs.Fields.Totals.{level_sum, leaf_sum}
use Rattle.mesh_model.specs.Fields.Advect.{Speeds, on_outer_side, on_outer, flux, outflow}
use Rattle.mesh_model.proofs.FieldLemmas.CellKinds.{Kinds, kinds_of_tiles}
use Rattle.mesh_model.proofs.FieldLemmas.LeafFaces.{low_here, high_here}
use Rattle.mesh_model.proofs.FieldLemmas.LeafSums.{level_same, on_leaf, off_leaf}
use Rattle.mesh_model.proofs.FieldLemmas.Divergence.{net_same, on_leaf_face}

-- ---- beside a face on an outer side there is one cell

outer_says : (b t u : Bool) → (not b && (t || u)) ≡ true → (b ≡ false) × ((t ≡ true) ⊎ (u ≡ true))
outer_says false true u h = (refl, inl refl)
outer_says false false u h = (refl, inr h)
outer_says true t u h = cc

none_below : (b : Bool) (e p : ℕ) → p < e → (not b && ((p == 0) || (p == e))) ≡ true → below b e p ≡ None
none_below b e p h out =
    let two = outer_says b (p == 0) (p == e) out in
    elim (two.1) [
      | inl z ↦ ap₂ (λ c q. below c e q) two.0 (eqb-true p 0 z)
      | inr z ↦ let same = eqb-true p e z in absurd (omega arith)
    ]

none_above : (b : Bool) (e p : ℕ) → p < e → (not b && ((wrapped b e (suc p) == 0) || (wrapped b e (suc p) == e))) ≡ true → above b e (wrapped b e (suc p)) ≡ None
unfolding wrapped
none_above true e p h out = cc
none_above false e p h out =
    let two = outer_says false (suc p == 0) (suc p == e) out in
    elim (two.1) [
      | inl z ↦ let same : suc p ≡ 0 = eqb-true (suc p) 0 z in absurd (omega arith)
      | inr z ↦ let same : suc p ≡ e = eqb-true (suc p) e z in rw (le-ltb (suc p) e (omega arith)) refl
    ]

module _ (g : Grid) (kinds : Kinds g) (c : CellAt) (i : Inside g.shape c) where
  low_none : (a : Axis) → on_outer_side g.shape (face_of a c) ≡ true → low_cell g.shape (face_of a c) ≡ None
  unfolding on_outer_side
  low_none X h = ap (λ o. moved X o c) (none_below (is_periodic g.shape X) (extent g.shape X c.level) c.x (i X) h)
  low_none Y h = ap (λ o. moved Y o c) (none_below (is_periodic g.shape Y) (extent g.shape Y c.level) c.y (i Y) h)
  low_none Z h = ap (λ o. moved Z o c) (none_below (is_periodic g.shape Z) (extent g.shape Z c.level) c.z (i Z) h)

  high_none : (a : Axis) → on_outer_side g.shape (face_of a (after g.shape a c)) ≡ true → high_cell g.shape (face_of a (after g.shape a c)) ≡ None
  unfolding on_outer_side
  high_none X h = ap (λ o. moved X o (after g.shape X c)) (none_above (is_periodic g.shape X) (extent g.shape X c.level) c.x (i X) h)
  high_none Y h = ap (λ o. moved Y o (after g.shape Y c)) (none_above (is_periodic g.shape Y) (extent g.shape Y c.level) c.y (i Y) h)
  high_none Z h = ap (λ o. moved Z o (after g.shape Z c)) (none_above (is_periodic g.shape Z) (extent g.shape Z c.level) c.z (i Z) h)

  leaf_or_split : (b : Bool) → is_split g c ≡ b → (is_leaf g c && not b) ≡ is_leaf g c
  leaf_or_split true h = let n = kinds.one c h in rw n refl
  leaf_or_split false h = elim (cases_Bool (is_leaf g c)) [
    | inl t ↦ rw t refl
    | inr n ↦ rw n refl
  ]

  nothing_or : (b : Bool) → (b || false) ≡ b
  nothing_or true = refl
  nothing_or false = refl

  -- so it is a leaf face where that cell is a leaf
  low_outer_leaf : (a : Axis) → on_outer_side g.shape (face_of a c) ≡ true → is_leaf_face g (face_of a c) ≡ is_leaf g c
  unfolding is_leaf_face is_split_face
  low_outer_leaf a h =
      ap₂ (λ o p. (holds (is_leaf g) o || holds (is_leaf g) p) && not (holds (is_split g) o || holds (is_split g) p)) (low_none a h) (high_here g.shape a c i)
      ∙ leaf_or_split (is_split g c) refl

  high_outer_leaf : (a : Axis) → on_outer_side g.shape (face_of a (after g.shape a c)) ≡ true → is_leaf_face g (face_of a (after g.shape a c)) ≡ is_leaf g c
  unfolding is_leaf_face is_split_face
  high_outer_leaf a h =
      ap₂ (λ o p. (holds (is_leaf g) o || holds (is_leaf g) p) && not (holds (is_split g) o || holds (is_split g) p)) (low_here g.shape a c i) (high_none a h)
      ∙ ap₂ (λ s t. s && not t) (nothing_or (is_leaf g c)) (nothing_or (is_split g c))
      ∙ leaf_or_split (is_split g c) refl

-- ---- the sum over leaf faces

outer_off : (s : Shape) (at : FaceAt → ℤ) (f : FaceAt) → on_outer_side s f ≡ false → on_outer s at f ≡ pos 0
outer_off s at f h = rw h refl

and_false : (b : Bool) → (b && false) ≡ false
and_false true = refl
and_false false = refl

gone : (g : Grid) (at : FaceAt → ℤ) (f : FaceAt) → is_leaf_face g f ≡ false → on_faces g at f ≡ pos 0
gone g at f h = ap (λ b. if is_canonical g.shape f && b then at f else pos 0) h ∙ ap (λ b. if b then at f else pos 0) (and_false (is_canonical g.shape f))

-- an outer side is on no periodic axis
outer_canonical : (s : Shape) (f : FaceAt) → on_outer_side s f ≡ true → is_canonical s f ≡ true
unfolding on_outer_side is_canonical_at
outer_canonical s f h = ap (λ b. not b || nat_lt (on f.axis (face_numbers f)) (extent s f.axis f.level)) (outer_says (is_periodic s f.axis) (on f.axis (face_numbers f) == 0) (on f.axis (face_numbers f) == extent s f.axis f.level) h).0

none_here : (g : Grid) (at : FaceAt → ℤ) (f : FaceAt) → at f ≡ pos 0 → on_faces g at f ≡ pos 0
none_here g at f h = elim (cases_Bool (is_canonical g.shape f && is_leaf_face g f)) [
  | inl t ↦ rw t h
  | inr n ↦ rw n refl
]

module _ (g : Grid) (at : FaceAt → ℤ) (f : FaceAt) (leaf : Bool) (same : on_outer_side g.shape f ≡ true → is_leaf_face g f ≡ leaf) where
  kept : leaf ≡ true → on_outer g.shape at f ≡ on_faces g (on_outer g.shape at) f
  kept t = elim (cases_Bool (on_outer_side g.shape f)) [
    | inl o ↦ sym (on_leaf_face g (on_outer g.shape at) f (outer_canonical g.shape f o) (same o ∙ t))
    | inr n ↦ outer_off g.shape at f n ∙ sym (none_here g (on_outer g.shape at) f (outer_off g.shape at f n))
  ]

  lost : leaf ≡ false → on_faces g (on_outer g.shape at) f ≡ pos 0
  lost t = elim (cases_Bool (on_outer_side g.shape f)) [
    | inl o ↦ gone g (on_outer g.shape at) f (same o ∙ t)
    | inr n ↦ none_here g (on_outer g.shape at) f (outer_off g.shape at f n)
  ]

nothing : FaceAt → ℤ
nothing f = pos 0

nothing_net : (g : Grid) (c : CellAt) → net_flux g nothing c ≡ pos 0
unfolding nothing
nothing_net g c = refl

-- the outward flux of all leaf faces on outer sides
pub outflow_by_faces : (g : Grid) (content : CellAt → ℤ) (n : Speeds) → Valid g → outflow g content n ≡ sum_below (suc g.shape.max) (λ l. level_sum g.shape l (net_flux g (on_faces g (on_outer g.shape (flux g content n)))))
unfolding leaf_sum nothing
outflow_by_faces g content n valid =
    let kinds = kinds_of_tiles g valid.tiles valid.shape in
    let at = flux g content n in
    sum_below_same (suc g.shape.max) _ _ (λ l p. level_same g.shape l _ _ (λ c lv i. elim (cases_Bool (is_leaf g c)) [
      | inl t ↦ on_leaf g (net_flux g (on_outer g.shape at)) c t
          ∙ net_same g (on_outer g.shape at) (on_faces g (on_outer g.shape at)) c
          (λ a. kept g at (face_of a c) (is_leaf g c) (low_outer_leaf g kinds c i a) t)
          (λ a. kept g at (face_of a (after g.shape a c)) (is_leaf g c) (high_outer_leaf g kinds c i a) t)
      | inr f ↦ off_leaf g (net_flux g (on_outer g.shape at)) c f
          ∙ sym (net_same g (on_faces g (on_outer g.shape at)) nothing c
          (λ a. lost g at (face_of a c) (is_leaf g c) (low_outer_leaf g kinds c i a) f)
          (λ a. lost g at (face_of a (after g.shape a c)) (is_leaf g c) (high_outer_leaf g kinds c i a) f)
          ∙ nothing_net g c)
    ]))
