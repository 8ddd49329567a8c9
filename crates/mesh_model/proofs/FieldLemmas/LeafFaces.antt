-- The faces of a leaf cell: each is a leaf face or has a split side, and on such faces views follow from the leaf numbers.
use Rattle.std.proofs.Common.{◌≡◌, ℕ, zero, suc, ◌-◌, ◌*◌, ◌<◌, ◌⊎◌, Bool, true, false, ◌||◌, ◌&&◌, not, ℤ, refl, sym, ap, ap₂, ◌∙◌, arith, inl, inr, Option, Some, None}
use Rattle.std.specs.Prelude.{nat_lt}
use Rattle.std.proofs.lemmas.Bool.{cases_Bool, cases_lt, lt-ltb, le-ltb}
use Rattle.amr_num.specs.declared.Axis.{Axis}
use Rattle.amr_num.specs.declared.Axis.TheVariants.{X, Y, Z}
use Rattle.amr_num.specs.declared.CellAt.{CellAt}
use Rattle.amr_num.specs.declared.FaceAt.{FaceAt}
use Rattle.amr_num.specs.Numbers.{sum_below}
use Rattle.amr_num.proofs.Parts.{sum_below_same}
use Rattle.mesh_model.specs.declared.geometry.Shape.{Shape}
use Rattle.mesh_model.specs.Geometry.Coordinates.{sub_face, extent, on, with, moved, below, above, wrapped, is_periodic, low_cell, high_cell, face_of, face_numbers, after, Inside}
use Rattle.mesh_model.specs.Tree.Kinds.{Grid, is_leaf, is_split, holds, is_split_face, is_leaf_face}
use Rattle.mesh_model.specs.Geometry.Canonical.{is_canonical_at, is_canonical}
use Rattle.mesh_model.specs.Geometry.Limits.{IsShape}
use Rattle.mesh_model.specs.Fields.Views.{face_down, face_view}
use Rattle.mesh_model.proofs.FieldLemmas.Beside.{above_in, before_after}
use Rattle.mesh_model.proofs.TreeLemmas.Tests.{either_true, or_right}
use Rattle.mesh_model.proofs.FieldLemmas.CellKinds.{Kinds}
use Rattle.mesh_model.proofs.FieldLemmas.FaceSums as faces
use Rattle.mesh_model.proofs.FieldLemmas.Slots.{position_double, extent_double}
use Rattle.mesh_model.proofs.FieldLemmas.Sums.{wrapped_end, wrapped_inside}

-- ---- the cells beside the faces of a cell

pub high_here : (s : Shape) (a : Axis) (c : CellAt) → Inside s c → high_cell s (face_of a c) ≡ Some c
high_here s X c i = ap (λ o. moved X o c) (above_in (is_periodic s X) (extent s X c.level) c.x (i X))
high_here s Y c i = ap (λ o. moved Y o c) (above_in (is_periodic s Y) (extent s Y c.level) c.y (i Y))
high_here s Z c i = ap (λ o. moved Z o c) (above_in (is_periodic s Z) (extent s Z c.level) c.z (i Z))

pub low_here : (s : Shape) (a : Axis) (c : CellAt) → Inside s c → low_cell s (face_of a (after s a c)) ≡ Some c
low_here s X c i = ap (λ o. moved X o (after s X c)) (before_after (is_periodic s X) (extent s X c.level) c.x (i X))
low_here s Y c i = ap (λ o. moved Y o (after s Y c)) (before_after (is_periodic s Y) (extent s Y c.level) c.y (i Y))
low_here s Z c i = ap (λ o. moved Z o (after s Z c)) (before_after (is_periodic s Z) (extent s Z c.level) c.z (i Z))

-- ---- canonical positions

twice_below : (p e : ℕ) → nat_lt (2 * p) (2 * e) ≡ nat_lt p e
twice_below p e = elim (cases_lt p e) [
  | inl h ↦ rw (lt-ltb p e h, lt-ltb (2 * p) (2 * e) (omega arith)) refl
  | inr h ↦ rw (le-ltb p e h, le-ltb (2 * p) (2 * e) (omega arith)) refl
]

pub canonical_sub : (s : Shape) (f : FaceAt) (q : ℕ) → is_canonical s (sub_face f q) ≡ is_canonical s f
unfolding is_canonical_at
canonical_sub s f q =
    ap₂ (λ m n. not (is_periodic s f.axis) || nat_lt m n) (position_double f.axis f.level f.x f.y f.z q) (extent_double s f.axis f.level)
    ∙ ap (λ b. not (is_periodic s f.axis) || b) (twice_below (on f.axis (face_numbers f)) (extent s f.axis f.level))

canonical_below : (b : Bool) (e p : ℕ) → p < e → (not b || nat_lt p e) ≡ true
canonical_below false e p h = refl
canonical_below true e p h = lt-ltb p e h

canonical_wrapped : (b : Bool) (e p : ℕ) → p < e → (not b || nat_lt (wrapped b e (suc p)) e) ≡ true
unfolding wrapped
canonical_wrapped false e p h = refl
canonical_wrapped true e p h = elim (cases_lt (suc p) e) [
  | inl inside ↦ ap (λ n. nat_lt n e) (wrapped_inside e (suc p) inside) ∙ lt-ltb (suc p) e inside
  | inr end ↦
      let last : e ≡ suc p = omega arith in
      ap (λ n. nat_lt (wrapped true e n) e) (sym last) ∙ ap (λ n. nat_lt n e) (wrapped_end e) ∙ lt-ltb 0 e (omega arith)
]

pub canonical_low : (s : Shape) (a : Axis) (c : CellAt) → Inside s c → is_canonical s (face_of a c) ≡ true
unfolding is_canonical_at
canonical_low s a c i = canonical_below (is_periodic s a) (extent s a c.level) (on a c) (i a)

pub canonical_high : (s : Shape) (a : Axis) (c : CellAt) → Inside s c → is_canonical s (face_of a (after s a c)) ≡ true
unfolding is_canonical_at
canonical_high s X c i = canonical_wrapped (is_periodic s X) (extent s X c.level) c.x (i X)
canonical_high s Y c i = canonical_wrapped (is_periodic s Y) (extent s Y c.level) c.y (i Y)
canonical_high s Z c i = canonical_wrapped (is_periodic s Z) (extent s Z c.level) c.z (i Z)

-- ---- leaf faces and faces with a split side

unfoldable pub Either : Grid → FaceAt → Type 0
Either g f = (is_split_face g f ≡ true) ⊎ (is_leaf_face g f ≡ true)

pub record Seen (g : Grid) (f : FaceAt) : Type 0 where
  pub canonical : is_canonical g.shape f ≡ true
  pub kind : Either g f

leaf_is_whole : (a b : Bool) → (a && not b) ≡ true → b ≡ false
leaf_is_whole true false h = refl
leaf_is_whole true true h = cc
leaf_is_whole false b h = cc

module _ (g : Grid) where
  pub whole_leaf_face : (f : FaceAt) → is_leaf_face g f ≡ true → is_split_face g f ≡ false
  unfolding is_leaf_face
  whole_leaf_face f h = leaf_is_whole _ _ h

  pub seen_above : (f : FaceAt) (c : CellAt) → high_cell g.shape f ≡ Some c → is_leaf g c ≡ true → Either g f
  unfolding is_leaf_face Either
  seen_above f c e t = elim (cases_Bool (is_split_face g f)) [
    | inl s ↦ inl s
    | inr n ↦ inr (ap₂ (λ a b. a && not b) (or_right (holds (is_leaf g) (low_cell g.shape f)) _ (ap (holds (is_leaf g)) e ∙ t)) n)
  ]

  pub seen_below : (f : FaceAt) (c : CellAt) → low_cell g.shape f ≡ Some c → is_leaf g c ≡ true → Either g f
  unfolding is_leaf_face Either
  seen_below f c e t = elim (cases_Bool (is_split_face g f)) [
    | inl s ↦ inl s
    | inr n ↦ inr (ap₂ (λ a b. (a || holds (is_leaf g) (high_cell g.shape f)) && not b) (ap (holds (is_leaf g)) e ∙ t) n)
  ]

  pub seen_low : (a : Axis) (c : CellAt) → Inside g.shape c → is_leaf g c ≡ true → Seen g (face_of a c)
  seen_low a c i t = record { canonical = canonical_low g.shape a c i; kind = seen_above (face_of a c) c (high_here g.shape a c i) t }

  pub seen_high : (a : Axis) (c : CellAt) → Inside g.shape c → is_leaf g c ≡ true → Seen g (face_of a (after g.shape a c))
  seen_high a c i t = record { canonical = canonical_high g.shape a c i; kind = seen_below (face_of a (after g.shape a c)) c (low_here g.shape a c i) t }

  module _ (kinds : Kinds g) where
    pub deep_beside : (a : Axis) (o : Option ℕ) (c : CellAt) → holds (is_split g) (moved a o c) ≡ true → c.level < g.shape.max
    deep_beside a None c h = cc
    deep_beside X (Some p) c h = kinds.top (with X p c) h
    deep_beside Y (Some p) c h = kinds.top (with Y p c) h
    deep_beside Z (Some p) c h = kinds.top (with Z p c) h

    pub face_top : (f : FaceAt) → is_split_face g f ≡ true → f.level < g.shape.max
    unfolding is_split_face
    face_top f h = elim (either_true (holds (is_split g) (low_cell g.shape f)) (holds (is_split g) (high_cell g.shape f)) h) [
      | inl l ↦ deep_beside f.axis (below (is_periodic g.shape f.axis) (extent g.shape f.axis f.level) (on f.axis (face_numbers f))) (face_numbers f) l
      | inr r ↦ deep_beside f.axis (above (is_periodic g.shape f.axis) (extent g.shape f.axis f.level) (on f.axis (face_numbers f))) (face_numbers f) r
    ]

    module _ (sh : IsShape g.shape) (wide : (a : Axis) (l : ℕ) → 0 < extent g.shape a l) where
      pub face_deep : (f : FaceAt) → is_split_face g f ≡ true → f.level < 10
      face_deep f h = let lt = face_top f h in let m = sh.max in omega arith

      either_sub : (f : FaceAt) (q : ℕ) → is_split_face g f ≡ true → Either g (sub_face f q)
      unfolding Either
      either_sub f q h = elim (cases_Bool (is_split_face g (sub_face f q))) [
        | inl s ↦ inl s
        | inr n ↦ inr (faces.leaf_sub_face g kinds.tree wide f q h n)
      ]

      pub seen_sub : (f : FaceAt) (q : ℕ) → is_canonical g.shape f ≡ true → is_split_face g f ≡ true → Seen g (sub_face f q)
      seen_sub f q c h = record { canonical = canonical_sub g.shape f q ∙ c; kind = either_sub f q h }

      pub face_adds : (v : FaceAt → ℤ) (f : FaceAt) → face_view g v f ≡ sum_below 4 (λ q. face_view g v (sub_face f q))
      face_adds v f = faces.face_view_sum g kinds.tree wide v f (face_deep f)

      module _ (v k : FaceAt → ℤ) (leaves : (f : FaceAt) → is_canonical g.shape f ≡ true → is_leaf_face g f ≡ true → v f ≡ k f) (adds : (f : FaceAt) → is_split_face g f ≡ true → k f ≡ sum_below 4 (λ q. k (sub_face f q))) where
        -- a field that agrees on leaf faces, and that faces with a split side divide, is what the numbers add up to
        down_either : (d : ℕ) (f : FaceAt) → d ≡ 10 - f.level → is_canonical g.shape f ≡ true → Either g f → face_down g v d f ≡ k f
        unfolding Either
        down_either zero f e c (inl s) = let room = face_deep f s in absurd (omega arith)
        down_either (suc d) f e c (inl s) =
            faces.down_split g kinds.tree wide v d f s
            ∙ sum_below_same 4 _ _ (λ q p. down_either d (sub_face f q) (omega arith) (seen_sub f q c s).canonical (seen_sub f q c s).kind)
            ∙ sym (adds f s)
        down_either d f e c (inr t) = faces.down_whole g kinds.tree wide v d f (whole_leaf_face f t) ∙ leaves f c t

        pub down_is : (f : FaceAt) → Seen g f → face_down g v (10 - f.level) f ≡ k f
        down_is f seen = down_either (10 - f.level) f refl seen.canonical seen.kind

        view_either : (f : FaceAt) → is_canonical g.shape f ≡ true → Either g f → face_view g v f ≡ k f
        unfolding Either
        view_either f c (inl s) = faces.view_split g kinds.tree wide v f s ∙ down_either (10 - f.level) f refl c (inl s)
        view_either f c (inr t) = faces.view_leaf g kinds.tree wide v f (whole_leaf_face f t) t ∙ leaves f c t

        pub view_is : (f : FaceAt) → Seen g f → face_view g v f ≡ k f
        view_is f seen = view_either f seen.canonical seen.kind

      -- a leaf face is seen as its number
      pub view_of_leaf_face : (v : FaceAt → ℤ) (f : FaceAt) → is_leaf_face g f ≡ true → face_view g v f ≡ v f
      view_of_leaf_face v f t = faces.view_leaf g kinds.tree wide v f (whole_leaf_face f t) t

      pub down_is_view : (v : FaceAt → ℤ) (f : FaceAt) → Seen g f → face_down g v (10 - f.level) f ≡ face_view g v f
      down_is_view v f seen = down_is v (face_view g v) (λ f c t. sym (view_of_leaf_face v f t)) (λ f s. face_adds v f) f seen
