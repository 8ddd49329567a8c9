-- A face's view is the sum of its subfaces' views.
use Rattle.std.proofs.Common.{◌≡◌, ℕ, zero, suc, ◌-◌, ◌%◌, ◌<◌, true, false, ◌||◌, ℤ, refl, sym, ap, ap₂, ◌∙◌, arith, inl, inr, Option, Some, None, eq-eqb}
use Rattle.std.proofs.lemmas.Bool.{cases_Bool}
use Rattle.std.specs.Prelude.{option_map}
use Rattle.amr_num.specs.declared.Axis.{Axis}
use Rattle.amr_num.specs.declared.CellAt.{CellAt}
use Rattle.amr_num.specs.declared.FaceAt.{FaceAt}
use Rattle.amr_num.specs.Numbers.{part, sum_below}
use Rattle.amr_num.proofs.Parts.{parts_add_up, sum_below_same}
use Rattle.mesh_model.specs.Geometry.Coordinates.{sub_cell, sub_face, parent_face, extent, on, face_numbers}
use Rattle.mesh_model.specs.Tree.Kinds.{Grid, is_leaf, is_split, holds, is_split_face, is_leaf_face}
use Rattle.mesh_model.specs.Fields.Views.{face_down, outer_face_view, face_view_at, face_view, quarter_of}
use Rattle.mesh_model.proofs.TreeLemmas.Tests.{both_false, either_true, or_right}
use Rattle.mesh_model.proofs.FieldLemmas.CellSums.{TreeLike}
use Rattle.mesh_model.proofs.FieldLemmas.Slots.{low_cell_sub, high_cell_sub, even_position, quarter_of_sub, parent_of_sub_face}

module _ (g : Grid) (tree : TreeLike g) (wide : (a : Axis) (l : ℕ) → 0 < extent g.shape a l) where
  -- what a cell beside the face says of the one beside a subface
  whole_stays : (o : Option CellAt) (q : ℕ) → holds (is_split g) o ≡ false → holds (is_split g) (option_map (λ c. sub_cell c q) o) ≡ false
  whole_stays None q h = refl
  whole_stays (Some c) q h = tree.below_whole c q h

  no_leaf_below : (o : Option CellAt) (q : ℕ) → holds (is_split g) o ≡ false → holds (is_leaf g) (option_map (λ c. sub_cell c q) o) ≡ false
  no_leaf_below None q h = refl
  no_leaf_below (Some c) q h = tree.below_whole_leaf c q h

  leaf_below : (o : Option CellAt) (q : ℕ) → holds (is_split g) o ≡ true → holds (is_split g) (option_map (λ c. sub_cell c q) o) ≡ false → holds (is_leaf g) (option_map (λ c. sub_cell c q) o) ≡ true
  leaf_below None q h n = cc
  leaf_below (Some c) q h n = tree.below_split c q h n

  whole_sub_face : (f : FaceAt) (q : ℕ) → is_split_face g f ≡ false → is_split_face g (sub_face f q) ≡ false
  unfolding is_split_face
  whole_sub_face f q h =
      let both = both_false _ _ h in
      ap₂ (λ a b. a || b)
      (ap (holds (is_split g)) (low_cell_sub g.shape f q (wide f.axis f.level)) ∙ whole_stays _ _ both.0)
      (ap (holds (is_split g)) (high_cell_sub g.shape f q) ∙ whole_stays _ _ both.1)

  no_leaf_sub_face : (f : FaceAt) (q : ℕ) → is_split_face g f ≡ false → is_leaf_face g (sub_face f q) ≡ false
  unfolding is_split_face is_leaf_face
  no_leaf_sub_face f q h =
      let both = both_false _ _ h in
      let low = ap (holds (is_leaf g)) (low_cell_sub g.shape f q (wide f.axis f.level)) ∙ no_leaf_below _ _ both.0 in
      let high = ap (holds (is_leaf g)) (high_cell_sub g.shape f q) ∙ no_leaf_below _ _ both.1 in
      rw (low, high) refl

  pub leaf_sub_face : (f : FaceAt) (q : ℕ) → is_split_face g f ≡ true → is_split_face g (sub_face f q) ≡ false → is_leaf_face g (sub_face f q) ≡ true
  unfolding is_split_face is_leaf_face
  leaf_sub_face f q h n =
      let both = both_false _ _ n in
      let low = ap (holds (is_split g)) (sym (low_cell_sub g.shape f q (wide f.axis f.level))) ∙ both.0 in
      let high = ap (holds (is_split g)) (sym (high_cell_sub g.shape f q)) ∙ both.1 in
      elim (either_true _ _ h) [
        | inl s ↦ rw (ap (holds (is_leaf g)) (low_cell_sub g.shape f q (wide f.axis f.level)) ∙ leaf_below _ _ s low, n) refl
        | inr s ↦ rw (or_right _ _ (ap (holds (is_leaf g)) (high_cell_sub g.shape f q) ∙ leaf_below _ _ s high), n) refl
      ]

  module _ (v : FaceAt → ℤ) where
    pub down_whole : (d : ℕ) (f : FaceAt) → is_split_face g f ≡ false → face_down g v d f ≡ v f
    unfolding face_down
    down_whole zero f h = refl
    down_whole (suc d) f h = rw (h, face_down) refl

    pub down_split : (d : ℕ) (f : FaceAt) → is_split_face g f ≡ true → face_down g v (suc d) f ≡ sum_below 4 (λ q. face_down g v d (sub_face f q))
    unfolding face_down
    down_split d f h = rw (h, face_down) refl

    -- what the first three cases give
    pub side_split : (above : FaceAt → ℤ) (f : FaceAt) → is_split_face g f ≡ true → outer_face_view g v above f ≡ face_down g v (10 - f.level) f
    unfolding outer_face_view
    side_split above f h = rw (h, outer_face_view) refl

    pub side_leaf : (above : FaceAt → ℤ) (f : FaceAt) → is_split_face g f ≡ false → is_leaf_face g f ≡ true → outer_face_view g v above f ≡ v f
    unfolding outer_face_view
    side_leaf above f n h = rw (n, outer_face_view) (rw h refl)

    pub side_part : (above : FaceAt → ℤ) (f : FaceAt) → is_split_face g f ≡ false → is_leaf_face g f ≡ false → outer_face_view g v above f ≡ part (quarter_of f) (above (parent_face f)) 4
    unfolding outer_face_view
    side_part above f n h = rw (n, outer_face_view) (rw h refl)

    at_split : (l : ℕ) (f : FaceAt) → is_split_face g f ≡ true → face_view_at g v l f ≡ face_down g v (10 - f.level) f
    unfolding face_view_at
    at_split zero f h = rw (h, face_view_at) refl
    at_split (suc l) f h = rw (h, face_view_at) (side_split _ f h)

    at_leaf : (l : ℕ) (f : FaceAt) → is_split_face g f ≡ false → is_leaf_face g f ≡ true → face_view_at g v l f ≡ v f
    unfolding face_view_at
    at_leaf zero f n h = rw (n, face_view_at) refl
    at_leaf (suc l) f n h = rw (n, h, face_view_at) (side_leaf _ f n h)

    pub at_even : (l : ℕ) (f : FaceAt) → is_split_face g f ≡ false → is_leaf_face g f ≡ false → on f.axis (face_numbers f) % 2 ≡ 0 → face_view_at g v (suc l) f ≡ part (quarter_of f) (face_view_at g v l (parent_face f)) 4
    unfolding face_view_at
    at_even l f n h e = rw (n, h, eq-eqb _ _ e, face_view_at) (side_part _ f n h)

    pub view_split : (f : FaceAt) → is_split_face g f ≡ true → face_view g v f ≡ face_down g v (10 - f.level) f
    view_split f h = at_split f.level f h

    pub view_leaf : (f : FaceAt) → is_split_face g f ≡ false → is_leaf_face g f ≡ true → face_view g v f ≡ v f
    view_leaf f n h = at_leaf f.level f n h

    -- at an even position the first three cases give the view
    pub side_is_view : (l : ℕ) (f : FaceAt) → f.level ≡ suc l → on f.axis (face_numbers f) % 2 ≡ 0 → outer_face_view g v (face_view_at g v l) f ≡ face_view g v f
    side_is_view l f level e = elim (cases_Bool (is_split_face g f)) [
      | inl s ↦ side_split (face_view_at g v l) f s ∙ sym (view_split f s)
      | inr n ↦ elim (cases_Bool (is_leaf_face g f)) [
        | inl t ↦ side_leaf (face_view_at g v l) f n t ∙ sym (view_leaf f n t)
        | inr o ↦ side_part (face_view_at g v l) f n o ∙ sym (ap (λ k. face_view_at g v k f) level ∙ at_even l f n o e)
      ]
    ]

    sub_of_split : (f : FaceAt) (q : ℕ) → is_split_face g f ≡ true → face_down g v (10 - suc f.level) (sub_face f q) ≡ face_view g v (sub_face f q)
    sub_of_split f q h = elim (cases_Bool (is_split_face g (sub_face f q))) [
      | inl s ↦ sym (view_split (sub_face f q) s)
      | inr n ↦ down_whole (10 - suc f.level) (sub_face f q) n ∙ sym (view_leaf (sub_face f q) n (leaf_sub_face f q h n))
    ]

    sub_of_whole : (f : FaceAt) (q : ℕ) → q < 4 → is_split_face g f ≡ false → part q (face_view g v f) 4 ≡ face_view g v (sub_face f q)
    sub_of_whole f q p h =
        sym (at_even f.level (sub_face f q) (whole_sub_face f q h) (no_leaf_sub_face f q h) (even_position f q)
        ∙ ap₂ (λ r d. part r (face_view_at g v f.level d) 4) (quarter_of_sub f q p) (parent_of_sub_face f q))

    pub face_view_sum : (f : FaceAt) → (is_split_face g f ≡ true → f.level < 10) → face_view g v f ≡ sum_below 4 (λ q. face_view g v (sub_face f q))
    face_view_sum f deep = elim (cases_Bool (is_split_face g f)) [
      | inl s ↦
          let room = deep s in
          let one : 10 - f.level ≡ suc (10 - suc f.level) = omega arith in
          view_split f s ∙ ap (λ d. face_down g v d f) one ∙ down_split (10 - suc f.level) f s
          ∙ sum_below_same 4 _ _ (λ q p. sub_of_split f q s)
      | inr n ↦
          sym (sum_below_same 4 _ _ (λ q p. sym (sub_of_whole f q p n)) ∙ parts_add_up (face_view g v f) 4 (omega arith))
    ]
