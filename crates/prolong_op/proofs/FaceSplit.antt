-- A child's faces are split where its parts are there and the faces between them.
use Rattle.std.proofs.Common.{◌≡◌, ℕ, ◌+◌, ◌*◌, ◌/◌, ◌%◌, ◌^◌, Bool, true, false, not, ◌&&◌, ◌||◌, ◌==◌, List, ℤ, refl, sym, ap, ◌∙◌, arith, inl, inr, subst, ne_eqb}
use Rattle.std.specs.Prelude.{if◌then◌else◌}
use Rattle.std.proofs.lemmas.Bool.{cases_Bool}
use Rattle.amr_num.specs.declared.Axis.{Axis}
use Rattle.amr_num.specs.Numbers.{Within}
use Rattle.amr_num.proofs.Sizes.{part_size}
use Rattle.mesh_model.specs.Fields.ArrayPlaces.{IsSize, IsWritten, face_extents, number_at}
use Rattle.mesh_model.specs.Fields.FaceSplits.{AreFacesSplit, SourcesAreSmall, all_faces, face_above, face_between, face_box, face_part, is_kept, is_kept_side, position, side_direction, split_face}
use Rattle.mesh_model.specs.Fields.Views.{cross, inner_face, is_even}
use Rattle.prolong_op.specs.Splitting.{AreBetween, EvenAreSmall, given, part_or_old}
use Rattle.prolong_op.proofs.Between.{odd_below, odd_inside, odd_of, sides_same, twice_half}

-- ---- which of three numbers a face gets

choose_even : (s e : Bool) (p o b : ℤ) → e ≡ true → (if not s && e then p else o) ≡ (if s then o else (if e then p else b))
choose_even true true p o b h = refl
choose_even false true p o b h = refl
choose_even s false p o b h = cc

choose_odd : (s e : Bool) (p o b : ℤ) → s ≡ false → e ≡ false → b ≡ (if s then o else (if e then p else b))
choose_odd false false p o b h l = refl
choose_odd true e p o b h l = cc
choose_odd s true p o b h l = cc

choose_within : (most : ℕ) (s e : Bool) (p o : ℤ) → e ≡ true → (s ≡ true → Within most o) → (s ≡ false → Within most p) → Within most (if not s && e then p else o)
choose_within most true true p o h k a = k refl
choose_within most false true p o h k a = a refl
choose_within most s false p o h k a = cc

no_side : (a b u v : Bool) → a ≡ false → b ≡ false → ((a && u) || (b && v)) ≡ false
no_side false false u v h l = refl
no_side true b u v h l = cc
no_side a true u v h l = cc

module _ (n g q kept : ℕ) (size : IsSize n g) where
  -- no side is at an odd position
  pub odd_no_side : (a : Axis) (p : ℕ) → is_even p ≡ false → is_kept_side n kept a p ≡ false
  odd_no_side a p odd =
      let one = odd_of p odd in
      let t = twice_half n g size in
      no_side (p == 0) (p == n) (is_kept kept (side_direction a 0)) (is_kept kept (side_direction a 2)) (ne_eqb p 0 (λ e. absurd (omega arith))) (ne_eqb p n (λ e. absurd (omega arith)))

  module _ (parent old mid : Axis → List ℤ)
      (parts : (a : Axis) → let e = face_extents n g a in IsWritten e (face_box n g a) (part_or_old n g q kept a (number_at e (parent a)) (number_at e (old a))) (old a) (mid a)) where
    -- the parts and what was kept are in range
    pub even_small : SourcesAreSmall n g q kept (all_faces n g parent) (all_faces n g old) → EvenAreSmall n g (all_faces n g mid)
    unfolding given
    even_small small = record {
      at = λ a i j k hi hj hk even.
          subst (Within (2 ^ 40)) (sym ((parts a).written i j k hi hj hk))
          (choose_within (2 ^ 40) (is_kept_side n kept a (position a i j k)) (is_even (position a i j k)) _ _ even
          (λ s. small.stay a i j k hi hj hk s)
          (λ s.
          let whole = face_above n g q (all_faces n g parent a) i j k in
          let few = small.split a i j k hi hj hk s even in
          let least = part_size (cross a (i % 2) (j % 2) (k % 2)) 4 whole (omega arith) in
          omega arith));
    }

    pub split_done : (new : Axis → List ℤ) → ((a : Axis) → AreBetween (n / 2 * (n / 2) * (n / 2)) n g a (face_between g a (all_faces n g mid)) (mid a) (new a)) →
        AreFacesSplit n g q kept parent old new
    unfolding split_face given
    split_done new between a = record {
      size = (between a).size ∙ (parts a).size;
      written = λ i j k hi hj hk.
          let p = position a i j k in
          let s = is_kept_side n kept a p in
          let was = all_faces n g old a (g + i) (g + j) (g + k) in
          let its = face_part n g q a (all_faces n g parent a) i j k in
          let rule = face_between g a (all_faces n g new) i j k in
          elim (cases_Bool (is_even p)) [
            | inl even ↦ (between a).waits i j k hi hj hk (inl even) ∙ (parts a).written i j k hi hj hk ∙ choose_even s (is_even p) its was rule even
            | inr odd ↦
                let cell = odd_inside n g size a i j k hi hj hk odd in
                (between a).made i j k hi hj hk odd (odd_below n g size a i j k hi hj hk odd)
                ∙ ap (λ o. inner_face o a (i % 2) (j % 2) (k % 2))
                (sym (sides_same n g size (i / 2) (j / 2) (k / 2) cell.0 cell.1 cell.2 (all_faces n g new) (all_faces n g mid) (λ b u v w hu hv hw even. (between b).waits u v w hu hv hw (inl even))))
                ∙ choose_odd s (is_even p) its was rule (odd_no_side a p odd) odd
          ];
      stays = λ i j k hi hj hk out. (between a).stays i j k hi hj hk out ∙ (parts a).stays i j k hi hj hk out;
    }
