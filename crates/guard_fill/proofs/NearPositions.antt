-- The positions beside a leaf: the cells below and above one are next to the leaf.
use Rattle.std.proofs.Common.{◌≡◌, ℕ, zero, suc, ◌+◌, ◌-◌, ◌*◌, ◌<◌, ◌≤◌, ◌⊎◌, Bool, true, false, pos, negsuc, refl, sym, ap, subst, ◌∙◌, arith, inl, inr, Some, None}
use Rattle.std.proofs.lemmas.Bool.{cases_lt}
use Rattle.std.proofs.lemmas.Int.{ints}
use Rattle.mesh_model.specs.Fields.ArrayPlaces.{IsSize}
use Rattle.mesh_model.specs.Geometry.Coordinates.{above, below, wrapped}
use Rattle.mesh_model.specs.Geometry.Outside.{brought_in}
use Rattle.mesh_model.specs.Geometry.Places.{guard_index}
use Rattle.mesh_model.proofs.FieldLemmas.Beside.{above_out, below_follows}
use Rattle.mesh_model.proofs.FieldLemmas.Round.{above_is}
use Rattle.mesh_model.proofs.FieldLemmas.Sums.{wrapped_end, wrapped_inside}
use Rattle.guard_fill.proofs.AxisStrips.{cells_least, last_row, low_wrapped, own_position, row}
use Rattle.guard_fill.proofs.NearCells.{IsAround, IsNext}

-- a position of the axis is at most one away from those of the block; the last one of a periodic axis is the first
pub record IsNextPosition (periodic : Bool) (blocks n b p : ℕ) : Type 0 where
  pub inside : (p < blocks * n) ⊎ ((periodic ≡ false) × (p ≡ blocks * n))
  pub which : IsAround 1 periodic blocks n b p

module _ (n g blocks : ℕ) (size : IsSize n g) where
  all_cells : (b : ℕ) → b < blocks → n * b + n ≤ blocks * n
  all_cells b h = let line = row blocks n b h in let turned : n * blocks ≡ blocks * n = grind arith in omega arith

  end_cells : (b : ℕ) → suc b ≡ blocks → blocks * n ≡ n * b + n
  end_cells b last = let one : blocks - 1 ≡ b = omega arith in last_row n blocks (omega arith) ∙ ap (λ m. n * m + n) one

  -- the position before the first one
  first_position : (periodic : Bool) → 0 < blocks → IsNextPosition periodic blocks n 0 (brought_in periodic (blocks * n) (blocks * n) (negsuc 0))
  first_position true h =
      let least = cells_least size in
      let all = all_cells 0 h in
      let none : n * 0 ≡ 0 = omega arith in
      let is = low_wrapped blocks n 0 h 0 (omega arith) in
      subst (IsNextPosition true blocks n 0) (sym is) (record { inside = inl (omega arith); which = inr (refl, inl (refl, omega arith)) })
  first_position false h =
      let least = cells_least size in
      let all = all_cells 0 h in
      let none : n * 0 ≡ 0 = omega arith in
      record { inside = inl (omega arith); which = inl (omega arith, omega arith) }

  -- the last one of the axis
  end_position : (periodic : Bool) (b : ℕ) → b < blocks → suc b ≡ blocks → IsNextPosition periodic blocks n b (wrapped periodic (blocks * n) (blocks * n))
  unfolding wrapped
  end_position true b h last =
      let least = cells_least size in
      let all = all_cells b h in
      subst (IsNextPosition true blocks n b) (sym (wrapped_end (blocks * n))) (record { inside = inl (omega arith); which = inr (refl, inr (last, omega arith)) })
  end_position false b h last =
      let all = end_cells b last in
      record { inside = inr (refl, refl); which = inl (omega arith, omega arith) }

  own_wrapped : (periodic : Bool) (e q : ℕ) → q < e → wrapped periodic e q ≡ q
  unfolding wrapped
  own_wrapped true e q h = wrapped_inside e q h
  own_wrapped false e q h = refl

  place_position : (periodic : Bool) (b q : ℕ) → b < blocks → n * b ≤ q + 1 → q ≤ n * b + n → IsNextPosition periodic blocks n b (brought_in periodic (blocks * n) (blocks * n) (pos q))
  place_position periodic b q h low high =
      let all = all_cells b h in
      let is = own_position periodic (blocks * n) q (omega arith) in
      elim (cases_lt q (blocks * n)) [
        | inl less ↦ subst (IsNextPosition periodic blocks n b) (sym (is ∙ own_wrapped periodic (blocks * n) q less)) (record { inside = inl less; which = inl (low, omega arith) })
        | inr past ↦
            let end : q ≡ blocks * n = omega arith in
            let last : suc b ≡ blocks = elim (cases_lt (suc b) blocks) [
              | inl more ↦ (let least = cells_least size in let next = all_cells (suc b) more in let two : n * suc b ≡ n * b + n = grind arith in absurd (omega arith))
              | inr none ↦ omega arith
            ] in
            subst (IsNextPosition periodic blocks n b) (sym (is ∙ ap (wrapped periodic (blocks * n)) end)) (end_position periodic b h last)
      ]

  pub next_position : (periodic : Bool) (b i : ℕ) → b < blocks → g ≤ i + 1 → i ≤ g + n → IsNextPosition periodic blocks n b (brought_in periodic (blocks * n) (blocks * n) (guard_index n g b i))
  next_position periodic b i h low high = elim (cases_lt (n * b + i) g) [
    | inl before ↦ at_first b h before
    | inr some ↦
        let is : guard_index n g b i ≡ pos (n * b + i - g) = omega (arith, ints) in
        subst (λ v. IsNextPosition periodic blocks n b (brought_in periodic (blocks * n) (blocks * n) v)) (sym is) (place_position periodic b (n * b + i - g) h (omega arith) (omega arith))
  ]
    where
      at_first : (b : ℕ) → b < blocks → n * b + i < g → IsNextPosition periodic blocks n b (brought_in periodic (blocks * n) (blocks * n) (guard_index n g b i))
      at_first zero h before =
          let none : n * 0 ≡ 0 = omega arith in
          let is : guard_index n g 0 i ≡ negsuc 0 = omega (arith, ints) in
          subst (λ v. IsNextPosition periodic blocks n 0 (brought_in periodic (blocks * n) (blocks * n) v)) (sym is) (first_position periodic h)
      at_first (suc b) h before = (let least = cells_least size in let next : n * suc b ≡ n * b + n = grind arith in absurd (omega arith))

  -- the cell below such a position, and the one above it
  pub cell_below : (periodic : Bool) (b p r : ℕ) → b < blocks → IsNextPosition periodic blocks n b p → below periodic (blocks * n) p ≡ Some r → IsNext periodic blocks n b r
  cell_below periodic b p r h next is =
      let least = cells_least size in
      let all = all_cells b h in
      elim (below_follows periodic (blocks * n) p r (omega arith) is) [
        | inl follows ↦ record {
          inside = elim next.inside [ inl less ↦ omega arith | inr (closed, end) ↦ omega arith ];
          which = elim next.which [
            | inl here ↦ inl (omega arith, omega arith)
            | inr (turn, inl first) ↦ inr (turn, inl (first.0, omega arith))
            | inr (turn, inr last) ↦ absurd (omega arith)
          ];
        }
        | inr (turn, start, end) ↦ record {
          inside = omega arith;
          which = elim next.which [
            | inl here ↦ low_turned b h turn (omega arith) end
            | inr (turn, inl first) ↦ inr (turn, inl (first.0, omega arith))
            | inr (turn, inr last) ↦ low_last b h last.0 end
          ];
        }
      ]
    where
      low_turned : (b : ℕ) → b < blocks → periodic ≡ true → n * b ≤ 1 → suc r ≡ blocks * n → IsAround 2 periodic blocks n b r
      low_turned zero h turn few end = inr (turn, inl (refl, omega arith))
      low_turned (suc b) h turn few end = (let least = cells_least size in let next : n * suc b ≡ n * b + n = grind arith in absurd (omega arith))

      low_last : (b : ℕ) → b < blocks → suc b ≡ blocks → suc r ≡ blocks * n → IsAround 2 periodic blocks n b r
      low_last b h last end = let all = end_cells b last in inl (omega arith, omega arith)

  pub cell_above : (periodic : Bool) (b p r : ℕ) → IsNextPosition periodic blocks n b p → above periodic (blocks * n) p ≡ Some r → IsNext periodic blocks n b r
  cell_above periodic b p r next is = elim (above_is periodic (blocks * n) p r is) [
    | inl (same, less) ↦ record {
      inside = omega arith;
      which = elim next.which [
        | inl here ↦ inl (omega arith, omega arith)
        | inr (turn, inl first) ↦ inr (turn, inl (first.0, omega arith))
        | inr (turn, inr last) ↦ inr (turn, inr (last.0, omega arith))
      ];
    }
    | inr (start, past) ↦ elim next.inside [
      | inl less ↦ absurd (omega arith)
      | inr (closed, end) ↦ (let none : Some r ≡ None = sym is ∙ ap (λ t. above t (blocks * n) p) closed ∙ above_out (blocks * n) p past in cc)
    ]
  ]
