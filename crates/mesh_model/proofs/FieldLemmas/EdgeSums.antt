-- An edge's view is the sum of its halves' views.
use Rattle.std.proofs.Common.{◌≡◌, ℕ, zero, suc, ◌-◌, ◌%◌, ◌<◌, true, false, ◌&&◌, not, ℤ, refl, sym, ap, ap₂, ◌∙◌, arith, inl, inr, eq-eqb}
use Rattle.std.proofs.lemmas.Bool.{cases_Bool}
use Rattle.amr_num.specs.declared.Axis.{Axis}
use Rattle.amr_num.specs.declared.EdgeAt.{EdgeAt}
use Rattle.amr_num.specs.Numbers.{part, sum_below}
use Rattle.amr_num.proofs.Parts.{parts_add_up, sum_below_same}
use Rattle.mesh_model.specs.Geometry.Coordinates.{half_edge, parent_edge, extent, on, next, edge_numbers}
use Rattle.mesh_model.specs.Tree.Kinds.{Grid, is_leaf, is_split, is_split_edge, is_leaf_edge}
use Rattle.mesh_model.specs.Fields.Views.{edge_down, outer_edge_view, edge_view_at, edge_view, half_of}
use Rattle.mesh_model.proofs.FieldLemmas.CellSums.{TreeLike}
use Rattle.mesh_model.proofs.FieldLemmas.Slots.{round_fails, round_holds, even_positions, half_of_half, parent_of_half}

module _ (g : Grid) (tree : TreeLike g) (wide : (a : Axis) (l : ℕ) → 0 < extent g.shape a l) where
  whole_half : (e : EdgeAt) (h : ℕ) → h < 2 → is_split_edge g e ≡ false → is_split_edge g (half_edge e h) ≡ false
  unfolding is_split_edge
  whole_half e h p n = round_fails g.shape wide e h p (is_split g) (is_split g) tree.below_whole n

  no_leaf_half : (e : EdgeAt) (h : ℕ) → h < 2 → is_split_edge g e ≡ false → is_leaf_edge g (half_edge e h) ≡ false
  unfolding is_split_edge is_leaf_edge
  no_leaf_half e h p n = ap (λ b. b && not (is_split_edge g (half_edge e h))) (round_fails g.shape wide e h p (is_split g) (is_leaf g) tree.below_whole_leaf n)

  pub leaf_half : (e : EdgeAt) (h : ℕ) → h < 2 → is_split_edge g e ≡ true → is_split_edge g (half_edge e h) ≡ false → is_leaf_edge g (half_edge e h) ≡ true
  unfolding is_split_edge is_leaf_edge
  leaf_half e h p s n = ap₂ (λ a b. a && not b) (round_holds g.shape wide e h p (is_split g) (is_split g) (is_leaf g) tree.below_split s n) n

  module _ (v : EdgeAt → ℤ) where
    pub down_whole : (d : ℕ) (e : EdgeAt) → is_split_edge g e ≡ false → edge_down g v d e ≡ v e
    unfolding edge_down
    down_whole zero e h = refl
    down_whole (suc d) e h = rw (h, edge_down) refl

    pub down_split : (d : ℕ) (e : EdgeAt) → is_split_edge g e ≡ true → edge_down g v (suc d) e ≡ sum_below 2 (λ h. edge_down g v d (half_edge e h))
    unfolding edge_down
    down_split d e h = rw (h, edge_down) refl

    -- what the first three cases give
    pub rim_split : (above : EdgeAt → ℤ) (e : EdgeAt) → is_split_edge g e ≡ true → outer_edge_view g v above e ≡ edge_down g v (10 - e.level) e
    unfolding outer_edge_view
    rim_split above e h = rw (h, outer_edge_view) refl

    pub rim_leaf : (above : EdgeAt → ℤ) (e : EdgeAt) → is_split_edge g e ≡ false → is_leaf_edge g e ≡ true → outer_edge_view g v above e ≡ v e
    unfolding outer_edge_view
    rim_leaf above e n h = rw (n, outer_edge_view) (rw h refl)

    pub rim_part : (above : EdgeAt → ℤ) (e : EdgeAt) → is_split_edge g e ≡ false → is_leaf_edge g e ≡ false → outer_edge_view g v above e ≡ part (half_of e) (above (parent_edge e)) 2
    unfolding outer_edge_view
    rim_part above e n h = rw (n, outer_edge_view) (rw h refl)

    at_split : (l : ℕ) (e : EdgeAt) → is_split_edge g e ≡ true → edge_view_at g v l e ≡ edge_down g v (10 - e.level) e
    unfolding edge_view_at
    at_split zero e h = rw (h, edge_view_at) refl
    at_split (suc l) e h = rw (h, edge_view_at) (rim_split _ e h)

    at_leaf : (l : ℕ) (e : EdgeAt) → is_split_edge g e ≡ false → is_leaf_edge g e ≡ true → edge_view_at g v l e ≡ v e
    unfolding edge_view_at
    at_leaf zero e n h = rw (n, edge_view_at) refl
    at_leaf (suc l) e n h = rw (n, h, edge_view_at) (rim_leaf _ e n h)

    pub at_even : (l : ℕ) (e : EdgeAt) → is_split_edge g e ≡ false → is_leaf_edge g e ≡ false → on (next e.axis) (edge_numbers e) % 2 ≡ 0 → on (next (next e.axis)) (edge_numbers e) % 2 ≡ 0 → edge_view_at g v (suc l) e ≡ part (half_of e) (edge_view_at g v l (parent_edge e)) 2
    unfolding edge_view_at
    at_even l e n h p q = rw (n, h, eq-eqb _ _ p, eq-eqb _ _ q, edge_view_at) (rim_part _ e n h)

    pub view_split : (e : EdgeAt) → is_split_edge g e ≡ true → edge_view g v e ≡ edge_down g v (10 - e.level) e
    view_split e h = at_split e.level e h

    pub view_leaf : (e : EdgeAt) → is_split_edge g e ≡ false → is_leaf_edge g e ≡ true → edge_view g v e ≡ v e
    view_leaf e n h = at_leaf e.level e n h

    -- at even positions the first three cases give the view
    pub rim_is_view : (l : ℕ) (e : EdgeAt) → e.level ≡ suc l → on (next e.axis) (edge_numbers e) % 2 ≡ 0 → on (next (next e.axis)) (edge_numbers e) % 2 ≡ 0 → outer_edge_view g v (edge_view_at g v l) e ≡ edge_view g v e
    rim_is_view l e level p q = elim (cases_Bool (is_split_edge g e)) [
      | inl s ↦ rim_split (edge_view_at g v l) e s ∙ sym (view_split e s)
      | inr n ↦ elim (cases_Bool (is_leaf_edge g e)) [
        | inl t ↦ rim_leaf (edge_view_at g v l) e n t ∙ sym (view_leaf e n t)
        | inr o ↦ rim_part (edge_view_at g v l) e n o ∙ sym (ap (λ k. edge_view_at g v k e) level ∙ at_even l e n o p q)
      ]
    ]

    half_of_split : (e : EdgeAt) (h : ℕ) → h < 2 → is_split_edge g e ≡ true → edge_down g v (10 - suc e.level) (half_edge e h) ≡ edge_view g v (half_edge e h)
    half_of_split e h p s = elim (cases_Bool (is_split_edge g (half_edge e h))) [
      | inl t ↦ sym (view_split (half_edge e h) t)
      | inr n ↦ down_whole (10 - suc e.level) (half_edge e h) n ∙ sym (view_leaf (half_edge e h) n (leaf_half e h p s n))
    ]

    half_of_whole : (e : EdgeAt) (h : ℕ) → h < 2 → is_split_edge g e ≡ false → part h (edge_view g v e) 2 ≡ edge_view g v (half_edge e h)
    half_of_whole e h p n =
        let even = even_positions e h in
        sym (at_even e.level (half_edge e h) (whole_half e h p n) (no_leaf_half e h p n) even.0 even.1
        ∙ ap₂ (λ r d. part r (edge_view_at g v e.level d) 2) (half_of_half e h p) (parent_of_half e h p))

    pub edge_view_sum : (e : EdgeAt) → (is_split_edge g e ≡ true → e.level < 10) → edge_view g v e ≡ sum_below 2 (λ h. edge_view g v (half_edge e h))
    edge_view_sum e deep = elim (cases_Bool (is_split_edge g e)) [
      | inl s ↦
          let room = deep s in
          let one : 10 - e.level ≡ suc (10 - suc e.level) = omega arith in
          view_split e s ∙ ap (λ d. edge_down g v d e) one ∙ down_split (10 - suc e.level) e s
          ∙ sum_below_same 2 _ _ (λ h p. half_of_split e h p s)
      | inr n ↦
          sym (sum_below_same 2 _ _ (λ h p. sym (half_of_whole e h p n)) ∙ parts_add_up (edge_view g v e) 2 (omega arith))
    ]
