-- How great the view of an edge with a split cell round it can be.
use Rattle.std.proofs.Common.{◌≡◌, ℕ, zero, suc, ◌+◌, ◌-◌, ◌*◌, ◌<◌, ◌≤◌, ◌⊎◌, true, false, not, ℤ, refl, sym, ap, ap₂, ◌∙◌, arith, inl, inr, subst, List, [], ◌∷◌, length, Option, Some, None}
use Rattle.std.specs.Prelude.{option_map}
use Rattle.std.specs.List.{list_any}
use Rattle.std.proofs.Math.Nat.{mul-le-mul_left}
use Rattle.std.proofs.lemmas.Nat.{mul-le}
use Rattle.std.proofs.lemmas.Bool.{cases_Bool, cases_lt}
use Rattle.amr_num.specs.declared.Axis.{Axis}
use Rattle.amr_num.specs.declared.Axis.TheVariants.{X, Y, Z}
use Rattle.amr_num.specs.declared.BlockAt.{BlockAt}
use Rattle.amr_num.specs.declared.CellAt.{CellAt}
use Rattle.amr_num.specs.declared.EdgeAt.{EdgeAt}
use Rattle.amr_num.specs.Numbers.{Within, sum_below}
use Rattle.mesh_model.specs.Geometry.Coordinates.{sub_cell, below, above, moved_twice, on, next, extent, is_periodic, edge_numbers, half_edge, round_edge}
use Rattle.mesh_model.specs.Tree.Kinds.{Grid, holds, is_leaf, is_leaf_edge, is_split_edge}
use Rattle.mesh_model.specs.Tree.ValidGrid.{Valid}
use Rattle.mesh_model.specs.Fields.Views.{edge_down, edge_view}
use Rattle.mesh_model.proofs.FieldLemmas.CellKinds.{wide_of}
use Rattle.mesh_model.proofs.TreeLemmas.Tests.{and_left}
use Rattle.mesh_model.proofs.FieldLemmas.Slots.{octant_round, round_cell, b_low, b_high, d_low, d_high}
use Rattle.mesh_model.proofs.FieldLemmas.ValidGrid.{tree, deep_edge}
use Rattle.mesh_model.proofs.FieldLemmas.Bounds.{total, sum_within, total_times, wider, overlap, overlap_le, overlap_at, apart_le, Apart, share_coarse, share_fine, share_at, weight_at, weight_split}
use Rattle.mesh_model.proofs.FieldLemmas.SideBounds.{weight_more, weight_none, one_row, apart_sides, wide_two, holds_leaf, leaves_at}
use Rattle.mesh_model.proofs.FieldLemmas.EdgeSums as edges

two_first : (a b p q x : ℕ) → a * p * x + b * p * x + a * q * x + b * q * x ≡ (a + b) * (p + q) * x
two_first a b p q x = grind arith

two_after : (a b p q x : ℕ) → x * a * p + x * b * p + x * a * q + x * b * q ≡ x * (a + b) * (p + q)
two_after a b p q x = grind arith

two_round_out : (a b p q x : ℕ) → p * x * a + p * x * b + q * x * a + q * x * b ≡ (p + q) * x * (a + b)
two_round_out a b p q x = grind arith

module _ (n : ℕ) (b : BlockAt) where
  slot_coarse : (a : Axis) (o p : Option ℕ) (c : CellAt) → b.level < c.level → share_at n b (moved_twice (next a) o (next (next a)) p c) ≡ 0
  unfolding share_at
  slot_coarse a None p c h = refl
  slot_coarse a (Some r) None c h = refl
  slot_coarse X (Some r) (Some t) c h = share_coarse n b _ h
  slot_coarse Y (Some r) (Some t) c h = share_coarse n b _ h
  slot_coarse Z (Some r) (Some t) c h = share_coarse n b _ h

  slot_x : (o p : Option ℕ) (c : CellAt) (d : ℕ) → c.level ≤ b.level → b.level - c.level ≡ d → share_at n b (moved_twice Y o Z p c) ≡ overlap (b.x * n) n d c.x * overlap_at (b.y * n) n d o * overlap_at (b.z * n) n d p
  unfolding share_at overlap_at
  slot_x None p c d h e = omega arith
  slot_x (Some r) None c d h e = omega arith
  slot_x (Some r) (Some t) c d h e = share_fine n d b _ h e

  slot_y : (o p : Option ℕ) (c : CellAt) (d : ℕ) → c.level ≤ b.level → b.level - c.level ≡ d → share_at n b (moved_twice Z o X p c) ≡ overlap_at (b.x * n) n d p * overlap (b.y * n) n d c.y * overlap_at (b.z * n) n d o
  unfolding share_at overlap_at
  slot_y None p c d h e = omega arith
  slot_y (Some r) None c d h e = omega arith
  slot_y (Some r) (Some t) c d h e = share_fine n d b _ h e

  slot_z : (o p : Option ℕ) (c : CellAt) (d : ℕ) → c.level ≤ b.level → b.level - c.level ≡ d → share_at n b (moved_twice X o Y p c) ≡ overlap_at (b.x * n) n d o * overlap_at (b.y * n) n d p * overlap (b.z * n) n d c.z
  unfolding share_at overlap_at
  slot_z None p c d h e = omega arith
  slot_z (Some r) None c d h e = omega arith
  slot_z (Some r) (Some t) c d h e = share_fine n d b _ h e

  -- the four cells at two places on each of two axes share the block's cells
  share_four : (a : Axis) (o o' p p' : Option ℕ) (c : CellAt) → Apart o o' → Apart p p' → share_at n b (moved_twice (next a) o (next (next a)) p c) + share_at n b (moved_twice (next a) o' (next (next a)) p c) + share_at n b (moved_twice (next a) o (next (next a)) p' c) + share_at n b (moved_twice (next a) o' (next (next a)) p' c) ≤ n * n * n
  share_four a o o' p p' c h k = elim (cases_lt b.level c.level) [
    | inl lt ↦
        let s = slot_coarse a o p c lt in
        let t = slot_coarse a o' p c lt in
        let u = slot_coarse a o p' c lt in
        let w = slot_coarse a o' p' c lt in
        omega arith
    | inr le ↦ at a le
  ]
    where
      at : (axis : Axis) → c.level ≤ b.level → share_at n b (moved_twice (next axis) o (next (next axis)) p c) + share_at n b (moved_twice (next axis) o' (next (next axis)) p c) + share_at n b (moved_twice (next axis) o (next (next axis)) p' c) + share_at n b (moved_twice (next axis) o' (next (next axis)) p' c) ≤ n * n * n
      at X le = subst (λ u. u ≤ n * n * n) (sym (ap₂ (λ s t. s + t) (ap₂ (λ s t. s + t) (ap₂ (λ s t. s + t) (slot_x o p c _ le refl) (slot_x o' p c _ le refl)) (slot_x o p' c _ le refl)) (slot_x o' p' c _ le refl) ∙ two_after _ _ _ _ _)) (mul-le _ _ _ _ (mul-le _ _ _ _ (overlap_le _ n _ c.x) (apart_le _ n _ o o' h)) (apart_le _ n _ p p' k))
      at Y le = subst (λ u. u ≤ n * n * n) (sym (ap₂ (λ s t. s + t) (ap₂ (λ s t. s + t) (ap₂ (λ s t. s + t) (slot_y o p c _ le refl) (slot_y o' p c _ le refl)) (slot_y o p' c _ le refl)) (slot_y o' p' c _ le refl) ∙ two_round_out _ _ _ _ _)) (mul-le _ _ _ _ (mul-le _ _ _ _ (apart_le _ n _ p p' k) (overlap_le _ n _ c.y)) (apart_le _ n _ o o' h))
      at Z le = subst (λ u. u ≤ n * n * n) (sym (ap₂ (λ s t. s + t) (ap₂ (λ s t. s + t) (ap₂ (λ s t. s + t) (slot_z o p c _ le refl) (slot_z o' p c _ le refl)) (slot_z o p' c _ le refl)) (slot_z o' p' c _ le refl) ∙ two_first _ _ _ _ _)) (mul-le _ _ _ _ (mul-le _ _ _ _ (apart_le _ n _ o o' h) (apart_le _ n _ p p' k)) (overlap_le _ n _ c.z))

weight_four : (n : ℕ) (bs : List BlockAt) (a : Axis) (o o' p p' : Option ℕ) (c : CellAt) → Apart o o' → Apart p p' → weight_at n bs (moved_twice (next a) o (next (next a)) p c) + weight_at n bs (moved_twice (next a) o' (next (next a)) p c) + weight_at n bs (moved_twice (next a) o (next (next a)) p' c) + weight_at n bs (moved_twice (next a) o' (next (next a)) p' c) ≤ length bs * (n * n * n)
weight_four n [] a o o' p p' c h k =
    let s = weight_none n (moved_twice (next a) o (next (next a)) p c) in
    let t = weight_none n (moved_twice (next a) o' (next (next a)) p c) in
    let u = weight_none n (moved_twice (next a) o (next (next a)) p' c) in
    let w = weight_none n (moved_twice (next a) o' (next (next a)) p' c) in
    omega arith
weight_four n (b ∷ bs) a o o' p p' c h k =
    let s = weight_more n b bs (moved_twice (next a) o (next (next a)) p c) in
    let t = weight_more n b bs (moved_twice (next a) o' (next (next a)) p c) in
    let u = weight_more n b bs (moved_twice (next a) o (next (next a)) p' c) in
    let w = weight_more n b bs (moved_twice (next a) o' (next (next a)) p' c) in
    let here = share_four n b a o o' p p' c h k in
    let rest = weight_four n bs a o o' p p' c h k in
    let row = one_row (length bs) (n * n * n) in
    omega arith

two_of_eight : (n : ℕ) (bs : List BlockAt) (a : Axis) (j k : ℕ) → j < 2 → k < 2 → (o : Option CellAt) → weight_at n bs (option_map (λ c. sub_cell c (octant_round a 0 j k)) o) + weight_at n bs (option_map (λ c. sub_cell c (octant_round a 1 j k)) o) ≤ weight_at n bs o
unfolding weight_at
two_of_eight n bs a j k hj hk None = omega arith
two_of_eight n bs X zero zero hj hk (Some c) = let all = weight_split n bs c in omega arith
two_of_eight n bs X zero (suc zero) hj hk (Some c) = let all = weight_split n bs c in omega arith
two_of_eight n bs X (suc zero) zero hj hk (Some c) = let all = weight_split n bs c in omega arith
two_of_eight n bs X (suc zero) (suc zero) hj hk (Some c) = let all = weight_split n bs c in omega arith
two_of_eight n bs Y zero zero hj hk (Some c) = let all = weight_split n bs c in omega arith
two_of_eight n bs Y zero (suc zero) hj hk (Some c) = let all = weight_split n bs c in omega arith
two_of_eight n bs Y (suc zero) zero hj hk (Some c) = let all = weight_split n bs c in omega arith
two_of_eight n bs Y (suc zero) (suc zero) hj hk (Some c) = let all = weight_split n bs c in omega arith
two_of_eight n bs Z zero zero hj hk (Some c) = let all = weight_split n bs c in omega arith
two_of_eight n bs Z zero (suc zero) hj hk (Some c) = let all = weight_split n bs c in omega arith
two_of_eight n bs Z (suc zero) zero hj hk (Some c) = let all = weight_split n bs c in omega arith
two_of_eight n bs Z (suc zero) (suc zero) hj hk (Some c) = let all = weight_split n bs c in omega arith
two_of_eight n bs a (suc (suc j)) k hj hk o = absurd (omega arith)
two_of_eight n bs a j (suc (suc k)) hj hk o = absurd (omega arith)

module _ (g : Grid) (valid : Valid g) where
  -- the places on the two axes across an edge
  low_b : EdgeAt → Option ℕ
  low_b e = below (is_periodic g.shape (next e.axis)) (extent g.shape (next e.axis) e.level) (on (next e.axis) (edge_numbers e))

  high_b : EdgeAt → Option ℕ
  high_b e = above (is_periodic g.shape (next e.axis)) (extent g.shape (next e.axis) e.level) (on (next e.axis) (edge_numbers e))

  low_d : EdgeAt → Option ℕ
  low_d e = below (is_periodic g.shape (next (next e.axis))) (extent g.shape (next (next e.axis)) e.level) (on (next (next e.axis)) (edge_numbers e))

  high_d : EdgeAt → Option ℕ
  high_d e = above (is_periodic g.shape (next (next e.axis))) (extent g.shape (next (next e.axis)) e.level) (on (next (next e.axis)) (edge_numbers e))

  slot : EdgeAt → Option ℕ → Option ℕ → ℕ
  slot e o p = leaves_at g valid (moved_twice (next e.axis) o (next (next e.axis)) p (edge_numbers e))

  around : EdgeAt → ℕ
  around e = slot e (low_b e) (low_d e) + slot e (high_b e) (low_d e) + slot e (low_b e) (high_d e) + slot e (high_b e) (high_d e)

  some_slot : (s t u w : Option CellAt) → list_any (holds (is_leaf g)) (s ∷ t ∷ u ∷ w ∷ []) ≡ true → 1 ≤ leaves_at g valid s + leaves_at g valid t + leaves_at g valid u + leaves_at g valid w
  some_slot s t u w h = elim (cases_Bool (holds (is_leaf g) s)) [
    | inl a ↦ let one = holds_leaf g valid s a in omega arith
    | inr a ↦ elim (cases_Bool (holds (is_leaf g) t)) [
      | inl b ↦ let one = holds_leaf g valid t b in omega arith
      | inr b ↦ elim (cases_Bool (holds (is_leaf g) u)) [
        | inl c ↦ let one = holds_leaf g valid u c in omega arith
        | inr c ↦ elim (cases_Bool (holds (is_leaf g) w)) [
          | inl d ↦ let one = holds_leaf g valid w d in omega arith
          | inr d ↦ let none : list_any (holds (is_leaf g)) (s ∷ t ∷ u ∷ w ∷ []) ≡ false = rw (a, b, c, d) refl in cc
        ]
      ]
    ]
  ]

  leaf_edge_weight : (e : EdgeAt) → is_leaf_edge g e ≡ true → 1 ≤ around e
  unfolding is_leaf_edge around slot low_b high_b low_d high_d
  leaf_edge_weight e h = some_slot _ _ _ _ (and_left (list_any (holds (is_leaf g)) (round_edge g.shape e)) (not (is_split_edge g e)) h)

  half_slot : (e : EdgeAt) (h : ℕ) → h < 2 → (j k : ℕ) → j < 2 → k < 2 → (o p o' p' : Option ℕ) → o' ≡ option_map (λ r. 2 * r + j) o → p' ≡ option_map (λ r. 2 * r + k) p → slot (half_edge e h) o' p' ≡ leaves_at g valid (option_map (λ c. sub_cell c (octant_round e.axis h j k)) (moved_twice (next e.axis) o (next (next e.axis)) p (edge_numbers e)))
  unfolding slot
  half_slot e h hh j k hj hk o p o' p' eo ep = ap (leaves_at g valid) (round_cell g.shape (wide_of g.shape valid.shape) e h hh j k hj hk o p o' p' eo ep)

  -- of the two halves the cells at one place on each axis are two in one
  both_halves : (e : EdgeAt) (j k : ℕ) → j < 2 → k < 2 → (o p o0 p0 o1 p1 : Option ℕ) → o0 ≡ option_map (λ r. 2 * r + j) o → p0 ≡ option_map (λ r. 2 * r + k) p → o1 ≡ option_map (λ r. 2 * r + j) o → p1 ≡ option_map (λ r. 2 * r + k) p → slot (half_edge e 0) o0 p0 + slot (half_edge e 1) o1 p1 ≤ slot e o p
  unfolding slot leaves_at
  both_halves e j k hj hk o p o0 p0 o1 p1 a0 b0 a1 b1 =
      let zero_half = half_slot e 0 (omega arith) j k hj hk o p o0 p0 a0 b0 in
      let one_half = half_slot e 1 (omega arith) j k hj hk o p o1 p1 a1 b1 in
      let two = two_of_eight g.shape.n g.leaves e.axis j k hj hk (moved_twice (next e.axis) o (next (next e.axis)) p (edge_numbers e)) in
      omega arith

  sub_weight : (e : EdgeAt) → total 2 (λ h. around (half_edge e h)) ≤ around e
  unfolding around low_b high_b low_d high_d
  sub_weight e =
      let w = wide_of g.shape valid.shape in
      let z : 0 < 2 = omega arith in
      let o : 1 < 2 = omega arith in
      let one = both_halves e 1 1 (omega arith) (omega arith) (low_b e) (low_d e) (low_b (half_edge e 0)) (low_d (half_edge e 0)) (low_b (half_edge e 1)) (low_d (half_edge e 1)) (b_low g.shape w e 0 z) (d_low g.shape w e 0 z) (b_low g.shape w e 1 o) (d_low g.shape w e 1 o) in
      let two = both_halves e 0 1 (omega arith) (omega arith) (high_b e) (low_d e) (high_b (half_edge e 0)) (low_d (half_edge e 0)) (high_b (half_edge e 1)) (low_d (half_edge e 1)) (b_high g.shape w e 0 z) (d_low g.shape w e 0 z) (b_high g.shape w e 1 o) (d_low g.shape w e 1 o) in
      let three = both_halves e 1 0 (omega arith) (omega arith) (low_b e) (high_d e) (low_b (half_edge e 0)) (high_d (half_edge e 0)) (low_b (half_edge e 1)) (high_d (half_edge e 1)) (b_low g.shape w e 0 z) (d_high g.shape w e 0 z) (b_low g.shape w e 1 o) (d_high g.shape w e 1 o) in
      let four = both_halves e 0 0 (omega arith) (omega arith) (high_b e) (high_d e) (high_b (half_edge e 0)) (high_d (half_edge e 0)) (high_b (half_edge e 1)) (high_d (half_edge e 1)) (b_high g.shape w e 0 z) (d_high g.shape w e 0 z) (b_high g.shape w e 1 o) (d_high g.shape w e 1 o) in
      omega arith

  around_le : 1 < g.shape.n → (e : EdgeAt) → around e ≤ length g.leaves * (g.shape.n * g.shape.n * g.shape.n)
  unfolding around slot leaves_at low_b high_b low_d high_d
  around_le h e = weight_four g.shape.n g.leaves e.axis (low_b e) (high_b e) (low_d e) (high_d e) (edge_numbers e)
      (apart_sides (is_periodic g.shape (next e.axis)) (extent g.shape (next e.axis) e.level) (on (next e.axis) (edge_numbers e)) (wide_two g valid (next e.axis) e.level h))
      (apart_sides (is_periodic g.shape (next (next e.axis))) (extent g.shape (next (next e.axis)) e.level) (on (next (next e.axis)) (edge_numbers e)) (wide_two g valid (next (next e.axis)) e.level h))

  module _ (number : EdgeAt → ℤ) (most : ℕ) (small : (e : EdgeAt) → is_leaf_edge g e ≡ true → Within most (number e)) where
    leaf_within : (e : EdgeAt) → is_leaf_edge g e ≡ true → Within (most * around e) (number e)
    leaf_within e leaf =
        let one = mul-le-mul_left {m = 1} {n = around e} most (leaf_edge_weight e leaf) in
        let bound = small e leaf in
        omega arith

    kind_leaf : (e : EdgeAt) → is_split_edge g e ≡ false → (is_split_edge g e ≡ true) ⊎ (is_leaf_edge g e ≡ true) → is_leaf_edge g e ≡ true
    kind_leaf e w (inl s) = cc
    kind_leaf e w (inr l) = l

    whole_within : (d : ℕ) (e : EdgeAt) → is_split_edge g e ≡ false → (is_split_edge g e ≡ true) ⊎ (is_leaf_edge g e ≡ true) → Within (most * around e) (edge_down g number d e)
    whole_within d e w kind = subst (λ z. Within (most * around e) z) (sym (edges.down_whole g (tree g valid) (wide_of g.shape valid.shape) number d e w)) (leaf_within e (kind_leaf e w kind))

    kind_below : (e : EdgeAt) (h : ℕ) → h < 2 → is_split_edge g e ≡ true → (is_split_edge g (half_edge e h) ≡ true) ⊎ (is_leaf_edge g (half_edge e h) ≡ true)
    kind_below e h l s = elim (cases_Bool (is_split_edge g (half_edge e h))) [
      | inl t ↦ inl t
      | inr n ↦ inr (edges.leaf_half g (tree g valid) (wide_of g.shape valid.shape) e h l s n)
    ]

    down_within : (d : ℕ) (e : EdgeAt) → 10 - e.level ≡ d → (is_split_edge g e ≡ true) ⊎ (is_leaf_edge g e ≡ true) → Within (most * around e) (edge_down g number d e)
    down_within zero e eq kind = elim (cases_Bool (is_split_edge g e)) [
      | inl s ↦ let deep = deep_edge g valid e s in absurd (omega arith)
      | inr w ↦ whole_within zero e w kind
    ]
    down_within (suc d) e eq kind = elim (cases_Bool (is_split_edge g e)) [
      | inl s ↦
          let sum = sum_within 2 (λ h. edge_down g number d (half_edge e h)) (λ h. most * around (half_edge e h)) (λ h l. down_within d (half_edge e h) (omega arith) (kind_below e h l s)) in
          let times = total_times 2 most (λ h. around (half_edge e h)) in
          let all = mul-le-mul_left most (sub_weight e) in
          subst (λ z. Within (most * around e) z) (sym (edges.down_split g (tree g valid) (wide_of g.shape valid.shape) number d e s)) (wider (sum_below 2 (λ h. edge_down g number d (half_edge e h))) (total 2 (λ h. most * around (half_edge e h))) _ sum (omega arith))
      | inr w ↦ whole_within (suc d) e w kind
    ]

    -- the view of a split edge is at most the number of leaf cells times the greatest number
    pub split_edge_within : 1 < g.shape.n → (e : EdgeAt) → is_split_edge g e ≡ true → Within (most * (length g.leaves * (g.shape.n * g.shape.n * g.shape.n))) (edge_view g number e)
    split_edge_within h e s =
        let bound = mul-le-mul_left most (around_le h e) in
        subst (λ z. Within (most * (length g.leaves * (g.shape.n * g.shape.n * g.shape.n))) z) (sym (edges.view_split g (tree g valid) (wide_of g.shape valid.shape) number e s)) (wider (edge_down g number (10 - e.level) e) (most * around e) _ (down_within (10 - e.level) e refl (inl s)) bound)
