-- A cell's view is the sum of its sub-cells' views.
use Rattle.std.proofs.Common.{◌≡◌, ℕ, zero, suc, ◌+◌, ◌-◌, ◌*◌, ◌/◌, ◌%◌, ◌<◌, true, false, ℤ, refl, sym, ap, ap₂, ◌∙◌, arith, inl, inr}
use Rattle.std.proofs.lemmas.Bool.{cases_Bool}
use Rattle.amr_num.specs.declared.CellAt.{CellAt}
use Rattle.amr_num.specs.Numbers.{part, sum_below}
use Rattle.amr_num.proofs.Parts.{parts_add_up, sum_below_same}
use Rattle.mesh_model.specs.Geometry.Coordinates.{sub_cell, parent_cell, octant_of}
use Rattle.mesh_model.specs.Tree.Kinds.{Grid, is_leaf, is_split}
use Rattle.mesh_model.specs.Fields.Views.{sum_down, view_at, cell_view}

pub record TreeLike (g : Grid) : Type 0 where
  pub below_split : (c : CellAt) (q : ℕ) → is_split g c ≡ true → is_split g (sub_cell c q) ≡ false → is_leaf g (sub_cell c q) ≡ true
  pub below_whole : (c : CellAt) (q : ℕ) → is_split g c ≡ false → is_split g (sub_cell c q) ≡ false
  pub below_whole_leaf : (c : CellAt) (q : ℕ) → is_split g c ≡ false → is_leaf g (sub_cell c q) ≡ false
  pub split_level : (c : CellAt) → is_split g c ≡ true → c.level < 10

pub parent_of_sub : (c : CellAt) (q : ℕ) → parent_cell (sub_cell c q) ≡ c
parent_of_sub c q =
    let lv : suc c.level - 1 ≡ c.level = omega arith in
    let xs : (2 * c.x + q % 2) / 2 ≡ c.x = omega arith in
    let ys : (2 * c.y + q / 2 % 2) / 2 ≡ c.y = omega arith in
    let zs : (2 * c.z + q / 4 % 2) / 2 ≡ c.z = omega arith in
    λ i. record { level = lv i; x = xs i; y = ys i; z = zs i }

pub octant_of_sub : (c : CellAt) (q : ℕ) → q < 8 → octant_of (sub_cell c q) ≡ q
octant_of_sub c q h = omega arith

module _ (g : Grid) (v : CellAt → ℤ) where
  pub down_whole : (d : ℕ) (c : CellAt) → is_split g c ≡ false → sum_down g v d c ≡ v c
  unfolding sum_down
  down_whole zero c h = refl
  down_whole (suc d) c h = rw (h, sum_down) refl

  pub down_split : (d : ℕ) (c : CellAt) → is_split g c ≡ true → sum_down g v (suc d) c ≡ sum_below 8 (λ q. sum_down g v d (sub_cell c q))
  unfolding sum_down
  down_split d c h = rw (h, sum_down) refl

  at_split : (l : ℕ) (c : CellAt) → is_split g c ≡ true → view_at g v l c ≡ sum_down g v (10 - c.level) c
  unfolding view_at
  at_split zero c h = rw (h, view_at) refl
  at_split (suc l) c h = rw (h, view_at) refl

  pub at_leaf : (l : ℕ) (c : CellAt) → is_split g c ≡ false → is_leaf g c ≡ true → view_at g v l c ≡ v c
  unfolding view_at
  at_leaf zero c n h = rw (n, view_at) refl
  at_leaf (suc l) c n h = rw (n, view_at) (rw h refl)

  pub at_inner : (l : ℕ) (c : CellAt) → is_split g c ≡ false → is_leaf g c ≡ false → view_at g v (suc l) c ≡ part (octant_of c) (view_at g v l (parent_cell c)) 8
  unfolding view_at
  at_inner l c n h = rw (n, view_at) (rw h refl)

  pub view_split : (c : CellAt) → is_split g c ≡ true → cell_view g v c ≡ sum_down g v (10 - c.level) c
  view_split c h = at_split c.level c h

  pub view_leaf : (c : CellAt) → is_split g c ≡ false → is_leaf g c ≡ true → cell_view g v c ≡ v c
  view_leaf c n h = at_leaf c.level c n h

  module _ (tree : TreeLike g) where
    sub_of_split : (c : CellAt) (q : ℕ) → is_split g c ≡ true → sum_down g v (10 - suc c.level) (sub_cell c q) ≡ cell_view g v (sub_cell c q)
    sub_of_split c q h = elim (cases_Bool (is_split g (sub_cell c q))) [
      | inl s ↦ sym (view_split (sub_cell c q) s)
      | inr n ↦ down_whole (10 - suc c.level) (sub_cell c q) n ∙ sym (view_leaf (sub_cell c q) n (tree.below_split c q h n))
    ]

    sub_of_whole : (c : CellAt) (q : ℕ) → q < 8 → is_split g c ≡ false → part q (cell_view g v c) 8 ≡ cell_view g v (sub_cell c q)
    sub_of_whole c q p h =
        sym (at_inner c.level (sub_cell c q) (tree.below_whole c q h) (tree.below_whole_leaf c q h)
        ∙ ap₂ (λ r d. part r (view_at g v c.level d) 8) (octant_of_sub c q p) (parent_of_sub c q))

    pub cell_view_sum : (c : CellAt) → cell_view g v c ≡ sum_below 8 (λ q. cell_view g v (sub_cell c q))
    cell_view_sum c = elim (cases_Bool (is_split g c)) [
      | inl s ↦
          let deep = tree.split_level c s in
          let one : 10 - c.level ≡ suc (10 - suc c.level) = omega arith in
          view_split c s ∙ ap (λ d. sum_down g v d c) one ∙ down_split (10 - suc c.level) c s
          ∙ sum_below_same 8 _ _ (λ q p. sub_of_split c q s)
      | inr n ↦
          sym (sum_below_same 8 _ _ (λ q p. sym (sub_of_whole c q p n)) ∙ parts_add_up (cell_view g v c) 8 (omega arith))
    ]
