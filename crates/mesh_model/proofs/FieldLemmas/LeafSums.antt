-- Over the leaf cells, a field that each cell divides among its sub-cells sums to what it has on level 0.
use Rattle.std.proofs.Common.{◌≡◌, ℕ, zero, suc, ◌*◌, ◌<◌, true, false, ℤ, pos, ◌+ℤ◌, ◌-ℤ◌, refl, sym, ap, ap₂, ◌∙◌, arith, inl, inr}
use Rattle.std.specs.Prelude.{if◌then◌else◌}
use Rattle.std.proofs.lemmas.Int.{ints}
use Rattle.std.proofs.lemmas.Bool.{cases_Bool}
use Rattle.amr_num.specs.declared.Axis.{Axis}
use Rattle.amr_num.specs.declared.Axis.TheVariants.{X, Y, Z}
use Rattle.amr_num.specs.declared.CellAt.{CellAt}
use Rattle.amr_num.specs.Numbers.{sum_below}
use Rattle.amr_num.proofs.Parts.{sum_below_same, sum_below_add}
use Rattle.mesh_model.specs.declared.geometry.Shape.{Shape}
use Rattle.mesh_model.specs.Geometry.Coordinates.{sub_cell, extent, on, Inside}
use Rattle.mesh_model.specs.Tree.Kinds.{Grid, is_leaf, is_split}
use Rattle.mesh_model.specs.Fields.Plain.{on_cells}
use Rattle.mesh_model.specs.Fields.Totals.{box_sum, level_sum, leaf_sum}
use Rattle.mesh_model.proofs.FieldLemmas.CellKinds.{Kinds}
use Rattle.mesh_model.proofs.FieldLemmas.Slots.{extent_double}
use Rattle.mesh_model.proofs.FieldLemmas.Sums.{box_same, box_add, box_sub, box_zero, box_double, sum_below_zero, sum_below_sub}

abbrev cell : ℕ → ℕ → ℕ → ℕ → CellAt
cell l x y z = record { level = l; x = x; y = y; z = z }

on_each : (s : Shape) (l x y z : ℕ) → x < extent s X l → y < extent s Y l → z < extent s Z l → (a : Axis) → on a (cell l x y z) < extent s a l
on_each s l x y z hx hy hz X = hx
on_each s l x y z hx hy hz Y = hy
on_each s l x y z hx hy hz Z = hz

in_range : (s : Shape) (l x y z : ℕ) → x < extent s X l → y < extent s Y l → z < extent s Z l → Inside s (cell l x y z)
in_range s l x y z hx hy hz = (on_each s l x y z hx hy hz)

-- ---- levels

pub level_same : (s : Shape) (l : ℕ) (f g : CellAt → ℤ) → ((c : CellAt) → c.level ≡ l → Inside s c → f c ≡ g c) → level_sum s l f ≡ level_sum s l g
level_same s l f g h = box_same _ _ _ _ _ (λ x y z hx hy hz. h (cell l x y z) refl (in_range s l x y z hx hy hz))

pub level_add : (s : Shape) (l : ℕ) (f g : CellAt → ℤ) → level_sum s l (λ c. f c +ℤ g c) ≡ level_sum s l f +ℤ level_sum s l g
level_add s l f g = box_add _ _ _ _ _

pub level_sub : (s : Shape) (l : ℕ) (f g : CellAt → ℤ) → level_sum s l (λ c. f c -ℤ g c) ≡ level_sum s l f -ℤ level_sum s l g
level_sub s l f g = box_sub _ _ _ _ _

pub level_zero : (s : Shape) (l : ℕ) (f : CellAt → ℤ) → ((c : CellAt) → c.level ≡ l → Inside s c → f c ≡ pos 0) → level_sum s l f ≡ pos 0
level_zero s l f h = box_zero _ _ _ _ (λ x y z hx hy hz. h (cell l x y z) refl (in_range s l x y z hx hy hz))

-- the cells of the next level, by the cells that they are in
pub level_down : (s : Shape) (l : ℕ) (f : CellAt → ℤ) → level_sum s (suc l) f ≡ level_sum s l (λ c. sum_below 8 (λ q. f (sub_cell c q)))
level_down s l f =
    let at = λ (x y z : ℕ). f (record { level = suc l; x = x; y = y; z = z }) in
    ap (λ a. box_sum a (extent s Y (suc l)) (extent s Z (suc l)) at) (extent_double s X l)
    ∙ ap₂ (λ b c. box_sum (2 * extent s X l) b c at) (extent_double s Y l) (extent_double s Z l)
    ∙ box_double (extent s X l) (extent s Y l) (extent s Z l) at

-- ---- leaf cells

pub on_leaf : (g : Grid) (f : CellAt → ℤ) (c : CellAt) → is_leaf g c ≡ true → on_cells g f c ≡ f c
on_leaf g f c h = rw h refl

pub off_leaf : (g : Grid) (f : CellAt → ℤ) (c : CellAt) → is_leaf g c ≡ false → on_cells g f c ≡ pos 0
off_leaf g f c h = rw h refl

pub leaf_same : (g : Grid) (f h : CellAt → ℤ) → ((c : CellAt) → Inside g.shape c → is_leaf g c ≡ true → f c ≡ h c) → leaf_sum g f ≡ leaf_sum g h
unfolding leaf_sum
leaf_same g f h e = sum_below_same (suc g.shape.max) _ _ (λ l p. level_same g.shape l _ _ (λ c lv i. elim (cases_Bool (is_leaf g c)) [
  | inl t ↦ on_leaf g f c t ∙ e c i t ∙ sym (on_leaf g h c t)
  | inr n ↦ off_leaf g f c n ∙ sym (off_leaf g h c n)
]))

pub leaf_sub : (g : Grid) (f h : CellAt → ℤ) → leaf_sum g (λ c. f c -ℤ h c) ≡ leaf_sum g f -ℤ leaf_sum g h
unfolding leaf_sum
leaf_sub g f h = sum_below_same (suc g.shape.max) _ _ (λ l p.
    level_same g.shape l (on_cells g (λ d. f d -ℤ h d)) (λ c. on_cells g f c -ℤ on_cells g h c) (λ c lv i. elim (cases_Bool (is_leaf g c)) [
      | inl t ↦ on_leaf g (λ d. f d -ℤ h d) c t ∙ sym (ap₂ (λ a b. a -ℤ b) (on_leaf g f c t) (on_leaf g h c t))
      | inr n ↦ off_leaf g (λ d. f d -ℤ h d) c n ∙ sym (ap₂ (λ a b. a -ℤ b) (off_leaf g f c n) (off_leaf g h c n))
    ])
    ∙ level_sub g.shape l (on_cells g f) (on_cells g h))
    ∙ sum_below_sub (suc g.shape.max) _ _

pub leaf_add : (g : Grid) (f h : CellAt → ℤ) → leaf_sum g (λ c. f c +ℤ h c) ≡ leaf_sum g f +ℤ leaf_sum g h
unfolding leaf_sum
leaf_add g f h = sum_below_same (suc g.shape.max) _ _ (λ l p.
    level_same g.shape l (on_cells g (λ d. f d +ℤ h d)) (λ c. on_cells g f c +ℤ on_cells g h c) (λ c lv i. elim (cases_Bool (is_leaf g c)) [
      | inl t ↦ on_leaf g (λ d. f d +ℤ h d) c t ∙ sym (ap₂ (λ a b. a +ℤ b) (on_leaf g f c t) (on_leaf g h c t))
      | inr n ↦ off_leaf g (λ d. f d +ℤ h d) c n ∙ sym (ap₂ (λ a b. a +ℤ b) (off_leaf g f c n) (off_leaf g h c n))
    ])
    ∙ level_add g.shape l (on_cells g f) (on_cells g h))
    ∙ sum_below_add (suc g.shape.max) _ _

-- what is 0 off the leaf cells sums the same
pub leaf_twice : (g : Grid) (f : CellAt → ℤ) → leaf_sum g (on_cells g f) ≡ leaf_sum g f
leaf_twice g f = leaf_same g _ _ (λ c i t. on_leaf g f c t)

-- a field on the split cells, and 0 elsewhere
on_split : Grid → (CellAt → ℤ) → CellAt → ℤ
on_split g f c = if is_split g c then f c else pos 0

module _ (g : Grid) (f : CellAt → ℤ) where
  at_split : (c : CellAt) → is_split g c ≡ true → on_split g f c ≡ f c
  unfolding on_split
  at_split c h = rw h refl

  off_split : (c : CellAt) → is_split g c ≡ false → on_split g f c ≡ pos 0
  unfolding on_split
  off_split c h = rw h refl

  add_zero : (n : ℤ) → n +ℤ pos 0 ≡ n
  add_zero n = omega (arith, ints)

  zero_add : (n : ℤ) → pos 0 +ℤ n ≡ n
  zero_add n = omega (arith, ints)

  module _ (kinds : Kinds g) (adds : (c : CellAt) → f c ≡ sum_below 8 (λ q. f (sub_cell c q))) where
    -- a sub-cell of a split cell is a leaf or split, one of both
    below : (c : CellAt) (q : ℕ) → is_split g c ≡ true → on_cells g f (sub_cell c q) +ℤ on_split g f (sub_cell c q) ≡ f (sub_cell c q)
    below c q s = elim (cases_Bool (is_split g (sub_cell c q))) [
      | inl t ↦ ap₂ (λ a b. a +ℤ b) (off_leaf g f (sub_cell c q) (kinds.one (sub_cell c q) t)) (at_split (sub_cell c q) t) ∙ zero_add _
      | inr n ↦ ap₂ (λ a b. a +ℤ b) (on_leaf g f (sub_cell c q) (kinds.tree.below_split c q s n)) (off_split (sub_cell c q) n) ∙ add_zero _
    ]

    -- of another cell it is neither
    below_other : (c : CellAt) (q : ℕ) → is_split g c ≡ false → on_cells g f (sub_cell c q) +ℤ on_split g f (sub_cell c q) ≡ pos 0
    below_other c q n = ap₂ (λ a b. a +ℤ b) (off_leaf g f (sub_cell c q) (kinds.tree.below_whole_leaf c q n)) (off_split (sub_cell c q) (kinds.tree.below_whole c q n))

    divided : (c : CellAt) → sum_below 8 (λ q. on_cells g f (sub_cell c q) +ℤ on_split g f (sub_cell c q)) ≡ on_split g f c
    divided c = elim (cases_Bool (is_split g c)) [
      | inl s ↦ sum_below_same 8 _ _ (λ q p. below c q s) ∙ sym (at_split c s ∙ adds c)
      | inr n ↦ sum_below_zero 8 _ (λ q p. below_other c q n) ∙ sym (off_split c n)
    ]

    step : (l : ℕ) → level_sum g.shape l (on_split g f) ≡ level_sum g.shape (suc l) (on_cells g f) +ℤ level_sum g.shape (suc l) (on_split g f)
    step l =
        sym (sym (level_add g.shape (suc l) (on_cells g f) (on_split g f))
        ∙ level_down g.shape l (λ c. on_cells g f c +ℤ on_split g f c)
        ∙ level_same g.shape l _ _ (λ c lv i. divided c))

    at_root : (c : CellAt) → c.level ≡ 0 → Inside g.shape c → f c ≡ on_cells g f c +ℤ on_split g f c
    at_root c l i = elim (cases_Bool (is_split g c)) [
      | inl t ↦ sym (ap₂ (λ a b. a +ℤ b) (off_leaf g f c (kinds.one c t)) (at_split c t) ∙ zero_add _)
      | inr n ↦ sym (ap₂ (λ a b. a +ℤ b) (on_leaf g f c (kinds.root c l i n)) (off_split c n) ∙ add_zero _)
    ]

    so_far : (l : ℕ) → level_sum g.shape 0 f ≡ sum_below (suc l) (λ k. level_sum g.shape k (on_cells g f)) +ℤ level_sum g.shape l (on_split g f)
    so_far zero =
        level_same g.shape 0 _ _ at_root ∙ level_add g.shape 0 (on_cells g f) (on_split g f)
        ∙ ap (λ a. a +ℤ level_sum g.shape 0 (on_split g f)) (sym (zero_add _))
    so_far (suc l) =
        let here = so_far l in
        let next = step l in
        omega (arith, ints, here, next)

    none : level_sum g.shape g.shape.max (on_split g f) ≡ pos 0
    none = level_zero g.shape g.shape.max (on_split g f) (λ c lv i. elim (cases_Bool (is_split g c)) [
      | inl t ↦ let lt = kinds.top c t in absurd (omega arith)
      | inr n ↦ off_split c n
    ])

    pub leaf_sum_is : leaf_sum g f ≡ level_sum g.shape 0 f
    unfolding leaf_sum
    leaf_sum_is = sym (so_far g.shape.max ∙ ap (λ a. leaf_sum g f +ℤ a) none ∙ add_zero _)
