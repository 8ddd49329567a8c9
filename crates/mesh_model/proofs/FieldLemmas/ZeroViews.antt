-- A field that is 0 everywhere has views of 0.
use Rattle.std.proofs.Common.{◌≡◌, ℕ, zero, suc, ◌+◌, ◌*◌, ◌%◌, ◌-◌, ◌||◌, ℤ, pos, ◌+ℤ◌, refl, ap, ap₂, ◌∙◌, arith, inl, inr, List, [], ◌∷◌, map, length}
use Rattle.std.specs.Prelude.{nat_lt, if◌then◌else◌}
use Rattle.std.proofs.Math.Nat.{zero-div}
use Rattle.std.proofs.lemmas.Bool.{cases_Bool, le-ltb}
use Rattle.amr_num.specs.declared.Axis.{Axis}
use Rattle.amr_num.specs.declared.Axis.TheVariants.{X, Y, Z}
use Rattle.amr_num.specs.declared.CellAt.{CellAt}
use Rattle.amr_num.specs.declared.FaceAt.{FaceAt}
use Rattle.amr_num.specs.declared.EdgeAt.{EdgeAt}
use Rattle.amr_num.specs.Numbers.{part, spread, floor_div, floor_mod}
use Rattle.mesh_model.specs.Geometry.Coordinates.{sub_cell, parent_cell, octant_of, sub_face, parent_face, half_edge, parent_edge, on, face_numbers, edge_of}
use Rattle.mesh_model.specs.Tree.Kinds.{Grid, is_leaf, is_split, is_leaf_face, is_split_face, is_leaf_edge, is_split_edge}
use Rattle.mesh_model.specs.Fields.InnerRule.{Outer, middle_x, x_at, middle_y, y_at, middle_z}
use Rattle.mesh_model.specs.Fields.Views.{sum_down, view_at, cell_view, quarter_of, sides_of, inner_face, is_even, face_down, outer_face_view, face_view_at, face_view, half_of, even_round, sum_of, edge_down, outer_edge_view, is_even_edge, edge_view_at, edge_view}
use Rattle.mesh_model.proofs.FieldLemmas.Sums.{sum_below_zero}

abbrev none : {A : Type 0} → A → ℤ
none a = pos 0

part_zero : (q k : ℕ) → part q (pos 0) (suc k) ≡ pos 0
unfolding part
part_zero q k =
    let whole : floor_div (pos 0) (suc k) ≡ pos 0 = ap pos (zero-div (suc k)) in
    let rest : floor_mod (pos 0) (suc k) ≡ 0 = omega arith in
    let extra : (if nat_lt q (floor_mod (pos 0) (suc k)) then pos 1 else pos 0) ≡ pos 0 = rw (le-ltb q (floor_mod (pos 0) (suc k)) (omega arith)) refl in
    ap₂ (λ a b. a +ℤ b) whole extra

module _ (g : Grid) where
  -- ---- cells

  down_cell : (d : ℕ) (c : CellAt) → sum_down g none d c ≡ pos 0
  unfolding sum_down
  down_cell zero c = refl
  down_cell (suc d) c = elim (cases_Bool (is_split g c)) [
    | inl t ↦ rw (t, sum_down) (sum_below_zero 8 _ (λ q p. down_cell d (sub_cell c q)))
    | inr f ↦ rw (f, sum_down) refl
  ]

  cell_at : (l : ℕ) (c : CellAt) → view_at g none l c ≡ pos 0
  unfolding view_at
  cell_at zero c = elim (cases_Bool (is_split g c)) [
    | inl t ↦ rw (t, view_at) (down_cell (10 - c.level) c)
    | inr f ↦ rw (f, view_at) refl
  ]
  cell_at (suc l) c = elim (cases_Bool (is_split g c)) [
    | inl t ↦ rw (t, view_at) (down_cell (10 - c.level) c)
    | inr n ↦ elim (cases_Bool (is_leaf g c)) [
      | inl t ↦ rw (n, view_at) (rw t refl)
      | inr f ↦ rw (n, view_at) (rw f (ap (λ u. part (octant_of c) u 8) (cell_at l (parent_cell c)) ∙ part_zero (octant_of c) 7))
    ]
  ]

  pub no_cell_views : (content : CellAt → ℤ) → ((c : CellAt) → content c ≡ pos 0) → (c : CellAt) → cell_view g content c ≡ pos 0
  no_cell_views content h c = ap (λ (f : CellAt → ℤ). cell_view g f c) (λ i d. h d i) ∙ cell_at c.level c

  -- ---- faces

  down_face : (d : ℕ) (f : FaceAt) → face_down g none d f ≡ pos 0
  unfolding face_down
  down_face zero f = refl
  down_face (suc d) f = elim (cases_Bool (is_split_face g f)) [
    | inl t ↦ rw (t, face_down) (sum_below_zero 4 _ (λ q p. down_face d (sub_face f q)))
    | inr n ↦ rw (n, face_down) refl
  ]

  side_zero : (above : FaceAt → ℤ) → ((f : FaceAt) → above f ≡ pos 0) → (f : FaceAt) → outer_face_view g none above f ≡ pos 0
  unfolding outer_face_view
  side_zero above h f = elim (cases_Bool (is_split_face g f)) [
    | inl t ↦ rw (t, outer_face_view) (down_face (10 - f.level) f)
    | inr n ↦ elim (cases_Bool (is_leaf_face g f)) [
      | inl t ↦ rw (n, outer_face_view) (rw t refl)
      | inr o ↦ rw (n, outer_face_view) (rw o (ap (λ u. part (quarter_of f) u 4) (h (parent_face f)) ∙ part_zero (quarter_of f) 3))
    ]
  ]

-- ---- the inner rule

calm : Outer
calm = record { x_low = none; x_high = none; y_low = none; y_high = none; z_low = none; z_high = none }

x_zero : (q : ℕ) → middle_x calm q ≡ pos 0
unfolding middle_x spread calm
x_zero q = ap (λ u. pos 0 +ℤ u) (part_zero q 3)

x_at_zero : (i q : ℕ) → x_at calm i q ≡ pos 0
unfolding calm
x_at_zero zero q = refl
x_at_zero (suc zero) q = x_zero q
x_at_zero (suc (suc i)) q = refl

y_zero : (i k : ℕ) → middle_y calm i k ≡ pos 0
unfolding middle_y spread calm
y_zero i k = rw (x_at_zero (suc i) 0, x_at_zero (suc i) 2, x_at_zero i 0, x_at_zero i 2) (ap (λ u. pos 0 +ℤ u) (part_zero k 1))

y_at_zero : (j i k : ℕ) → y_at calm j i k ≡ pos 0
unfolding calm
y_at_zero zero i k = refl
y_at_zero (suc zero) i k = y_zero i k
y_at_zero (suc (suc j)) i k = refl

z_zero : (i j : ℕ) → middle_z calm i j ≡ pos 0
unfolding middle_z calm
z_zero i j = rw (x_at_zero (suc i) j, x_at_zero i j, y_at_zero (suc j) i 0, y_at_zero j i 0) refl

inner_zero : (a : Axis) (i j k : ℕ) → inner_face calm a i j k ≡ pos 0
inner_zero X i j k = x_zero (j + 2 * k)
inner_zero Y i j k = y_zero i k
inner_zero Z i j k = z_zero i j

module _ (g : Grid) where
  sides_calm : (at : FaceAt → ℤ) → ((f : FaceAt) → at f ≡ pos 0) → (c : CellAt) → sides_of g at c ≡ calm
  unfolding calm
  sides_calm at h c = ap (λ (f : FaceAt → ℤ). sides_of g f c) (λ i f. h f i)

  face_at : (l : ℕ) (f : FaceAt) → face_view_at g none l f ≡ pos 0
  unfolding face_view_at
  face_at zero f = elim (cases_Bool (is_split_face g f)) [
    | inl t ↦ rw (t, face_view_at) (down_face g (10 - f.level) f)
    | inr n ↦ rw (n, face_view_at) refl
  ]
  face_at (suc l) f = elim (cases_Bool (is_split_face g f || is_leaf_face g f || is_even (on f.axis (face_numbers f)))) [
    | inl t ↦ rw (t, face_view_at) (side_zero g (face_view_at g none l) (face_at l) f)
    | inr n ↦ rw (n, face_view_at) (ap (λ o. inner_face o f.axis (f.x % 2) (f.y % 2) (f.z % 2)) (sides_calm (outer_face_view g none (face_view_at g none l)) (side_zero g (face_view_at g none l) (face_at l)) (face_numbers (parent_face f))) ∙ inner_zero f.axis (f.x % 2) (f.y % 2) (f.z % 2))
  ]

  pub no_face_views : (number : FaceAt → ℤ) → ((f : FaceAt) → number f ≡ pos 0) → (f : FaceAt) → face_view g number f ≡ pos 0
  no_face_views number h f = ap (λ (u : FaceAt → ℤ). face_view g u f) (λ i d. h d i) ∙ face_at f.level f

  -- ---- edges

  down_edge : (d : ℕ) (e : EdgeAt) → edge_down g none d e ≡ pos 0
  unfolding edge_down
  down_edge zero e = refl
  down_edge (suc d) e = elim (cases_Bool (is_split_edge g e)) [
    | inl t ↦ rw (t, edge_down) (sum_below_zero 2 _ (λ h p. down_edge d (half_edge e h)))
    | inr n ↦ rw (n, edge_down) refl
  ]

  rim_zero : (above : EdgeAt → ℤ) → ((e : EdgeAt) → above e ≡ pos 0) → (e : EdgeAt) → outer_edge_view g none above e ≡ pos 0
  unfolding outer_edge_view
  rim_zero above h e = elim (cases_Bool (is_split_edge g e)) [
    | inl t ↦ rw (t, outer_edge_view) (down_edge (10 - e.level) e)
    | inr n ↦ elim (cases_Bool (is_leaf_edge g e)) [
      | inl t ↦ rw (n, outer_edge_view) (rw t refl)
      | inr o ↦ rw (n, outer_edge_view) (rw o (ap (λ u. part (half_of e) u 2) (h (parent_edge e)) ∙ part_zero (half_of e) 1))
    ]
  ]

  zeros : (cs : List CellAt) (f : CellAt → ℤ) → ((c : CellAt) → f c ≡ pos 0) → sum_of (map f cs) ≡ pos 0
  zeros [] f h = refl
  zeros (c ∷ cs) f h = ap₂ (λ a b. a +ℤ b) (h c) (zeros cs f h)

  edge_at : (l : ℕ) (e : EdgeAt) → edge_view_at g none l e ≡ pos 0
  unfolding edge_view_at
  edge_at zero e = elim (cases_Bool (is_split_edge g e)) [
    | inl t ↦ rw (t, edge_view_at) (down_edge (10 - e.level) e)
    | inr n ↦ rw (n, edge_view_at) refl
  ]
  edge_at (suc l) e = elim (cases_Bool (is_split_edge g e || is_leaf_edge g e || is_even_edge e)) [
    | inl t ↦ rw (t, edge_view_at) (rim_zero (edge_view_at g none l) (edge_at l) e)
    | inr n ↦ rw (n, edge_view_at) (ap (λ s. floor_div s (length (even_round g e))) (zeros (even_round g e) (λ c. outer_edge_view g none (edge_view_at g none l) (edge_of e.axis c)) (λ c. rim_zero (edge_view_at g none l) (edge_at l) (edge_of e.axis c))) ∙ ap pos (zero-div (length (even_round g e))))
  ]

  pub no_edge_views : (number : EdgeAt → ℤ) → ((e : EdgeAt) → number e ≡ pos 0) → (e : EdgeAt) → edge_view g number e ≡ pos 0
  no_edge_views number h e = ap (λ (u : EdgeAt → ℤ). edge_view g u e) (λ i d. h d i) ∙ edge_at e.level e
