-- Rows of an octant of a block's array, and the finer numbers that are summed into them.
use Rattle.std.proofs.Common.{◌≡◌, ℕ, ◌+◌, ◌*◌, ◌/◌, ◌%◌, ◌<◌, ◌≤◌, ◌⊎◌, List, ℤ, refl, sym, ap, ◌∙◌, arith, inl, inr, length, subst}
use Rattle.std.specs.Prelude.{slice_index}
use Rattle.std.proofs.Math.Nat.{mul-add}
use Rattle.amr_num.specs.declared.Axis.TheVariants.{X, Y, Z}
use Rattle.amr_num.specs.Numbers.{at, sum_below}
use Rattle.amr_num.proofs.Parts.{sum_below_same}
use Rattle.mesh_model.specs.declared.fields.values.Var.{Var}
use Rattle.mesh_model.specs.declared.fields.values.Var.TheVariants.{Cell, Face, Edge, CellWork, FaceWork, EdgeWork}
use Rattle.mesh_model.specs.Fields.ArrayPlaces.{Extents, Fits, IsSize, extents_of, number_at, place_in, side, size_of}
use Rattle.mesh_model.specs.Fields.FinePlaces.{array_octant, fine_count, fine_step, fine_sum, fine_summed, half_extents}
use Rattle.mesh_model.specs.Fields.Octants.{half_at}
use Rattle.mesh_model.proofs.GeometryLemmas.Halves.{by_size}
use Rattle.mesh_model.proofs.FieldLemmas.BlockPlaces.{along_row, place_inside}

-- ---- one axis

-- on an axis numbers stand at cells, of which two are summed, or at positions, of which there is one more
abbrev pub Lines : ℕ → ℕ → ℕ → ℕ → ℕ → Type 0
Lines n g along step many = ((along ≡ n / 2) × (step < 2) × (many ≡ side n g)) ⊎ ((along ≡ n / 2 + 1) × (step ≡ 0) × (many ≡ side n g + 1))

-- the half r begins and ends within the array
line_fits : (n g along step many r : ℕ) → IsSize n g → Lines n g along step many → g + half_at n r + along ≤ many
line_fits n g along step many r size lines =
    let half : n / 2 * (r % 2) + n / 2 ≤ n = by_size (λ m. m / 2 * (r % 2) + m / 2 ≤ m) n size.cells (omega arith) (omega arith) in
    elim lines [ inl cells ↦ (let a = cells.0 in let b = cells.2 in omega arith) | inr positions ↦ (let a = positions.0 in let b = positions.2 in omega arith) ]

-- and so does the finer number that is summed
line_inside : (n g along step many t : ℕ) → IsSize n g → Lines n g along step many → t < along → g + 2 * t + step < many
line_inside n g along step many t size lines within =
    let even : 2 * (n / 2) ≡ n = by_size (λ m. 2 * (m / 2) ≡ m) n size.cells (omega arith) (omega arith) in
    elim lines [ inl cells ↦ (let a = cells.0 in let s = cells.1 in let b = cells.2 in omega arith) | inr positions ↦ (let a = positions.0 in let s = positions.1 in let b = positions.2 in omega arith) ]

line_small : (n g along step many : ℕ) → IsSize n g → Lines n g along step many → (2 ≤ many) × (many ≤ 17) × (0 < along) × (along ≤ 5)
line_small n g along step many size lines =
    let four : (4 ≤ n) × (n ≤ 8) × (n / 2 ≤ 4) × (2 ≤ n / 2) = by_size (λ m. (4 ≤ m) × (m ≤ 8) × (m / 2 ≤ 4) × (2 ≤ m / 2)) n size.cells (omega arith, omega arith, omega arith, omega arith) (omega arith, omega arith, omega arith, omega arith) in
    let guards : g ≤ 4 = elim size.guards [ inl one ↦ omega arith | inr more ↦ elim more [ inl two ↦ omega arith | inr all ↦ omega arith ] ] in
    let a = four.0 in
    let b = four.1 in
    let c = four.2 in
    let d = four.3 in
    elim lines [
      | inl cells ↦ (let p = cells.0 in let q = cells.2 in (omega arith, omega arith, omega arith, omega arith))
      | inr positions ↦ (let p = positions.0 in let q = positions.2 in (omega arith, omega arith, omega arith, omega arith))
    ]

-- ---- three axes

pub record FineLines (n g : ℕ) (var : Var) (q : ℕ) : Type 0 where
  pub x : Lines n g (half_extents (n / 2) var).x (fine_step var q).x (extents_of n g var).x
  pub y : Lines n g (half_extents (n / 2) var).y (fine_step var q).y (extents_of n g var).y
  pub z : Lines n g (half_extents (n / 2) var).z (fine_step var q).z (extents_of n g var).z

at_cells : (n g step : ℕ) → step < 2 → Lines n g (n / 2) step (side n g)
at_cells n g step less = inl (refl, less, refl)

at_positions : (n g : ℕ) → Lines n g (n / 2 + 1) 0 (side n g + 1)
at_positions n g = inr (refl, refl, refl)

cell_lines : (n g q : ℕ) → (Lines n g (n / 2) (q % 2) (side n g)) × (Lines n g (n / 2) (q / 2 % 2) (side n g)) × (Lines n g (n / 2) (q / 4 % 2) (side n g))
cell_lines n g q = (at_cells n g (q % 2) (omega arith), at_cells n g (q / 2 % 2) (omega arith), at_cells n g (q / 4 % 2) (omega arith))

pub fine_lines : (n g : ℕ) (var : Var) (q : ℕ) → FineLines n g var q
fine_lines n g (Cell v) q = let l = cell_lines n g q in record { x = l.0; y = l.1; z = l.2 }
fine_lines n g CellWork q = let l = cell_lines n g q in record { x = l.0; y = l.1; z = l.2 }
fine_lines n g (Face X) q = record { x = at_positions n g; y = at_cells n g (q % 2) (omega arith); z = at_cells n g (q / 2 % 2) (omega arith) }
fine_lines n g (Face Y) q = record { x = at_cells n g (q % 2) (omega arith); y = at_positions n g; z = at_cells n g (q / 2 % 2) (omega arith) }
fine_lines n g (Face Z) q = record { x = at_cells n g (q % 2) (omega arith); y = at_cells n g (q / 2 % 2) (omega arith); z = at_positions n g }
fine_lines n g (FaceWork X) q = record { x = at_positions n g; y = at_cells n g (q % 2) (omega arith); z = at_cells n g (q / 2 % 2) (omega arith) }
fine_lines n g (FaceWork Y) q = record { x = at_cells n g (q % 2) (omega arith); y = at_positions n g; z = at_cells n g (q / 2 % 2) (omega arith) }
fine_lines n g (FaceWork Z) q = record { x = at_cells n g (q % 2) (omega arith); y = at_cells n g (q / 2 % 2) (omega arith); z = at_positions n g }
fine_lines n g (Edge X) q = record { x = at_cells n g (q % 2) (omega arith); y = at_positions n g; z = at_positions n g }
fine_lines n g (Edge Y) q = record { x = at_positions n g; y = at_cells n g (q % 2) (omega arith); z = at_positions n g }
fine_lines n g (Edge Z) q = record { x = at_positions n g; y = at_positions n g; z = at_cells n g (q % 2) (omega arith) }
fine_lines n g (EdgeWork X) q = record { x = at_cells n g (q % 2) (omega arith); y = at_positions n g; z = at_positions n g }
fine_lines n g (EdgeWork Y) q = record { x = at_positions n g; y = at_cells n g (q % 2) (omega arith); z = at_positions n g }
fine_lines n g (EdgeWork Z) q = record { x = at_positions n g; y = at_positions n g; z = at_cells n g (q % 2) (omega arith) }

module _ (n g : ℕ) (size : IsSize n g) (var : Var) where
  pub array_octant_fits : (q : ℕ) → Fits (extents_of n g var) (array_octant n g var q)
  array_octant_fits q =
      let l = fine_lines n g var q in
      record { x = line_fits n g _ _ _ q size l.x; y = line_fits n g _ _ _ (q / 2) size l.y; z = line_fits n g _ _ _ (q / 4) size l.z }

  pub extents_small : let e = extents_of n g var in (2 ≤ e.x) × (e.x ≤ 17) × (2 ≤ e.y) × (e.y ≤ 17) × (2 ≤ e.z) × (e.z ≤ 17)
  extents_small =
      let l = fine_lines n g var 0 in
      let x = line_small n g _ _ _ size l.x in
      let y = line_small n g _ _ _ size l.y in
      let z = line_small n g _ _ _ size l.z in
      (x.0, x.1, y.0, y.1, z.0, z.1)

  pub halves_small : let h = half_extents (n / 2) var in (0 < h.x) × (h.x ≤ 5) × (0 < h.y) × (h.y ≤ 5) × (0 < h.z) × (h.z ≤ 5)
  halves_small =
      let l = fine_lines n g var 0 in
      let x = line_small n g _ _ _ size l.x in
      let y = line_small n g _ _ _ size l.y in
      let z = line_small n g _ _ _ size l.z in
      (x.2, x.3, y.2, y.3, z.2, z.3)

  -- the finer number q of the place (t, j, k) of an octant stands within the child's array
  pub fine_inside : (t j k q : ℕ) → let h = half_extents (n / 2) var in t < h.x → j < h.y → k < h.z →
      let e = extents_of n g var in let s = fine_step var q in (g + 2 * t + s.x < e.x) × (g + 2 * j + s.y < e.y) × (g + 2 * k + s.z < e.z)
  fine_inside t j k q ht hj hk =
      let l = fine_lines n g var q in
      (line_inside n g _ _ _ t size l.x ht, line_inside n g _ _ _ j size l.y hj, line_inside n g _ _ _ k size l.z hk)

-- ---- places one after the other

-- a place further on stands as far on in the list
pub place_on : (e : Extents) (i j k x y z : ℕ) → place_in e (i + x) (j + y) (k + z) ≡ place_in e i j k + place_in e x y z
unfolding place_in
place_on e i j k x y z =
    let deep : e.y * (k + z) ≡ e.y * k + e.y * z = mul-add e.y k z in
    let line : j + y + e.y * (k + z) ≡ j + e.y * k + (y + e.y * z) = omega (arith, deep) in
    let whole : e.x * (j + y + e.y * (k + z)) ≡ e.x * (j + e.y * k) + e.x * (y + e.y * z) = ap (λ m. e.x * m) line ∙ mul-add e.x (j + e.y * k) (y + e.y * z) in
    omega (arith, whole)

pub place_twice : (e : Extents) (g t y z u v w : ℕ) → place_in e g y z + 2 * t + place_in e u v w ≡ place_in e (g + 2 * t + u) (y + v) (z + w)
place_twice e g t y z u v w =
    let on = place_on e (g + 2 * t) y z u v w in
    let start : place_in e (g + 2 * t) y z ≡ place_in e g y z + 2 * t = along_row e g (2 * t) y z in
    ap (λ p. p + place_in e u v w) (sym start) ∙ sym on

-- ---- sums of a row

module _ (n g : ℕ) (size : IsSize n g) (var : Var) (steps : List ℕ) (count : length steps ≡ fine_count var)
    (are : (q : ℕ) → q < length steps → let s = fine_step var q in slice_index steps q ≡ place_in (extents_of n g var) s.x s.y s.z) (t j k : ℕ) where
  step_place : (q : ℕ) → q < length steps → let e = extents_of n g var in let s = fine_step var q in
      place_in e g (g + 2 * j) (g + 2 * k) + 2 * t + slice_index steps q ≡ place_in e (g + 2 * t + s.x) (g + 2 * j + s.y) (g + 2 * k + s.z)
  step_place q h =
      let e = extents_of n g var in
      let s = fine_step var q in
      ap (λ p. place_in e g (g + 2 * j) (g + 2 * k) + 2 * t + p) (are q h) ∙ place_twice e g t (g + 2 * j) (g + 2 * k) s.x s.y s.z

  pub step_inside : let h = half_extents (n / 2) var in t < h.x → j < h.y → k < h.z → (q : ℕ) → q < length steps →
      place_in (extents_of n g var) g (g + 2 * j) (g + 2 * k) + 2 * t + slice_index steps q < size_of (extents_of n g var)
  step_inside ht hj hk q h =
      let e = extents_of n g var in
      let s = fine_step var q in
      let inside = fine_inside n g size var t j k q ht hj hk in
      subst (λ p. p < size_of e) (sym (step_place q h)) (place_inside e (g + 2 * t + s.x) (g + 2 * j + s.y) (g + 2 * k + s.z) inside.0 inside.1 inside.2)

  -- they are the sums of the finer numbers there
  pub steps_sum : (child : List ℤ) →
      sum_below (length steps) (λ q. at child (place_in (extents_of n g var) g (g + 2 * j) (g + 2 * k) + 2 * t + slice_index steps q))
      ≡ fine_summed g var (number_at (extents_of n g var) child) t j k
  unfolding fine_sum
  steps_sum child =
      let e = extents_of n g var in
      sum_below_same (length steps) _ (λ q. (let s = fine_step var q in number_at e child (g + 2 * t + s.x) (g + 2 * j + s.y) (g + 2 * k + s.z)))
      (λ q h. ap (at child) (step_place q h))
      ∙ ap (λ m. sum_below m (λ q. (let s = fine_step var q in number_at e child (g + 2 * t + s.x) (g + 2 * j + s.y) (g + 2 * k + s.z)))) count
