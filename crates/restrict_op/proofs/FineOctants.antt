-- Octants of a block's array that hold views, where each view is the sum of the finer ones: on cells, faces and edges alike.
use Rattle.std.proofs.Common.{◌≡◌, ℕ, suc, ◌+◌, ◌-◌, ◌*◌, ◌/◌, ◌%◌, ◌<◌, ◌≤◌, ◌⊎◌, Bool, true, false, List, ℤ, refl, sym, ap, ap₂, ◌∙◌, arith, inl, inr}
use Rattle.std.proofs.lemmas.Bool.{cases_lt}
use Rattle.std.proofs.lemmas.Bool.Decides.{nat_tests}
use Rattle.amr_num.specs.declared.Axis.{Axis}
use Rattle.amr_num.specs.declared.Axis.TheVariants.{X, Y, Z}
use Rattle.amr_num.specs.declared.BlockAt.{BlockAt}
use Rattle.amr_num.specs.declared.CellAt.{CellAt}
use Rattle.amr_num.specs.Numbers.{sum_below}
use Rattle.amr_num.proofs.Parts.{sum_below_same}
use Rattle.mesh_model.specs.declared.fields.values.Var.{Var}
use Rattle.mesh_model.specs.declared.fields.values.Var.TheVariants.{Cell, Face, Edge, CellWork, FaceWork, EdgeWork}
use Rattle.mesh_model.specs.declared.geometry.Shape.{Shape}
use Rattle.mesh_model.specs.Geometry.Blocks.{child_block}
use Rattle.mesh_model.specs.Geometry.Coordinates.{extent, is_periodic, wrapped}
use Rattle.mesh_model.specs.Geometry.Places.{in_block}
use Rattle.mesh_model.specs.Fields.ArrayPlaces.{Box, IsInBox, extents_of, number_at}
use Rattle.mesh_model.specs.Fields.FinePlaces.{IsSummed, array_octant, fine_count, fine_step, fine_sum, fine_summed, half_extents}
use Rattle.mesh_model.specs.Fields.Octants.{half_at}
use Rattle.mesh_model.proofs.FieldLemmas.Slots.{extent_double}
use Rattle.mesh_model.proofs.GeometryLemmas.Halves.{by_size, two_halves}

-- ---- names

-- a position of twice as many, wrapped
pub wrapped_twice : (b : Bool) (e p : ℕ) → wrapped b (2 * e) (2 * p) ≡ 2 * wrapped b e p
unfolding wrapped
wrapped_twice false e p = refl
wrapped_twice true e p = grind (arith, nat_tests)

pub wrapped_fine : (s : Shape) (a : Axis) (l p : ℕ) → wrapped (is_periodic s a) (extent s a (suc l)) (2 * p + 0) ≡ 2 * wrapped (is_periodic s a) (extent s a l) p + 0
wrapped_fine s a l p =
    let at : 2 * p + 0 ≡ 2 * p = omega arith in
    let more : 2 * wrapped (is_periodic s a) (extent s a l) p ≡ 2 * wrapped (is_periodic s a) (extent s a l) p + 0 = omega arith in
    ap₂ (wrapped (is_periodic s a)) (extent_double s a l) at ∙ wrapped_twice (is_periodic s a) (extent s a l) p ∙ more

-- coordinates of the level below, so many steps beyond the first there
abbrev pub finer : CellAt → CellAt → CellAt
finer c d = record { level = suc c.level; x = 2 * c.x + d.x; y = 2 * c.y + d.y; z = 2 * c.z + d.z }

-- a coordinate of a child, by the parent's of which it is a part
coordinate : (n x r i d : ℕ) → (n ≡ 4) ⊎ (n ≡ 8) → n * (2 * x + r % 2) + (2 * i + d) ≡ 2 * (n * x + (half_at n r + i)) + d
coordinate n x r i d size = let two = two_halves n (r % 2) size in omega arith

-- what stands in a child is a part of what stands in its parent
finer_in_child : (n : ℕ) (b : BlockAt) (q i j k : ℕ) (d : CellAt) → (n ≡ 4) ⊎ (n ≡ 8) →
    in_block n (child_block b q) (2 * i + d.x) (2 * j + d.y) (2 * k + d.z) ≡ finer (in_block n b (half_at n q + i) (half_at n (q / 2) + j) (half_at n (q / 4) + k)) d
finer_in_child n b q i j k d size =
    let x = coordinate n b.x q i d.x size in
    let y = coordinate n b.y (q / 2) j d.y size in
    let z = coordinate n b.z (q / 4) k d.z size in
    λ t. record { level = suc b.level; x = x t; y = y t; z = z t }

-- ---- places on one axis

-- on an axis numbers stand at cells, or at positions, of which there is one more
abbrev pub Along : ℕ → ℕ → ℕ → Type 0
Along n half many = ((half ≡ n / 2) × (many ≡ n)) ⊎ ((half ≡ n / 2 + 1) × (many ≡ n + 1))

-- on all axes, in halves of a block of n cells
pub record VarAlong (n : ℕ) (var : Var) : Type 0 where
  pub x : Along n (half_extents (n / 2) var).x (half_extents n var).x
  pub y : Along n (half_extents (n / 2) var).y (half_extents n var).y
  pub z : Along n (half_extents (n / 2) var).z (half_extents n var).z

pub var_along : (n : ℕ) (var : Var) → VarAlong n var
var_along n (Cell v) = record { x = inl (refl, refl); y = inl (refl, refl); z = inl (refl, refl) }
var_along n CellWork = record { x = inl (refl, refl); y = inl (refl, refl); z = inl (refl, refl) }
var_along n (Face X) = record { x = inr (refl, refl); y = inl (refl, refl); z = inl (refl, refl) }
var_along n (Face Y) = record { x = inl (refl, refl); y = inr (refl, refl); z = inl (refl, refl) }
var_along n (Face Z) = record { x = inl (refl, refl); y = inl (refl, refl); z = inr (refl, refl) }
var_along n (FaceWork X) = record { x = inr (refl, refl); y = inl (refl, refl); z = inl (refl, refl) }
var_along n (FaceWork Y) = record { x = inl (refl, refl); y = inr (refl, refl); z = inl (refl, refl) }
var_along n (FaceWork Z) = record { x = inl (refl, refl); y = inl (refl, refl); z = inr (refl, refl) }
var_along n (Edge X) = record { x = inl (refl, refl); y = inr (refl, refl); z = inr (refl, refl) }
var_along n (Edge Y) = record { x = inr (refl, refl); y = inl (refl, refl); z = inr (refl, refl) }
var_along n (Edge Z) = record { x = inr (refl, refl); y = inr (refl, refl); z = inl (refl, refl) }
var_along n (EdgeWork X) = record { x = inl (refl, refl); y = inr (refl, refl); z = inr (refl, refl) }
var_along n (EdgeWork Y) = record { x = inr (refl, refl); y = inl (refl, refl); z = inr (refl, refl) }
var_along n (EdgeWork Z) = record { x = inr (refl, refl); y = inr (refl, refl); z = inl (refl, refl) }

-- the finer places of a half's place, where two are summed or one
fine_below : (n half many i d : ℕ) → (n ≡ 4) ⊎ (n ≡ 8) → Along n half many → d < 2 → (many ≡ n + 1 → d ≡ 0) → i < half → 2 * i + d < many
fine_below n half many i d size along less none h =
    let even : 2 * (n / 2) ≡ n = by_size (λ m. 2 * (m / 2) ≡ m) n size (omega arith) (omega arith) in
    elim along [
      | inl cells ↦ (let a = cells.0 in let b = cells.1 in omega arith)
      | inr positions ↦ (let a = positions.0 in let b = positions.1 in let zero = none b in omega arith)
    ]

-- a half's place lies in the block
pub whole_below : (n half many r i : ℕ) → (n ≡ 4) ⊎ (n ≡ 8) → Along n half many → i < half → half_at n r + i < many
whole_below n half many r i size along h =
    let room : n / 2 * (r % 2) + n / 2 ≤ n = by_size (λ m. m / 2 * (r % 2) + m / 2 ≤ m) n size (omega arith) (omega arith) in
    elim along [ inl cells ↦ (let a = cells.0 in let b = cells.1 in omega arith) | inr positions ↦ (let a = positions.0 in let b = positions.1 in omega arith) ]

-- each place lies in a half
record InHalf (n half i : ℕ) : Type 0 where
  bit : ℕ
  rest : ℕ
  low : bit < 2
  inside : rest < half
  is : n / 2 * bit + rest ≡ i

in_a_half : (n half many i : ℕ) → (n ≡ 4) ⊎ (n ≡ 8) → Along n half many → i < many → InHalf n half i
in_a_half n half many i size along h =
    let even : 2 * (n / 2) ≡ n = by_size (λ m. 2 * (m / 2) ≡ m) n size (omega arith) (omega arith) in
    elim (cases_lt i (n / 2)) [
      | inl first ↦ record {
        bit = 0;
        rest = i;
        low = omega arith;
        inside = elim along [ inl cells ↦ (let a = cells.0 in omega arith) | inr positions ↦ (let a = positions.0 in omega arith) ];
        is = omega arith;
      }
      | inr second ↦ record {
        bit = 1;
        rest = i - n / 2;
        low = omega arith;
        inside = elim along [ inl cells ↦ (let a = cells.0 in let b = cells.1 in omega arith) | inr positions ↦ (let a = positions.0 in let b = positions.1 in omega arith) ];
        is = omega arith;
      }
    ]

-- a place lies in a box or not
in_box_or : (b : Box) (x y z : ℕ) → IsInBox b x y z ⊎ (IsInBox b x y z → ⊥)
in_box_or b x y z = elim (cases_lt x b.x) [
  | inl low ↦ inr (λ is. (let l = is.x in absurd (omega arith)))
  | inr fx ↦ elim (cases_lt x (b.x + b.along_x)) [
    | inr high ↦ inr (λ is. (let l = is.x in absurd (omega arith)))
    | inl tx ↦ elim (cases_lt y b.y) [
      | inl low ↦ inr (λ is. (let l = is.y in absurd (omega arith)))
      | inr fy ↦ elim (cases_lt y (b.y + b.along_y)) [
        | inr high ↦ inr (λ is. (let l = is.y in absurd (omega arith)))
        | inl ty ↦ elim (cases_lt z b.z) [
          | inl low ↦ inr (λ is. (let l = is.z in absurd (omega arith)))
          | inr fz ↦ elim (cases_lt z (b.z + b.along_z)) [
            | inr high ↦ inr (λ is. (let l = is.z in absurd (omega arith)))
            | inl tz ↦ inl (record { x = (fx, tx); y = (fy, ty); z = (fz, tz) })
          ]
        ]
      ]
    ]
  ]
]

-- ---- octants

step_small : (var : Var) (r : ℕ) → ((fine_step var r).x < 2) × ((fine_step var r).y < 2) × ((fine_step var r).z < 2)
step_small (Cell v) r = (omega arith, omega arith, omega arith)
step_small CellWork r = (omega arith, omega arith, omega arith)
step_small (Face X) r = (omega arith, omega arith, omega arith)
step_small (Face Y) r = (omega arith, omega arith, omega arith)
step_small (Face Z) r = (omega arith, omega arith, omega arith)
step_small (FaceWork X) r = (omega arith, omega arith, omega arith)
step_small (FaceWork Y) r = (omega arith, omega arith, omega arith)
step_small (FaceWork Z) r = (omega arith, omega arith, omega arith)
step_small (Edge X) r = (omega arith, omega arith, omega arith)
step_small (Edge Y) r = (omega arith, omega arith, omega arith)
step_small (Edge Z) r = (omega arith, omega arith, omega arith)
step_small (EdgeWork X) r = (omega arith, omega arith, omega arith)
step_small (EdgeWork Y) r = (omega arith, omega arith, omega arith)
step_small (EdgeWork Z) r = (omega arith, omega arith, omega arith)

-- no finer number stands beyond a position
abbrev NoStep : ℕ → Var → ℕ → Type 0
NoStep n var r = ((half_extents n var).x ≡ n + 1 → (fine_step var r).x ≡ 0) × ((half_extents n var).y ≡ n + 1 → (fine_step var r).y ≡ 0) × ((half_extents n var).z ≡ n + 1 → (fine_step var r).z ≡ 0)

no_step : (n : ℕ) (var : Var) (r : ℕ) → NoStep n var r
no_step n (Cell v) r = (λ h. absurd (omega arith), λ h. absurd (omega arith), λ h. absurd (omega arith))
no_step n CellWork r = (λ h. absurd (omega arith), λ h. absurd (omega arith), λ h. absurd (omega arith))
no_step n (Face X) r = (λ h. refl, λ h. absurd (omega arith), λ h. absurd (omega arith))
no_step n (Face Y) r = (λ h. absurd (omega arith), λ h. refl, λ h. absurd (omega arith))
no_step n (Face Z) r = (λ h. absurd (omega arith), λ h. absurd (omega arith), λ h. refl)
no_step n (FaceWork X) r = (λ h. refl, λ h. absurd (omega arith), λ h. absurd (omega arith))
no_step n (FaceWork Y) r = (λ h. absurd (omega arith), λ h. refl, λ h. absurd (omega arith))
no_step n (FaceWork Z) r = (λ h. absurd (omega arith), λ h. absurd (omega arith), λ h. refl)
no_step n (Edge X) r = (λ h. absurd (omega arith), λ h. refl, λ h. refl)
no_step n (Edge Y) r = (λ h. refl, λ h. absurd (omega arith), λ h. refl)
no_step n (Edge Z) r = (λ h. refl, λ h. refl, λ h. absurd (omega arith))
no_step n (EdgeWork X) r = (λ h. absurd (omega arith), λ h. refl, λ h. refl)
no_step n (EdgeWork Y) r = (λ h. refl, λ h. absurd (omega arith), λ h. refl)
no_step n (EdgeWork Z) r = (λ h. refl, λ h. refl, λ h. absurd (omega arith))

-- what stands in a block stands within its array
abbrev Longer : ℕ → ℕ → Var → Type 0
Longer n e var = ((u i : ℕ) → u + i < (half_extents n var).x → e + u + i < (extents_of n e var).x)
    × ((u i : ℕ) → u + i < (half_extents n var).y → e + u + i < (extents_of n e var).y) × ((u i : ℕ) → u + i < (half_extents n var).z → e + u + i < (extents_of n e var).z)

longer_side : (n e : ℕ) (var : Var) → Longer n e var
longer_side n e (Cell v) = (λ u i h. omega arith, λ u i h. omega arith, λ u i h. omega arith)
longer_side n e CellWork = (λ u i h. omega arith, λ u i h. omega arith, λ u i h. omega arith)
longer_side n e (Face X) = (λ u i h. omega arith, λ u i h. omega arith, λ u i h. omega arith)
longer_side n e (Face Y) = (λ u i h. omega arith, λ u i h. omega arith, λ u i h. omega arith)
longer_side n e (Face Z) = (λ u i h. omega arith, λ u i h. omega arith, λ u i h. omega arith)
longer_side n e (FaceWork X) = (λ u i h. omega arith, λ u i h. omega arith, λ u i h. omega arith)
longer_side n e (FaceWork Y) = (λ u i h. omega arith, λ u i h. omega arith, λ u i h. omega arith)
longer_side n e (FaceWork Z) = (λ u i h. omega arith, λ u i h. omega arith, λ u i h. omega arith)
longer_side n e (Edge X) = (λ u i h. omega arith, λ u i h. omega arith, λ u i h. omega arith)
longer_side n e (Edge Y) = (λ u i h. omega arith, λ u i h. omega arith, λ u i h. omega arith)
longer_side n e (Edge Z) = (λ u i h. omega arith, λ u i h. omega arith, λ u i h. omega arith)
longer_side n e (EdgeWork X) = (λ u i h. omega arith, λ u i h. omega arith, λ u i h. omega arith)
longer_side n e (EdgeWork Y) = (λ u i h. omega arith, λ u i h. omega arith, λ u i h. omega arith)
longer_side n e (EdgeWork Z) = (λ u i h. omega arith, λ u i h. omega arith, λ u i h. omega arith)

-- views by coordinates, each of which is the sum of the finer ones
module _ (n e : ℕ) (size : (n ≡ 4) ⊎ (n ≡ 8)) (var : Var) (view : CellAt → ℤ) (law : (c : CellAt) → view c ≡ sum_below (fine_count var) (λ r. view (finer c (fine_step var r)))) where
  -- a block holds views; its octant q does
  abbrev pub WholeHolds : BlockAt → (ℕ → ℕ → ℕ → ℤ) → Type 0
  WholeHolds b numbers = (i j k : ℕ) → i < (half_extents n var).x → j < (half_extents n var).y → k < (half_extents n var).z → numbers (e + i) (e + j) (e + k) ≡ view (in_block n b i j k)

  abbrev pub PartHolds : BlockAt → ℕ → (ℕ → ℕ → ℕ → ℤ) → Type 0
  PartHolds b q numbers = (i j k : ℕ) → i < (half_extents (n / 2) var).x → j < (half_extents (n / 2) var).y → k < (half_extents (n / 2) var).z →
      numbers (e + half_at n q + i) (e + half_at n (q / 2) + j) (e + half_at n (q / 4) + k) ≡ view (in_block n b (half_at n q + i) (half_at n (q / 2) + j) (half_at n (q / 4) + k))

  module _ (b : BlockAt) where
    -- finer numbers of a child that holds views make the view of what they make up
    pub fine_view : (q : ℕ) (numbers : ℕ → ℕ → ℕ → ℤ) → WholeHolds (child_block b q) numbers → (i j k : ℕ) →
        i < (half_extents (n / 2) var).x → j < (half_extents (n / 2) var).y → k < (half_extents (n / 2) var).z →
        fine_summed e var numbers i j k ≡ view (in_block n b (half_at n q + i) (half_at n (q / 2) + j) (half_at n (q / 4) + k))
    unfolding fine_sum
    fine_view q numbers views i j k hi hj hk =
        let along = var_along n var in
        let c = in_block n b (half_at n q + i) (half_at n (q / 2) + j) (half_at n (q / 4) + k) in
        let each : (r : ℕ) → r < fine_count var → numbers (e + 2 * i + (fine_step var r).x) (e + 2 * j + (fine_step var r).y) (e + 2 * k + (fine_step var r).z) ≡ view (finer c (fine_step var r)) = λ r hr.
        let d = fine_step var r in
        let less = step_small var r in
        let none = no_step n var r in
        let there = views (2 * i + d.x) (2 * j + d.y) (2 * k + d.z) (fine_below n _ _ i d.x size along.x less.0 none.0 hi) (fine_below n _ _ j d.y size along.y less.1 none.1 hj) (fine_below n _ _ k d.z size along.z less.2 none.2 hk) in
        let x : e + 2 * i + d.x ≡ e + (2 * i + d.x) = omega arith in
        let y : e + 2 * j + d.y ≡ e + (2 * j + d.y) = omega arith in
        let z : e + 2 * k + d.z ≡ e + (2 * k + d.z) = omega arith in
        ap (λ u. numbers u (e + 2 * j + d.y) (e + 2 * k + d.z)) x ∙ ap₂ (λ v w. numbers (e + (2 * i + d.x)) v w) y z
        ∙ there
        ∙ ap view (finer_in_child n b q i j k d size) in
        sum_below_same (fine_count var) _ (λ r. view (finer c (fine_step var r))) each ∙ sym (law c)

    -- an octant that was set to the sums of the child's views holds views
    pub octant_summed : (q : ℕ) (child old new : List ℤ) → IsSummed n e var q child old new → WholeHolds (child_block b q) (number_at (extents_of n e var) child) →
        PartHolds b q (number_at (extents_of n e var) new)
    octant_summed q child old new sums views i j k hi hj hk = sums.written i j k hi hj hk ∙ fine_view q (number_at (extents_of n e var) child) views i j k hi hj hk

    -- the other octants stay, those with places in common among them
    pub other_octant : (q p : ℕ) (child old new : List ℤ) → IsSummed n e var q child old new → WholeHolds (child_block b q) (number_at (extents_of n e var) child) →
        PartHolds b p (number_at (extents_of n e var) old) → PartHolds b p (number_at (extents_of n e var) new)
    other_octant q p child old new sums views there i j k hi hj hk =
        let along = var_along n var in
        let x = e + half_at n p + i in
        let y = e + half_at n (p / 2) + j in
        let z = e + half_at n (p / 4) + k in
        let bx = whole_below n _ _ p i size along.x hi in
        let by = whole_below n _ _ (p / 2) j size along.y hj in
        let bz = whole_below n _ _ (p / 4) k size along.z hk in
        let far = longer_side n e var in
        elim (in_box_or (array_octant n e var q) x y z) [
          | inr beyond ↦ sums.stays x y z (far.0 (half_at n p) i bx) (far.1 (half_at n (p / 2)) j by) (far.2 (half_at n (p / 4)) k bz) beyond ∙ there i j k hi hj hk
          | inl is ↦
              let i' = x - (e + half_at n q) in
              let j' = y - (e + half_at n (q / 2)) in
              let k' = z - (e + half_at n (q / 4)) in
              let lx = is.x in
              let ly = is.y in
              let lz = is.z in
              let sx : e + half_at n q + i' ≡ x = omega arith in
              let sy : e + half_at n (q / 2) + j' ≡ y = omega arith in
              let sz : e + half_at n (q / 4) + k' ≡ z = omega arith in
              let cx : half_at n q + i' ≡ half_at n p + i = omega arith in
              let cy : half_at n (q / 2) + j' ≡ half_at n (p / 2) + j = omega arith in
              let cz : half_at n (q / 4) + k' ≡ half_at n (p / 4) + k = omega arith in
              let numbers = number_at (extents_of n e var) new in
              let hx : i' < (half_extents (n / 2) var).x = omega arith in
              let hy : j' < (half_extents (n / 2) var).y = omega arith in
              let hz : k' < (half_extents (n / 2) var).z = omega arith in
              sym (ap (λ u. numbers u (e + half_at n (q / 2) + j') (e + half_at n (q / 4) + k')) sx ∙ ap₂ (λ v w. numbers x v w) sy sz)
              ∙ sums.written i' j' k' hx hy hz
              ∙ fine_view q (number_at (extents_of n e var) child) views i' j' k' hx hy hz
              ∙ ap (λ u. view (in_block n b u (half_at n (q / 2) + j') (half_at n (q / 4) + k'))) cx
              ∙ ap₂ (λ v w. view (in_block n b (half_at n p + i) v w)) cy cz
        ]

    -- a block whose octants all hold views holds views
    pub octants_make : (numbers : ℕ → ℕ → ℕ → ℤ) → ((q : ℕ) → q < 8 → PartHolds b q numbers) → WholeHolds b numbers
    octants_make numbers octants i j k hi hj hk =
        let along = var_along n var in
        let x = in_a_half n _ _ i size along.x hi in
        let y = in_a_half n _ _ j size along.y hj in
        let z = in_a_half n _ _ k size along.z hk in
        let lx = x.low in
        let ly = y.low in
        let lz = z.low in
        let q = x.bit + 2 * y.bit + 4 * z.bit in
        let qx : q % 2 ≡ x.bit = omega arith in
        let qy : q / 2 % 2 ≡ y.bit = omega arith in
        let qz : q / 4 % 2 ≡ z.bit = omega arith in
        let cx : half_at n q + x.rest ≡ i = ap (λ m. n / 2 * m + x.rest) qx ∙ x.is in
        let cy : half_at n (q / 2) + y.rest ≡ j = ap (λ m. n / 2 * m + y.rest) qy ∙ y.is in
        let cz : half_at n (q / 4) + z.rest ≡ k = ap (λ m. n / 2 * m + z.rest) qz ∙ z.is in
        let there = octants q (omega arith) x.rest y.rest z.rest x.inside y.inside z.inside in
        let ex : e + half_at n q + x.rest ≡ e + i = omega arith in
        let ey : e + half_at n (q / 2) + y.rest ≡ e + j = omega arith in
        let ez : e + half_at n (q / 4) + z.rest ≡ e + k = omega arith in
        sym (ap (λ u. numbers u (e + half_at n (q / 2) + y.rest) (e + half_at n (q / 4) + z.rest)) ex ∙ ap₂ (λ v w. numbers (e + i) v w) ey ez)
        ∙ there
        ∙ ap (λ u. view (in_block n b u (half_at n (q / 2) + y.rest) (half_at n (q / 4) + z.rest))) cx
        ∙ ap₂ (λ v w. view (in_block n b i v w)) cy cz
