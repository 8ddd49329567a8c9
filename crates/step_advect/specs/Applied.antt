-- The contents of a block's cells after a step, from the fluxes through their faces, by the cells' coordinates in the block.
use Rattle.std.specs.Prelude.{◌≡◌, ℕ, ◌+◌, ◌^◌, ◌<◌, Bool, false, List, ℤ, pos, ◌+ℤ◌, ◌-ℤ◌, Option, Some, None, if◌then◌else◌, length, slice_index_or}
use Rattle.amr_num.specs.Numbers.{Within, at, number_range, sum_below}
use Rattle.amr_num.specs.declared.Axis.{Axis}
use Rattle.amr_num.specs.declared.Axis.TheVariants.{X, Y, Z}
use Rattle.mesh_model.specs.Fields.ArrayPlaces.{IsWritten, cell_extents, face_extents, interior, number_at, size_of}
use Rattle.mesh_model.specs.Fields.Firsts.{first_in_box}
use Rattle.mesh_model.specs.Fields.RangeWalk.{is_above}
use Rattle.step_advect.specs.declared.update.RangeAt.{RangeAt}
use Rattle.step_advect.specs.Fluxed.{AreFacesWithin}

-- numbers by places, counted from a block's first cell on
abbrev pub inner : ℕ → (ℕ → ℕ → ℕ → ℤ) → ℕ → ℕ → ℕ → ℤ
inner g numbers i j k = numbers (g + i) (g + j) (g + k)

-- the contents of a block's cells, and the fluxes through its faces normal to each axis
pub record Flows : Type 0 where
  pub content : ℕ → ℕ → ℕ → ℤ
  pub x : ℕ → ℕ → ℕ → ℤ
  pub y : ℕ → ℕ → ℕ → ℤ
  pub z : ℕ → ℕ → ℕ → ℤ

-- those that arrays have
abbrev pub flows_in : ℕ → ℕ → List ℤ → List ℤ → List ℤ → List ℤ → Flows
flows_in n g cells fx fy fz = record {
  content = inner g (number_at (cell_extents n g) cells);
  x = inner g (number_at (face_extents n g X) fx);
  y = inner g (number_at (face_extents n g Y) fy);
  z = inner g (number_at (face_extents n g Z) fz);
}

-- ---- contents

-- the net outflow of a cell is high minus low of its faces' fluxes, added over the axes
abbrev pub net_at : Flows → ℕ → ℕ → ℕ → ℤ
net_at f i j k = (f.x (i + 1) j k -ℤ f.x i j k) +ℤ (f.y i (j + 1) k -ℤ f.y i j k) +ℤ (f.z i j (k + 1) -ℤ f.z i j k)

-- and it is left without that
abbrev pub left_at : Flows → ℕ → ℕ → ℕ → ℤ
left_at f i j k = f.content i j k -ℤ net_at f i j k

-- each cell has what is left of it, and all else of the array is as it was
abbrev pub IsApplied : ℕ → ℕ → Flows → List ℤ → List ℤ → Type 0
IsApplied n g f old new = IsWritten (cell_extents n g) (interior n g) (left_at f) old new

-- ---- range

-- a number of a block's cells, where it is out of range
abbrev pub range_at : (ℕ → ℕ → ℕ → ℤ) → ℕ → ℕ → ℕ → Option RangeAt
range_at cells i j k = if is_above number_range (cells i j k) then Some (record { axis = X; i = i; j = j; k = k; value = cells i j k }) else None

-- the first of them, x fastest, then y, then z
abbrev pub first_out : ℕ → (ℕ → ℕ → ℕ → ℤ) → Option RangeAt
first_out n cells = first_in_box n (range_at cells)

-- all of them are in range
pub record AreInRange (n : ℕ) (cells : ℕ → ℕ → ℕ → ℤ) : Type 0 where
  pub at : (i j k : ℕ) → i < n → j < n → k < n → Within number_range (cells i j k)

-- ---- arrays

-- the array of a block's faces normal to an axis, with numbers that can be summed over a side
pub record AreFluxes (n g : ℕ) (a : Axis) (faces : List ℤ) : Type 0 where
  pub whole : length faces ≡ size_of (face_extents n g a)
  pub small : AreFacesWithin (2 ^ 58) n g a (number_at (face_extents n g a) faces)

-- the arrays from which a step is made: of a block's cells, in range, and of its faces normal to each axis
pub record AreStepArrays (n g : ℕ) (cells fx fy fz : List ℤ) : Type 0 where
  pub whole : length cells ≡ size_of (cell_extents n g)
  pub in_range : AreInRange n (inner g (number_at (cell_extents n g) cells))
  pub along_x : AreFluxes n g X fx
  pub along_y : AreFluxes n g Y fy
  pub along_z : AreFluxes n g Z fz

-- ---- what flows out

-- the face normal to an axis at a position, with coordinates on the other two axes, in the order of the axes
abbrev pub face_on : Axis → (ℕ → ℕ → ℕ → ℤ) → ℕ → ℕ → ℕ → ℤ
face_on X faces p u v = faces p u v
face_on Y faces p u v = faces u p v
face_on Z faces p u v = faces u v p

-- what flows through all faces at a position
abbrev pub side_sum : ℕ → Axis → (ℕ → ℕ → ℕ → ℤ) → ℕ → ℤ
side_sum n a faces p = sum_below n (λ v. sum_below n (λ u. face_on a faces p u v))

-- what flows out through the low and the high side of an axis, where these are chosen
abbrev pub out_along : ℕ → Axis → (ℕ → ℕ → ℕ → ℤ) → Bool → Bool → ℤ
out_along n a faces low high = (if high then side_sum n a faces n else pos 0) -ℤ (if low then side_sum n a faces 0 else pos 0)

-- whether a side is among those that are chosen, in the order x low, x high, y low, y high, z low, z high
abbrev pub is_chosen : List Bool → ℕ → Bool
is_chosen sides q = slice_index_or sides q false

-- what flows out through the chosen sides
abbrev pub out_through : ℕ → Flows → List Bool → ℤ
out_through n f sides =
    out_along n X f.x (is_chosen sides 0) (is_chosen sides 1) +ℤ out_along n Y f.y (is_chosen sides 2) (is_chosen sides 3)
    +ℤ out_along n Z f.z (is_chosen sides 4) (is_chosen sides 5)

-- ---- rows

-- what is left of a cell of a row, from its face on the low side of x, and the rows of faces on its other sides
unfoldable pub left_in : List ℤ → List ℤ → List ℤ → List ℤ → List ℤ → List ℤ → ℕ → ℤ
left_in cells x y_low y_high z_low z_high t =
    at cells t -ℤ ((at x (t + 1) -ℤ at x t) +ℤ (at y_high t -ℤ at y_low t) +ℤ (at z_high t -ℤ at z_low t))

-- the numbers of the rows are small
pub record AreRowsSmall (many : ℕ) (cells x y_low y_high z_low z_high : List ℤ) : Type 0 where
  pub content : (t : ℕ) → t < many → Within (2 ^ 40) (at cells t)
  pub along_x : (t : ℕ) → t < many + 1 → Within (2 ^ 58) (at x t)
  pub below_y : (t : ℕ) → t < many → Within (2 ^ 58) (at y_low t)
  pub above_y : (t : ℕ) → t < many → Within (2 ^ 58) (at y_high t)
  pub below_z : (t : ℕ) → t < many → Within (2 ^ 58) (at z_low t)
  pub above_z : (t : ℕ) → t < many → Within (2 ^ 58) (at z_high t)
