-- How the faces of a child are split: first the parts of its parent's faces, then cell by cell of the parent the faces between them.
use Rattle.std.specs.Prelude.{◌≡◌, ℕ, ◌+◌, ◌*◌, ◌/◌, ◌%◌, ◌^◌, ◌<◌, ◌≤◌, ◌⊎◌, Bool, true, false, not, ◌&&◌, if◌then◌else◌, length, List, ℤ}
use Rattle.amr_num.specs.declared.Axis.{Axis}
use Rattle.amr_num.specs.declared.Axis.TheVariants.{X, Y, Z}
use Rattle.amr_num.specs.Numbers.{Within, part}
use Rattle.mesh_model.specs.Geometry.Places.{longer_on}
use Rattle.mesh_model.specs.Fields.ArrayPlaces.{Box, Extents, IsInBox, face_extents, number_at}
use Rattle.mesh_model.specs.Fields.FaceSplits.{face_above, face_box, is_kept_side, position}
use Rattle.mesh_model.specs.Fields.InnerRule.{Outer}
use Rattle.mesh_model.specs.Fields.Views.{cross, is_even}

-- a face at a position on its axis is a part of the parent's
abbrev pub is_part : ℕ → ℕ → Axis → ℕ → Bool
is_part n kept a p = not (is_kept_side n kept a p) && is_even p

-- what a face (i, j, k) is given: its part of the parent's face where it is one, and what it had elsewhere
unfoldable pub given : ℕ → ℕ → Axis → ℕ → ℕ → ℕ → ℤ → ℤ → ℤ
given n kept a i j k whole old = if is_part n kept a (position a i j k) then part (cross a (i % 2) (j % 2) (k % 2)) whole 4 else old

-- what the face (i, j, k) of the child q has as the parts are there
abbrev pub part_or_old : ℕ → ℕ → ℕ → ℕ → Axis → (ℕ → ℕ → ℕ → ℤ) → (ℕ → ℕ → ℕ → ℤ) → ℕ → ℕ → ℕ → ℤ
part_or_old n g q kept a parent old i j k = given n kept a i j k (face_above n g q parent i j k) (old (g + i) (g + j) (g + k))

-- the faces of a block at even positions are in range
pub record EvenAreSmall (n g : ℕ) (faces : Axis → ℕ → ℕ → ℕ → ℤ) : Type 0 where
  pub at : (a : Axis) (i j k : ℕ) → i < longer_on a X n → j < longer_on a Y n → k < longer_on a Z n → is_even (position a i j k) ≡ true →
      Within (2 ^ 40) (faces a (g + i) (g + j) (g + k))

-- four faces side by side by quarter: how many there are along each axis, and where they stand from a place on
abbrev pub four_extents : Axis → Extents
four_extents X = record { x = 1; y = 2; z = 2 }
four_extents Y = record { x = 2; y = 1; z = 2 }
four_extents Z = record { x = 2; y = 2; z = 1 }

abbrev pub four_box : Axis → ℕ → ℕ → ℕ → Box
four_box a x y z = record { x = x; y = y; z = z; along_x = (four_extents a).x; along_y = (four_extents a).y; along_z = (four_extents a).z }

-- the four normal to an axis between the octants of the cell whose first sub-cell stands at a place
abbrev pub middle_box : Axis → ℕ → ℕ → ℕ → Box
middle_box a x y z = four_box a (longer_on a X x) (longer_on a Y y) (longer_on a Z z)

-- which cell of the parent's octant, of h cells along each axis, a face lies in
abbrev pub cell_number : ℕ → ℕ → ℕ → ℕ → ℕ
cell_number h i j k = i / 2 + h * (j / 2 + h * (k / 2))

-- the faces at odd positions in the first m cells have what is wanted there, and all others what they had
pub record AreBetween (m n g : ℕ) (a : Axis) (wanted : ℕ → ℕ → ℕ → ℤ) (old new : List ℤ) : Type 0 where
  pub size : length new ≡ length old
  pub made : (i j k : ℕ) → i < longer_on a X n → j < longer_on a Y n → k < longer_on a Z n → is_even (position a i j k) ≡ false → cell_number (n / 2) i j k < m →
      number_at (face_extents n g a) new (g + i) (g + j) (g + k) ≡ wanted i j k
  pub waits : (i j k : ℕ) → i < longer_on a X n → j < longer_on a Y n → k < longer_on a Z n → (is_even (position a i j k) ≡ true) ⊎ (m ≤ cell_number (n / 2) i j k) →
      number_at (face_extents n g a) new (g + i) (g + j) (g + k) ≡ number_at (face_extents n g a) old (g + i) (g + j) (g + k)
  pub stays : (i j k : ℕ) → let e = face_extents n g a in i < e.x → j < e.y → k < e.z → (IsInBox (face_box n g a) i j k → ⊥) → number_at e new i j k ≡ number_at e old i j k

-- the same numbers stand on the sides of two cells, by quarter
pub record AreSides (o p : Outer) : Type 0 where
  pub x_low : (q : ℕ) → q < 4 → o.x_low q ≡ p.x_low q
  pub x_high : (q : ℕ) → q < 4 → o.x_high q ≡ p.x_high q
  pub y_low : (q : ℕ) → q < 4 → o.y_low q ≡ p.y_low q
  pub y_high : (q : ℕ) → q < 4 → o.y_high q ≡ p.y_high q
  pub z_low : (q : ℕ) → q < 4 → o.z_low q ≡ p.z_low q
  pub z_high : (q : ℕ) → q < 4 → o.z_high q ≡ p.z_high q

-- and all of them are in range
pub record SidesAreSmall (o : Outer) : Type 0 where
  pub x_low : (q : ℕ) → q < 4 → Within (2 ^ 40) (o.x_low q)
  pub x_high : (q : ℕ) → q < 4 → Within (2 ^ 40) (o.x_high q)
  pub y_low : (q : ℕ) → q < 4 → Within (2 ^ 40) (o.y_low q)
  pub y_high : (q : ℕ) → q < 4 → Within (2 ^ 40) (o.y_high q)
  pub z_low : (q : ℕ) → q < 4 → Within (2 ^ 40) (o.z_low q)
  pub z_high : (q : ℕ) → q < 4 → Within (2 ^ 40) (o.z_high q)
