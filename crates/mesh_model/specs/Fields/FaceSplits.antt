-- The faces of a child that are made of its parent's: parts of the parent's faces, and between them what the inner rule gives. On the sides of
-- the child that are kept the finer numbers are there already, and stay. Numbers are given by axis and place.
use Rattle.std.specs.Prelude.{◌≡◌, ℕ, ◌+◌, ◌*◌, ◌/◌, ◌%◌, ◌^◌, ◌<◌, Bool, true, false, ◌&&◌, ◌||◌, ◌==◌, if◌then◌else◌, List, ℤ}
use Rattle.amr_num.specs.declared.Axis.{Axis}
use Rattle.amr_num.specs.declared.Axis.TheVariants.{X, Y, Z}
use Rattle.amr_num.specs.declared.BlockAt.{BlockAt}
use Rattle.amr_num.specs.declared.FaceAt.{FaceAt}
use Rattle.amr_num.specs.Numbers.{Within, part}
use Rattle.mesh_model.specs.Geometry.Blocks.{InDomain, child_block}
use Rattle.mesh_model.specs.Geometry.Canonical.{canonical_on}
use Rattle.mesh_model.specs.Geometry.Coordinates.{face_of, quarter}
use Rattle.mesh_model.specs.Geometry.Places.{in_block, longer_on}
use Rattle.mesh_model.specs.Tree.Kinds.{Grid, is_leaf_face, is_split_block, is_split_face}
use Rattle.mesh_model.specs.Tree.ValidGrid.{Valid}
use Rattle.mesh_model.specs.Fields.ArrayPlaces.{Box, HoldsFaces, IsWritten, face_extents, number_at}
use Rattle.mesh_model.specs.Fields.FinePlaces.{faces_in}
use Rattle.mesh_model.specs.Fields.InnerRule.{Outer}
use Rattle.mesh_model.specs.Fields.Octants.{half_at}
use Rattle.mesh_model.specs.Fields.Views.{cross, face_view, inner_face, is_even}

-- ---- the three axes

-- one for each axis
abbrev pub by_axis : {A : Type 0} → A → A → A → Axis → A
by_axis x y z X = x
by_axis x y z Y = y
by_axis x y z Z = z

-- the one of three coordinates that is on an axis
abbrev pub position : Axis → ℕ → ℕ → ℕ → ℕ
position a i j k = by_axis i j k a

-- the numbers of three arrays, on the faces normal to each axis
abbrev pub all_faces : ℕ → ℕ → (Axis → List ℤ) → Axis → ℕ → ℕ → ℕ → ℤ
all_faces n g arrays a = number_at (face_extents n g a) (arrays a)

-- the faces of a block normal to an axis, those on its sides among them, in an array
abbrev pub face_box : ℕ → ℕ → Axis → Box
face_box n g a = record { x = g; y = g; z = g; along_x = longer_on a X n; along_y = longer_on a Y n; along_z = longer_on a Z n }

-- ---- sides that are kept

-- the direction by its steps on the axes, where 0 is down, 1 is none and 2 is up
abbrev pub direction : ℕ → ℕ → ℕ → ℕ
direction x y z = x + 3 * y + 9 * z

-- the direction of the side that lies one step down or up an axis
abbrev pub side_direction : Axis → ℕ → ℕ
side_direction a s = by_axis (direction s 1 1) (direction 1 s 1) (direction 1 1 s) a

-- bit d stands
abbrev pub is_kept : ℕ → ℕ → Bool
is_kept kept d = kept / 2 ^ d % 2 == 1

-- the position on an axis of n cells is that of a side, and of one that is kept
abbrev pub is_side : ℕ → ℕ → Bool
is_side n p = (p == 0) || (p == n)

abbrev pub is_kept_side : ℕ → ℕ → Axis → ℕ → Bool
is_kept_side n kept a p = ((p == 0) && is_kept kept (side_direction a 0)) || ((p == n) && is_kept kept (side_direction a 2))

-- ---- the faces of a child

-- the parent's face in which the face (i, j, k) of its child q at an even position lies, and its part of it
abbrev pub face_above : ℕ → ℕ → ℕ → (ℕ → ℕ → ℕ → ℤ) → ℕ → ℕ → ℕ → ℤ
face_above n g q parent i j k = parent (g + half_at n q + i / 2) (g + half_at n (q / 2) + j / 2) (g + half_at n (q / 4) + k / 2)

abbrev pub face_part : ℕ → ℕ → ℕ → Axis → (ℕ → ℕ → ℕ → ℤ) → ℕ → ℕ → ℕ → ℤ
face_part n g q a parent i j k = part (cross a (i % 2) (j % 2) (k % 2)) (face_above n g q parent i j k) 4

-- the four faces from a place on, by quarter
abbrev pub four_from : Axis → (ℕ → ℕ → ℕ → ℤ) → ℕ → ℕ → ℕ → ℕ → ℤ
four_from a numbers i j k q = numbers (i + (quarter a q).x) (j + (quarter a q).y) (k + (quarter a q).z)

-- the 24 subfaces on the sides of the cell whose first sub-cell stands at a place
abbrev pub sides_from : (Axis → ℕ → ℕ → ℕ → ℤ) → ℕ → ℕ → ℕ → Outer
sides_from faces i j k = record {
  x_low = four_from X (faces X) i j k;
  x_high = four_from X (faces X) (i + 2) j k;
  y_low = four_from Y (faces Y) i j k;
  y_high = four_from Y (faces Y) i (j + 2) k;
  z_low = four_from Z (faces Z) i j k;
  z_high = four_from Z (faces Z) i j (k + 2);
}

-- what the inner rule gives the face (i, j, k) of a block, of the subfaces on the sides of the coarser cell in which it lies
abbrev pub face_between : ℕ → Axis → (Axis → ℕ → ℕ → ℕ → ℤ) → ℕ → ℕ → ℕ → ℤ
face_between g a faces i j k = inner_face (sides_from faces (g + 2 * (i / 2)) (g + 2 * (j / 2)) (g + 2 * (k / 2))) a (i % 2) (j % 2) (k % 2)

-- what the face (i, j, k) of the child q gets: on a kept side what it had, else at an even position its part of the parent's face, and else what
-- the inner rule gives of the child's new faces
unfoldable pub split_face : ℕ → ℕ → ℕ → ℕ → (Axis → ℕ → ℕ → ℕ → ℤ) → (Axis → ℕ → ℕ → ℕ → ℤ) → (Axis → ℕ → ℕ → ℕ → ℤ) → Axis → ℕ → ℕ → ℕ → ℤ
split_face n g q kept parent old new a i j k =
    if is_kept_side n kept a (position a i j k) then old a (g + i) (g + j) (g + k)
    else (if is_even (position a i j k) then face_part n g q a (parent a) i j k else face_between g a new i j k)

-- the faces of the child q are split from those of the parent, the kept sides stay, and so do the guards
abbrev pub AreFacesSplit : ℕ → ℕ → ℕ → ℕ → (Axis → List ℤ) → (Axis → List ℤ) → (Axis → List ℤ) → Type 0
AreFacesSplit n g q kept parent old new = (a : Axis) →
    IsWritten (face_extents n g a) (face_box n g a) (split_face n g q kept (all_faces n g parent) (all_faces n g old) (all_faces n g new) a) (old a) (new a)

-- the numbers that stay, and those of the parent of which the others are made, are in range
pub record SourcesAreSmall (n g q kept : ℕ) (parent child : Axis → ℕ → ℕ → ℕ → ℤ) : Type 0 where
  pub stay : (a : Axis) (i j k : ℕ) → i < longer_on a X n → j < longer_on a Y n → k < longer_on a Z n → is_kept_side n kept a (position a i j k) ≡ true →
      Within (2 ^ 40) (child a (g + i) (g + j) (g + k))
  pub split : (a : Axis) (i j k : ℕ) → i < longer_on a X n → j < longer_on a Y n → k < longer_on a Z n → is_kept_side n kept a (position a i j k) ≡ false →
      is_even (position a i j k) ≡ true → Within (2 ^ 40) (face_above n g q (parent a) i j k)

-- ---- what splitting makes of a child

-- the kept sides of a block hold the views of a field on faces
pub record KeptSidesHold (g : Grid) (field : FaceAt → ℤ) (b : BlockAt) (kept : ℕ) (faces : Axis → ℕ → ℕ → ℕ → ℤ) : Type 0 where
  pub at : (a : Axis) (i j k : ℕ) → i < longer_on a X g.shape.n → j < longer_on a Y g.shape.n → k < longer_on a Z g.shape.n →
      is_kept_side g.shape.n kept a (position a i j k) ≡ true →
      faces a (g.shape.g + i) (g.shape.g + j) (g.shape.g + k) ≡ face_view g field (face_of a (canonical_on g.shape a (in_block g.shape.n b i j k)))

-- the faces on the sides of a block that are not kept are neither split nor leaf faces
pub record OtherSidesLieInside (g : Grid) (b : BlockAt) (kept : ℕ) : Type 0 where
  pub at : (a : Axis) (i j k : ℕ) → i < longer_on a X g.shape.n → j < longer_on a Y g.shape.n → k < longer_on a Z g.shape.n →
      is_side g.shape.n (position a i j k) ≡ true → is_kept_side g.shape.n kept a (position a i j k) ≡ false →
      let f = face_of a (canonical_on g.shape a (in_block g.shape.n b i j k)) in (is_split_face g f ≡ false) × (is_leaf_face g f ≡ false)

-- in every valid grid a child of a block that is not split holds views where it was split from the block that holds views, its kept sides held
-- views and its other sides lie inside coarser leaves
abbrev pub FaceChildrenAreSplit : Type 0
FaceChildrenAreSplit = (g : Grid) (field : FaceAt → ℤ) (b : BlockAt) (q kept : ℕ) (parent old new : Axis → List ℤ) → Valid g → InDomain g.shape b → q < 8 →
    is_split_block g b ≡ false → AreFacesSplit g.shape.n g.shape.g q kept parent old new →
    ((a : Axis) → HoldsFaces g field a b (faces_in g a (parent a))) →
    KeptSidesHold g field (child_block b q) kept (all_faces g.shape.n g.shape.g old) →
    OtherSidesLieInside g (child_block b q) kept →
    (a : Axis) → HoldsFaces g field a (child_block b q) (faces_in g a (new a))
