-- The circulations of a block's edges, by places.
use Rattle.std.specs.Prelude.{◌≡◌, ℕ, ◌+◌, ◌*◌, ◌^◌, ◌<◌, Bool, false, true, List, length, option_map, Option, ℤ, ◌+ℤ◌, ◌-ℤ◌, slice_index_or}
use Rattle.amr_num.specs.declared.Axis.{Axis}
use Rattle.amr_num.specs.declared.Axis.TheVariants.{X, Y, Z}
use Rattle.amr_num.specs.declared.BlockAt.{BlockAt}
use Rattle.amr_num.specs.declared.EdgeAt.{EdgeAt}
use Rattle.amr_num.specs.declared.FaceAt.{FaceAt}
use Rattle.amr_num.specs.Numbers.{Within, at}
use Rattle.block_store.specs.Above.{first_in_faces}
use Rattle.block_store.specs.declared.above.Above.{Above}
use Rattle.block_store.specs.declared.above.CountedFaces.{CountedFaces}
use Rattle.mesh_model.specs.Geometry.Blocks.{InDomain}
use Rattle.mesh_model.specs.Geometry.Canonical.{canonical_on}
use Rattle.mesh_model.specs.Geometry.Coordinates.{axis_index, face_of, next, step}
use Rattle.mesh_model.specs.Geometry.Places.{in_block, longer_across, longer_on}
use Rattle.mesh_model.specs.Tree.Kinds.{Grid, is_leaf_face}
use Rattle.mesh_model.specs.Tree.ValidGrid.{Valid}
use Rattle.mesh_model.specs.Fields.ArrayPlaces.{HoldsEdgeField, HoldsFaceField, HoldsFaces, HoldsLeafFaces, IsWritten, edge_extents, face_extents, number_at, size_of}
use Rattle.mesh_model.specs.Fields.Advect.{Speeds}
use Rattle.mesh_model.specs.Fields.Circulation.{circulation}
use Rattle.mesh_model.specs.Fields.FaceSplits.{face_box}
use Rattle.mesh_model.specs.Fields.FinePlaces.{edges_in, faces_in}
use Rattle.mesh_model.specs.Fields.Induct.{electromotive_force, inducted}
use Rattle.mesh_model.specs.Fields.Views.{face_view}
use Rattle.step_induct.specs.declared.circling.RangeAt.{RangeAt}

-- the numbers of a block's edges along each axis, by places in the block
abbrev pub edges_of : ℕ → ℕ → (Axis → List ℤ) → Axis → ℕ → ℕ → ℕ → ℤ
edges_of n g arrays a i j k = number_at (edge_extents n g a) (arrays a) (g + i) (g + j) (g + k)

-- the number one step further on an axis
abbrev pub further : Axis → (ℕ → ℕ → ℕ → ℤ) → ℕ → ℕ → ℕ → ℤ
further a numbers i j k = numbers (i + (step a 1).x) (j + (step a 1).y) (k + (step a 1).z)

-- the circulation round the face normal to an axis at a place: with b and c the next axes, along b at the low c position, along c at the high b
-- position, and back
unfoldable pub circled : (Axis → ℕ → ℕ → ℕ → ℤ) → Axis → ℕ → ℕ → ℕ → ℤ
circled e a i j k =
    let b = next a in
    let c = next b in
    e b i j k +ℤ further b (e c) i j k -ℤ further c (e b) i j k -ℤ e c i j k

-- the arrays of a block's edges along each axis, with numbers that can be added
pub record AreEdgeArrays (n g : ℕ) (arrays : Axis → List ℤ) : Type 0 where
  pub whole : (a : Axis) → length (arrays a) ≡ size_of (edge_extents n g a)
  pub small : (a : Axis) (i j k : ℕ) → i < longer_across a X n → j < longer_across a Y n → k < longer_across a Z n → Within (2 ^ 58) (edges_of n g arrays a i j k)

-- the faces of a block normal to an axis have the circulations of its edges, and the guards stay
abbrev pub IsCirculated : ℕ → ℕ → Axis → (Axis → List ℤ) → List ℤ → List ℤ → Type 0
IsCirculated n g a arrays old new = IsWritten (face_extents n g a) (face_box n g a) (circled (edges_of n g arrays) a) old new

-- ---- what faces lose

-- the numbers of a block's faces normal to an axis, by places in the block
abbrev pub faces_of : ℕ → ℕ → Axis → List ℤ → ℕ → ℕ → ℕ → ℤ
faces_of n g a faces i j k = number_at (face_extents n g a) faces (g + i) (g + j) (g + k)

-- what is left of them without the circulations of the edges round them
unfoldable pub lessened : (ℕ → ℕ → ℕ → ℤ) → (Axis → ℕ → ℕ → ℕ → ℤ) → Axis → ℕ → ℕ → ℕ → ℤ
lessened faces e a i j k = faces i j k -ℤ circled e a i j k

-- the array of a block's faces normal to an axis, with numbers from which circulations can be taken
pub record IsFaceArray (n g : ℕ) (a : Axis) (faces : List ℤ) : Type 0 where
  pub whole : length faces ≡ size_of (face_extents n g a)
  pub small : (i j k : ℕ) → i < longer_on a X n → j < longer_on a Y n → k < longer_on a Z n → Within (2 ^ 56) (faces_of n g a faces i j k)

-- the faces of a block normal to an axis have what they had in an array without the circulations of its edges, and the guards stay
abbrev pub IsLessened : ℕ → ℕ → Axis → List ℤ → (Axis → List ℤ) → List ℤ → List ℤ → Type 0
IsLessened n g a faces arrays old new = IsWritten (face_extents n g a) (face_box n g a) (lessened (faces_of n g a faces) (edges_of n g arrays) a) old new

-- ---- range

-- which of the faces normal to an axis count, by sides in the order x low, x high, y low, y high, z low, z high
abbrev pub is_counted_side : List Bool → ℕ → Bool
is_counted_side sides q = slice_index_or sides q false

abbrev pub counted : Axis → List Bool → CountedFaces
counted a sides = record { axis = a; low = is_counted_side sides (2 * axis_index a); high = is_counted_side sides (2 * axis_index a + 1) }

-- the number out of range that is told of
abbrev pub told_above : Axis → Above → RangeAt
told_above a found = record { axis = a; i = found.i; j = found.j; k = found.k; value = found.value }

-- the first of these numbers of faces that counts and is out of range
abbrev pub first_above : ℕ → Axis → List Bool → (ℕ → ℕ → ℕ → ℤ) → Option RangeAt
first_above n a sides faces = option_map (told_above a) (first_in_faces faces n (counted a sides))

-- ---- fields

-- in every valid grid the faces of a block that were made of its edges have the circulations of the field that these have
abbrev pub CirculationsAreHeld : Type 0
CirculationsAreHeld = (g : Grid) (field : EdgeAt → ℤ) (a : Axis) (b : BlockAt) (arrays : Axis → List ℤ) (old new : List ℤ) → Valid g → InDomain g.shape b →
    IsCirculated g.shape.n g.shape.g a arrays old new → ((c : Axis) → HoldsEdgeField g field c b (edges_in g c (arrays c))) →
    HoldsFaceField g (circulation g field) a b (faces_in g a new)

-- and where these circulations were taken from the views of a field on faces, they have what is left of the views
abbrev pub LessenedAreHeld : Type 0
LessenedAreHeld = (g : Grid) (field : FaceAt → ℤ) (views : EdgeAt → ℤ) (a : Axis) (b : BlockAt) (faces : List ℤ) (arrays : Axis → List ℤ) (old new : List ℤ) → Valid g → InDomain g.shape b →
    IsLessened g.shape.n g.shape.g a faces arrays old new → HoldsFaces g field a b (faces_in g a faces) → ((c : Axis) → HoldsEdgeField g views c b (edges_in g c (arrays c))) →
    HoldsFaceField g (λ f. face_view g field f -ℤ circulation g views f) a b (faces_in g a new)

-- so with electromotive forces on the edges the leaf faces among them have what the mesh has after induct
abbrev pub LessenedIsInducted : Type 0
LessenedIsInducted = (g : Grid) (field : FaceAt → ℤ) (n : Speeds) (a : Axis) (b : BlockAt) (faces : List ℤ) (arrays : Axis → List ℤ) (old new : List ℤ) → Valid g → InDomain g.shape b →
    IsLessened g.shape.n g.shape.g a faces arrays old new → HoldsFaces g field a b (faces_in g a faces) →
    ((c : Axis) → HoldsEdgeField g (electromotive_force g field n) c b (edges_in g c (arrays c))) →
    HoldsLeafFaces g (inducted g field n) a b (faces_in g a new)

-- ---- rows

-- what flows round a face of a row, from the rows of the edges round it
unfoldable pub round_in : List ℤ → List ℤ → List ℤ → List ℤ → ℕ → ℤ
round_in first second third last t = at first t +ℤ at second t -ℤ at third t -ℤ at last t
