-- Numbers on cells, faces and edges that are made up of finer ones: the octant of a block's array that stands for a child's.
use Rattle.std.specs.Prelude.{◌≡◌, ◌≢◌, ℕ, ◌+◌, ◌*◌, ◌/◌, ◌%◌, ◌^◌, ◌<◌, List, ℤ}
use Rattle.amr_num.specs.declared.Axis.{Axis}
use Rattle.amr_num.specs.declared.Axis.TheVariants.{X, Y, Z}
use Rattle.amr_num.specs.declared.BlockAt.{BlockAt}
use Rattle.amr_num.specs.declared.CellAt.{CellAt}
use Rattle.amr_num.specs.declared.FaceAt.{FaceAt}
use Rattle.amr_num.specs.declared.EdgeAt.{EdgeAt}
use Rattle.amr_num.specs.Numbers.{Within, sum_below}
use Rattle.mesh_model.specs.declared.fields.values.Var.{Var}
use Rattle.mesh_model.specs.declared.fields.values.Var.TheVariants.{Cell, Face, Edge, CellWork, FaceWork, EdgeWork}
use Rattle.mesh_model.specs.Geometry.Blocks.{child_block}
use Rattle.mesh_model.specs.Geometry.Canonical.{canonical_on}
use Rattle.mesh_model.specs.Geometry.Coordinates.{edge_of, face_of, next, quarter, step}
use Rattle.mesh_model.specs.Geometry.Places.{in_block, longer_across, longer_on}
use Rattle.mesh_model.specs.Tree.Kinds.{Grid}
use Rattle.mesh_model.specs.Tree.ValidGrid.{Valid}
use Rattle.mesh_model.specs.Fields.ArrayPlaces.{Box, Extents, HoldsEdges, HoldsFaces, IsWritten, edge_extents, extents_of, face_extents, number_at}
use Rattle.mesh_model.specs.Fields.Octants.{half_at}
use Rattle.mesh_model.specs.Fields.Views.{edge_view, face_view}

-- ---- places

-- the sub-cell q by steps on the axes
abbrev pub eighth : ℕ → CellAt
eighth q = record { level = 0; x = q % 2; y = q / 2 % 2; z = q / 4 % 2 }

-- how many finer numbers make up one: eight sub-cells, four subfaces or two halves
abbrev pub fine_count : Var → ℕ
fine_count (Cell v) = 8
fine_count (Face a) = 4
fine_count (Edge a) = 2
fine_count CellWork = 8
fine_count (FaceWork a) = 4
fine_count (EdgeWork a) = 2

-- how many places the q-th of them stands beyond the first on each axis
abbrev pub fine_step : Var → ℕ → CellAt
fine_step (Cell v) q = eighth q
fine_step (Face a) q = quarter a q
fine_step (Edge a) q = step a (q % 2)
fine_step CellWork q = eighth q
fine_step (FaceWork a) q = quarter a q
fine_step (EdgeWork a) q = step a (q % 2)

-- the places along each axis of half a block with h cells there: on faces one more along their axis, on edges one more along the others
abbrev pub half_extents : ℕ → Var → Extents
half_extents h (Cell v) = record { x = h; y = h; z = h }
half_extents h (Face a) = record { x = longer_on a X h; y = longer_on a Y h; z = longer_on a Z h }
half_extents h (Edge a) = record { x = longer_across a X h; y = longer_across a Y h; z = longer_across a Z h }
half_extents h CellWork = record { x = h; y = h; z = h }
half_extents h (FaceWork a) = record { x = longer_on a X h; y = longer_on a Y h; z = longer_on a Z h }
half_extents h (EdgeWork a) = record { x = longer_across a X h; y = longer_across a Y h; z = longer_across a Z h }

-- the octant q of a block in a variable's array, with q = i + 2 j + 4 k for the halves i on x, j on y and k on z
abbrev pub array_octant : ℕ → ℕ → Var → ℕ → Box
array_octant n g var q = record {
  x = g + half_at n q;
  y = g + half_at n (q / 2);
  z = g + half_at n (q / 4);
  along_x = (half_extents (n / 2) var).x;
  along_y = (half_extents (n / 2) var).y;
  along_z = (half_extents (n / 2) var).z;
}

-- ---- sums

-- the sum of the finer numbers of which the first stands at a place
unfoldable pub fine_sum : Var → (ℕ → ℕ → ℕ → ℤ) → ℕ → ℕ → ℕ → ℤ
fine_sum var numbers i j k = sum_below (fine_count var) (λ q. numbers (i + (fine_step var q).x) (j + (fine_step var q).y) (k + (fine_step var q).z))

-- what the place (i, j, k) of an octant gets of the child there
abbrev pub fine_summed : ℕ → Var → (ℕ → ℕ → ℕ → ℤ) → ℕ → ℕ → ℕ → ℤ
fine_summed g var child i j k = fine_sum var child (g + 2 * i) (g + 2 * j) (g + 2 * k)

-- each of these sums is small enough to be stored
abbrev pub FineSumsAreSmall : ℕ → ℕ → Var → (ℕ → ℕ → ℕ → ℤ) → Type 0
FineSumsAreSmall n g var child = (i j k : ℕ) → i < (half_extents (n / 2) var).x → j < (half_extents (n / 2) var).y → k < (half_extents (n / 2) var).z →
    Within (2 ^ 62) (fine_summed g var child i j k)

-- the octant q of a variable's array holds the sums of the child's numbers, and the rest stays
abbrev pub IsSummed : ℕ → ℕ → Var → ℕ → List ℤ → List ℤ → List ℤ → Type 0
IsSummed n g var q child old new = IsWritten (extents_of n g var) (array_octant n g var q) (fine_summed g var (number_at (extents_of n g var) child)) old new

-- ---- octants that hold views

-- the numbers by places of an array of the grid's blocks on the faces normal to an axis, and on the edges along one
abbrev pub faces_in : Grid → Axis → List ℤ → ℕ → ℕ → ℕ → ℤ
faces_in g a xs = number_at (face_extents g.shape.n g.shape.g a) xs

abbrev pub edges_in : Grid → Axis → List ℤ → ℕ → ℕ → ℕ → ℤ
edges_in g a xs = number_at (edge_extents g.shape.n g.shape.g a) xs

-- the octant q of the block holds the views of a field on faces
pub record FaceOctantHolds (g : Grid) (field : FaceAt → ℤ) (a : Axis) (b : BlockAt) (q : ℕ) (numbers : ℕ → ℕ → ℕ → ℤ) : Type 0 where
  pub at : (i j k : ℕ) → i < longer_on a X (g.shape.n / 2) → j < longer_on a Y (g.shape.n / 2) → k < longer_on a Z (g.shape.n / 2) →
      numbers (g.shape.g + half_at g.shape.n q + i) (g.shape.g + half_at g.shape.n (q / 2) + j) (g.shape.g + half_at g.shape.n (q / 4) + k)
      ≡ face_view g field (face_of a (canonical_on g.shape a (in_block g.shape.n b (half_at g.shape.n q + i) (half_at g.shape.n (q / 2) + j) (half_at g.shape.n (q / 4) + k))))

-- ---- what sums make of blocks that hold views of a field on faces, in every valid grid

-- an octant that was set to the sums of a child that holds views holds views
abbrev pub FaceOctantsAreSummed : Type 0
FaceOctantsAreSummed = (g : Grid) (field : FaceAt → ℤ) (a : Axis) (b : BlockAt) (q : ℕ) (child old new : List ℤ) → Valid g →
    IsSummed g.shape.n g.shape.g (Face a) q child old new → HoldsFaces g field a (child_block b q) (faces_in g a child) → FaceOctantHolds g field a b q (faces_in g a new)

-- and the other octants that held views hold them still, those with faces in common among them
abbrev pub FaceOctantsStay : Type 0
FaceOctantsStay = (g : Grid) (field : FaceAt → ℤ) (a : Axis) (b : BlockAt) (q p : ℕ) (child old new : List ℤ) → Valid g → q < 8 → p < 8 → p ≢ q →
    IsSummed g.shape.n g.shape.g (Face a) q child old new → HoldsFaces g field a (child_block b q) (faces_in g a child) →
    FaceOctantHolds g field a b p (faces_in g a old) → FaceOctantHolds g field a b p (faces_in g a new)

-- a block whose eight octants hold views holds views
abbrev pub FaceOctantsMakeBlocks : Type 0
FaceOctantsMakeBlocks = (g : Grid) (field : FaceAt → ℤ) (a : Axis) (b : BlockAt) (numbers : ℕ → ℕ → ℕ → ℤ) → Valid g →
    ((q : ℕ) → q < 8 → FaceOctantHolds g field a b q numbers) → HoldsFaces g field a b numbers

-- ---- and of a field on edges

-- the octant q of the block holds the views of a field on edges
pub record EdgeOctantHolds (g : Grid) (field : EdgeAt → ℤ) (a : Axis) (b : BlockAt) (q : ℕ) (numbers : ℕ → ℕ → ℕ → ℤ) : Type 0 where
  pub at : (i j k : ℕ) → i < longer_across a X (g.shape.n / 2) → j < longer_across a Y (g.shape.n / 2) → k < longer_across a Z (g.shape.n / 2) →
      numbers (g.shape.g + half_at g.shape.n q + i) (g.shape.g + half_at g.shape.n (q / 2) + j) (g.shape.g + half_at g.shape.n (q / 4) + k)
      ≡ edge_view g field (edge_of a (canonical_on g.shape (next a) (canonical_on g.shape (next (next a))
      (in_block g.shape.n b (half_at g.shape.n q + i) (half_at g.shape.n (q / 2) + j) (half_at g.shape.n (q / 4) + k)))))

-- an octant that was set to the sums of a child that holds views holds views
abbrev pub EdgeOctantsAreSummed : Type 0
EdgeOctantsAreSummed = (g : Grid) (field : EdgeAt → ℤ) (a : Axis) (b : BlockAt) (q : ℕ) (child old new : List ℤ) → Valid g →
    IsSummed g.shape.n g.shape.g (Edge a) q child old new → HoldsEdges g field a (child_block b q) (edges_in g a child) → EdgeOctantHolds g field a b q (edges_in g a new)

-- and the other octants that held views hold them still, those with edges in common among them
abbrev pub EdgeOctantsStay : Type 0
EdgeOctantsStay = (g : Grid) (field : EdgeAt → ℤ) (a : Axis) (b : BlockAt) (q p : ℕ) (child old new : List ℤ) → Valid g → q < 8 → p < 8 → p ≢ q →
    IsSummed g.shape.n g.shape.g (Edge a) q child old new → HoldsEdges g field a (child_block b q) (edges_in g a child) →
    EdgeOctantHolds g field a b p (edges_in g a old) → EdgeOctantHolds g field a b p (edges_in g a new)

-- a block whose eight octants hold views holds views
abbrev pub EdgeOctantsMakeBlocks : Type 0
EdgeOctantsMakeBlocks = (g : Grid) (field : EdgeAt → ℤ) (a : Axis) (b : BlockAt) (numbers : ℕ → ℕ → ℕ → ℤ) → Valid g →
    ((q : ℕ) → q < 8 → EdgeOctantHolds g field a b q numbers) → HoldsEdges g field a b numbers
