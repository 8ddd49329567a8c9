-- The arrays of a block: which coordinate stands at which place, and what an array holds of a field. A place has three numbers, one an axis, which
-- count guard cells too; an array lists its places x fastest, then y, then z.
use Rattle.std.specs.Prelude.{◌≡◌, ℕ, ◌+◌, ◌*◌, ◌/◌, ◌%◌, ◌<◌, ◌≤◌, ◌⊎◌, true, List, length, ℤ, pos, ◌+ℤ◌, unsigned_abs, slice_index_or}
use Rattle.amr_num.specs.declared.Axis.{Axis}
use Rattle.amr_num.specs.declared.Axis.TheVariants.{X, Y, Z}
use Rattle.amr_num.specs.declared.BlockAt.{BlockAt}
use Rattle.amr_num.specs.declared.CellAt.{CellAt}
use Rattle.amr_num.specs.declared.FaceAt.{FaceAt}
use Rattle.amr_num.specs.declared.EdgeAt.{EdgeAt}
use Rattle.mesh_model.specs.declared.geometry.Shape.{Shape}
use Rattle.mesh_model.specs.declared.fields.values.Var.{Var}
use Rattle.mesh_model.specs.declared.fields.values.Var.TheVariants.{Cell, Face, Edge, CellWork, FaceWork, EdgeWork}
use Rattle.mesh_model.specs.Geometry.Coordinates.{face_of, edge_of, next}
use Rattle.mesh_model.specs.Geometry.Outside.{inside_cell, inside_face, inside_edge}
use Rattle.mesh_model.specs.Tree.Kinds.{Grid, is_leaf_face}
use Rattle.mesh_model.specs.Geometry.Places.{guard_index, in_block, longer_across, longer_on}
use Rattle.mesh_model.specs.Geometry.Canonical.{canonical_on}
use Rattle.mesh_model.specs.Fields.Views.{cell_view, face_view, edge_view}

-- the sizes that blocks have: n cells along each axis, and g guard cells on each side of them
pub record IsSize (n g : ℕ) : Type 0 where
  pub cells : (n ≡ 4) ⊎ (n ≡ 8)
  pub guards : (g ≡ 1) ⊎ ((g ≡ 2) ⊎ (g ≡ 4))

-- ---- places

-- how many places an array has along each axis
pub record Extents : Type 0 where
  pub x : ℕ
  pub y : ℕ
  pub z : ℕ

-- how many it has in all
abbrev pub size_of : Extents → ℕ
size_of e = e.x * (e.y * e.z)

-- the cells along an axis with the guard cells on both sides
abbrev pub side : ℕ → ℕ → ℕ
side n g = n + 2 * g

-- an array of cells; one of the faces normal to an axis has one place more along it, and one of the edges along an axis one more along the others
abbrev pub cell_extents : ℕ → ℕ → Extents
cell_extents n g = record { x = side n g; y = side n g; z = side n g }

abbrev pub face_extents : ℕ → ℕ → Axis → Extents
face_extents n g a = record { x = longer_on a X (side n g); y = longer_on a Y (side n g); z = longer_on a Z (side n g) }

abbrev pub edge_extents : ℕ → ℕ → Axis → Extents
edge_extents n g a = record { x = longer_across a X (side n g); y = longer_across a Y (side n g); z = longer_across a Z (side n g) }

abbrev pub extents_of : ℕ → ℕ → Var → Extents
extents_of n g (Cell v) = cell_extents n g
extents_of n g (Face a) = face_extents n g a
extents_of n g (Edge a) = edge_extents n g a
extents_of n g CellWork = cell_extents n g
extents_of n g (FaceWork a) = face_extents n g a
extents_of n g (EdgeWork a) = edge_extents n g a

-- where the place (i, j, k) stands in the list
unfoldable pub place_in : Extents → ℕ → ℕ → ℕ → ℕ
place_in e i j k = i + e.x * (j + e.y * k)

-- the number at a place
abbrev pub number_at : Extents → List ℤ → ℕ → ℕ → ℕ → ℤ
number_at e xs i j k = slice_index_or xs (place_in e i j k) (pos 0)

-- the place of a block index, which counts from the first cell on and is below 0 in the guards before it
abbrev pub place_of : ℕ → ℤ → ℕ
place_of g i = unsigned_abs (i +ℤ pos g)

-- a block index on an axis with so many places
pub record IsIndex (g many : ℕ) (i : ℤ) : Type 0 where
  pub from_first : pos (place_of g i) ≡ i +ℤ pos g
  pub inside : place_of g i < many

-- three block indices of an array
pub record AreIndices (g : ℕ) (e : Extents) (i j k : ℤ) : Type 0 where
  pub x : IsIndex g e.x i
  pub y : IsIndex g e.y j
  pub z : IsIndex g e.z k

-- the number at block indices
abbrev pub number_of : ℕ → Extents → List ℤ → ℤ → ℤ → ℤ → ℤ
number_of g e xs i j k = number_at e xs (place_of g i) (place_of g j) (place_of g k)

-- ---- boxes of places

-- so many places along each axis, from a place on
pub record Box : Type 0 where
  pub x : ℕ
  pub y : ℕ
  pub z : ℕ
  pub along_x : ℕ
  pub along_y : ℕ
  pub along_z : ℕ

-- the place lies in the box
pub record IsInBox (b : Box) (i j k : ℕ) : Type 0 where
  pub x : (b.x ≤ i) × (i < b.x + b.along_x)
  pub y : (b.y ≤ j) × (j < b.y + b.along_y)
  pub z : (b.z ≤ k) × (k < b.z + b.along_z)

-- the box lies within an array
pub record Fits (e : Extents) (b : Box) : Type 0 where
  pub x : b.x + b.along_x ≤ e.x
  pub y : b.y + b.along_y ≤ e.y
  pub z : b.z + b.along_z ≤ e.z

-- the cells of a block, without its guards
abbrev pub interior : ℕ → ℕ → Box
interior n g = record { x = g; y = g; z = g; along_x = n; along_y = n; along_z = n }

-- each place of the box has the number that is wanted there, and all others have what they had
pub record IsWritten (e : Extents) (b : Box) (wanted : ℕ → ℕ → ℕ → ℤ) (old new : List ℤ) : Type 0 where
  pub size : length new ≡ length old
  pub written : (i j k : ℕ) → i < b.along_x → j < b.along_y → k < b.along_z → number_at e new (b.x + i) (b.y + j) (b.z + k) ≡ wanted i j k
  pub stays : (i j k : ℕ) → i < e.x → j < e.y → k < e.z → (IsInBox b i j k → ⊥) → number_at e new i j k ≡ number_at e old i j k

-- so many numbers of a list from a place on are those that are wanted, and all others are what they were: a row of a box
pub record IsRowWritten (start many : ℕ) (wanted : ℕ → ℤ) (old new : List ℤ) : Type 0 where
  pub size : length new ≡ length old
  pub here : (t : ℕ) → t < many → slice_index_or new (start + t) (pos 0) ≡ wanted t
  pub below : (p : ℕ) → p < start → slice_index_or new p (pos 0) ≡ slice_index_or old p (pos 0)
  pub above : (p : ℕ) → start + many ≤ p → slice_index_or new p (pos 0) ≡ slice_index_or old p (pos 0)

-- where the m-th row of a box begins: rows go over y first, then over z
abbrev pub row_of : Extents → Box → ℕ → ℕ
row_of e b m = place_in e b.x (b.y + m % b.along_y) (b.z + m / b.along_y)

-- the first m rows of a box are written, and its others are as they were
pub record AreRowsWritten (m : ℕ) (e : Extents) (b : Box) (wanted : ℕ → ℕ → ℕ → ℤ) (old new : List ℤ) : Type 0 where
  pub size : length new ≡ length old
  pub written : (i j k : ℕ) → i < b.along_x → j < b.along_y → j + b.along_y * k < m → number_at e new (b.x + i) (b.y + j) (b.z + k) ≡ wanted i j k
  pub waits : (i j k : ℕ) → i < b.along_x → j < b.along_y → k < b.along_z → m ≤ j + b.along_y * k →
      number_at e new (b.x + i) (b.y + j) (b.z + k) ≡ number_at e old (b.x + i) (b.y + j) (b.z + k)
  pub stays : (i j k : ℕ) → i < e.x → j < e.y → k < e.z → (IsInBox b i j k → ⊥) → number_at e new i j k ≡ number_at e old i j k

-- ---- what an array holds of a field

-- the cell, the face and the edge that stand for a place of a block, guards included: wrapped on a periodic axis and clamped on another
abbrev pub cell_there : Shape → BlockAt → ℕ → ℕ → ℕ → CellAt
cell_there s b i j k = inside_cell s b.level (guard_index s.n s.g b.x i) (guard_index s.n s.g b.y j) (guard_index s.n s.g b.z k)

abbrev pub face_there : Shape → Axis → BlockAt → ℕ → ℕ → ℕ → FaceAt
face_there s a b i j k = inside_face s a b.level (guard_index s.n s.g b.x i) (guard_index s.n s.g b.y j) (guard_index s.n s.g b.z k)

abbrev pub edge_there : Shape → Axis → BlockAt → ℕ → ℕ → ℕ → EdgeAt
edge_there s a b i j k = inside_edge s a b.level (guard_index s.n s.g b.x i) (guard_index s.n s.g b.y j) (guard_index s.n s.g b.z k)

-- numbers by places hold the views of a field on the cells of a block
pub record HoldsViews (g : Grid) (content : CellAt → ℤ) (b : BlockAt) (numbers : ℕ → ℕ → ℕ → ℤ) : Type 0 where
  pub at : (i j k : ℕ) → i < g.shape.n → j < g.shape.n → k < g.shape.n →
      numbers (g.shape.g + i) (g.shape.g + j) (g.shape.g + k) ≡ cell_view g content (in_block g.shape.n b i j k)

-- and on all its places, guards included
pub record HoldsGuards (g : Grid) (content : CellAt → ℤ) (b : BlockAt) (numbers : ℕ → ℕ → ℕ → ℤ) : Type 0 where
  pub at : (i j k : ℕ) → i < side g.shape.n g.shape.g → j < side g.shape.n g.shape.g → k < side g.shape.n g.shape.g →
      numbers i j k ≡ cell_view g content (cell_there g.shape b i j k)

-- a field on faces, on the faces of the block normal to an axis, those on its sides among them, by their canonical names
pub record HoldsFaceField (g : Grid) (field : FaceAt → ℤ) (a : Axis) (b : BlockAt) (numbers : ℕ → ℕ → ℕ → ℤ) : Type 0 where
  pub at : (i j k : ℕ) → i < longer_on a X g.shape.n → j < longer_on a Y g.shape.n → k < longer_on a Z g.shape.n →
      numbers (g.shape.g + i) (g.shape.g + j) (g.shape.g + k) ≡ field (face_of a (canonical_on g.shape a (in_block g.shape.n b i j k)))

-- the views of such a field
abbrev pub HoldsFaces : Grid → (FaceAt → ℤ) → Axis → BlockAt → (ℕ → ℕ → ℕ → ℤ) → Type 0
HoldsFaces g field a b numbers = HoldsFaceField g (face_view g field) a b numbers

-- a field on the leaf faces among them; on its other faces, those with finer leaves beside them, the block may have anything
pub record HoldsLeafFaces (g : Grid) (field : FaceAt → ℤ) (a : Axis) (b : BlockAt) (numbers : ℕ → ℕ → ℕ → ℤ) : Type 0 where
  pub at : (i j k : ℕ) → i < longer_on a X g.shape.n → j < longer_on a Y g.shape.n → k < longer_on a Z g.shape.n →
      let f = face_of a (canonical_on g.shape a (in_block g.shape.n b i j k)) in
      is_leaf_face g f ≡ true → numbers (g.shape.g + i) (g.shape.g + j) (g.shape.g + k) ≡ field f

-- the views of a field on all its places, guards included
pub record HoldsFaceGuards (g : Grid) (field : FaceAt → ℤ) (a : Axis) (b : BlockAt) (numbers : ℕ → ℕ → ℕ → ℤ) : Type 0 where
  pub at : (i j k : ℕ) → let e = face_extents g.shape.n g.shape.g a in i < e.x → j < e.y → k < e.z → numbers i j k ≡ face_view g field (face_there g.shape a b i j k)

-- a field on edges, on the edges of the block along an axis, those on its sides among them, by their canonical names
pub record HoldsEdgeField (g : Grid) (field : EdgeAt → ℤ) (a : Axis) (b : BlockAt) (numbers : ℕ → ℕ → ℕ → ℤ) : Type 0 where
  pub at : (i j k : ℕ) → i < longer_across a X g.shape.n → j < longer_across a Y g.shape.n → k < longer_across a Z g.shape.n →
      numbers (g.shape.g + i) (g.shape.g + j) (g.shape.g + k)
      ≡ field (edge_of a (canonical_on g.shape (next a) (canonical_on g.shape (next (next a)) (in_block g.shape.n b i j k))))

-- the views of such a field
abbrev pub HoldsEdges : Grid → (EdgeAt → ℤ) → Axis → BlockAt → (ℕ → ℕ → ℕ → ℤ) → Type 0
HoldsEdges g field a b numbers = HoldsEdgeField g (edge_view g field) a b numbers

pub record HoldsEdgeGuards (g : Grid) (field : EdgeAt → ℤ) (a : Axis) (b : BlockAt) (numbers : ℕ → ℕ → ℕ → ℤ) : Type 0 where
  pub at : (i j k : ℕ) → let e = edge_extents g.shape.n g.shape.g a in i < e.x → j < e.y → k < e.z → numbers i j k ≡ edge_view g field (edge_there g.shape a b i j k)
