-- The numbers of leaves' arrays, at interior places: where they stand, and what they are of a mesh.
use Rattle.std.specs.Prelude.{◌≡◌, ℕ, ◌+◌, ◌*◌, ◌<◌, true, List, [], ◌∷◌, ℤ, pos}
use Rattle.amr_num.specs.declared.Axis.{Axis}
use Rattle.amr_num.specs.declared.Axis.TheVariants.{X, Y, Z}
use Rattle.amr_num.specs.declared.BlockAt.{BlockAt}
use Rattle.mesh_model.specs.declared.fields.values.Group.{Group}
use Rattle.mesh_model.specs.declared.fields.values.Group.TheVariants as group
use Rattle.mesh_model.specs.declared.fields.values.Var.{Var}
use Rattle.mesh_model.specs.declared.fields.values.Var.TheVariants.{Cell, Face, Edge, CellWork, FaceWork, EdgeWork}
use Rattle.mesh_model.specs.Geometry.Coordinates.{edge_of, face_of}
use Rattle.mesh_model.specs.Geometry.Canonical.{canonical_edge, canonical_face}
use Rattle.mesh_model.specs.Geometry.Places.{in_block, longer_across, longer_on}
use Rattle.mesh_model.specs.Tree.Kinds.{Grid, is_leaf_block}
use Rattle.mesh_model.specs.Fields.Plain.{Mesh}
use Rattle.mesh_model.specs.Fields.Views.{edge_view, face_view}
use Rattle.block_tree.specs.Numbered.{IsNode, block_at}

-- the axes for which a group has an array each; a cell variable has one array
abbrev pub axes_of : Group → List Axis
axes_of (group.Cell v) = X ∷ []
axes_of group.Face = X ∷ Y ∷ Z ∷ []
axes_of group.Edge = X ∷ Y ∷ Z ∷ []

-- the array of a group for an axis
abbrev pub array_on : Group → Axis → Var
array_on (group.Cell v) a = Cell v
array_on group.Face a = Face a
array_on group.Edge a = Edge a

-- how many interior places an array has along an axis, where blocks have n cells: faces one more along their normal, and edges one more
-- across their own axis
abbrev pub places_along : ℕ → Var → Axis → ℕ
places_along n (Cell v) b = n
places_along n (Face a) b = longer_on a b n
places_along n (Edge a) b = longer_across a b n
places_along n CellWork b = n
places_along n (FaceWork a) b = longer_on a b n
places_along n (EdgeWork a) b = longer_across a b n

-- (i, j, k) is a place of an array, counted from its first one, in blocks of n cells with so many guard places at each end of each axis
pub record IsPlace (n guards : ℕ) (var : Var) (i j k : ℕ) : Type 0 where
  pub x : i < places_along n var X + 2 * guards
  pub y : j < places_along n var Y + 2 * guards
  pub z : k < places_along n var Z + 2 * guards

-- what a mesh has at the place (i, j, k) of a leaf's array for an axis: the content of a cell, or the view of a face or of an edge
abbrev pub interior_value : Mesh → Group → Axis → BlockAt → ℕ → ℕ → ℕ → ℤ
interior_value m (group.Cell v) a b i j k = m.cells v (in_block m.grid.shape.n b i j k)
interior_value m group.Face a b i j k = face_view m.grid m.faces (canonical_face m.grid.shape (face_of a (in_block m.grid.shape.n b i j k)))
interior_value m group.Edge a b i j k =
    edge_view m.grid m.edges (canonical_edge m.grid.shape (edge_of a (in_block m.grid.shape.n b i j k)))

-- at each interior place of the group's arrays, on each leaf, there is a number
pub record HasInterior (is_there : Var → ℕ → ℤ → ℤ → ℤ → Type 0) (g : Grid) (group : Group) : Type 0 where
  pub each : (node : ℕ) → IsNode g node → is_leaf_block g (block_at g node) ≡ true
      → (a : Axis) (i j k : ℕ) → IsPlace g.shape.n 0 (array_on group a) i j k
      → is_there (array_on group a) node (pos i) (pos j) (pos k)

-- these numbers are what the mesh has there
pub record HasViews (number : Var → ℕ → ℤ → ℤ → ℤ → ℤ) (m : Mesh) (group : Group) : Type 0 where
  pub each : (node : ℕ) → IsNode m.grid node → is_leaf_block m.grid (block_at m.grid node) ≡ true
      → (a : Axis) (i j k : ℕ) → IsPlace m.grid.shape.n 0 (array_on group a) i j k
      → number (array_on group a) node (pos i) (pos j) (pos k) ≡ interior_value m group a (block_at m.grid node) i j k
