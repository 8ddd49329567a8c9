-- Worlds whose nodes hold the views of a field.
use Rattle.std.specs.Prelude.{◌≡◌, ℕ, ◌+◌, ◌<◌, ◌↔◌, Bool, true, false, List, length, ℤ, None}
use Rattle.amr_num.specs.declared.Axis.{Axis}
use Rattle.amr_num.specs.declared.Axis.TheVariants.{X, Y, Z}
use Rattle.amr_num.specs.declared.BlockAt.{BlockAt}
use Rattle.amr_num.specs.declared.CellAt.{CellAt}
use Rattle.amr_num.specs.declared.FaceAt.{FaceAt}
use Rattle.amr_num.specs.declared.EdgeAt.{EdgeAt}
use Rattle.amr_num.specs.Numbers.{Within, number_range}
use Rattle.mesh_model.specs.declared.fields.values.Var.{Var}
use Rattle.mesh_model.specs.declared.fields.values.Var.TheVariants.{Cell, Edge, EdgeWork, Face, FaceWork}
use Rattle.mesh_model.specs.Fields.Arrays.{array_in}
use Rattle.mesh_model.specs.Fields.Octants.{cells_of}
use Rattle.mesh_model.specs.Fields.ArrayPlaces.{HoldsEdges, HoldsFaces, HoldsLeafFaces, HoldsViews}
use Rattle.mesh_model.specs.Fields.FinePlaces.{edges_in, faces_in}
use Rattle.mesh_model.specs.Geometry.Canonical.{canonical_on}
use Rattle.mesh_model.specs.Geometry.Coordinates.{edge_of, face_of, next}
use Rattle.mesh_model.specs.Geometry.Places.{in_block, longer_across, longer_on}
use Rattle.mesh_model.specs.Tree.Kinds.{Grid, is_leaf_block, is_leaf_edge, is_leaf_face}
use Rattle.mesh_model.specs.Fields.Plain.{Mesh}
use Rattle.mesh_model.specs.Fields.Valid.{ValidMesh}
use Rattle.mesh_model.specs.Fields.Ranks.{WorldState, rank_at}
use Rattle.block_tree.specs.Numbered.{IsNode, block_at}

-- the array of a cell variable of a node, and its numbers by places
abbrev pub cell_array : WorldState → ℕ → ℕ → List ℤ
cell_array w v node = array_in (rank_at w 0).own.values (Cell v) node

abbrev pub numbers_of : WorldState → ℕ → ℕ → ℕ → ℕ → ℕ → ℤ
numbers_of w v node = cells_of w.told.grid (cell_array w v node)

-- the node is a leaf
pub record IsLeafNode (g : Grid) (node : ℕ) : Type 0 where
  pub there : IsNode g node
  pub leaf : is_leaf_block g (block_at g node) ≡ true

-- a node holds the views of a field; each leaf does, whose views are its contents; each node does
abbrev pub NodeHolds : WorldState → ℕ → (CellAt → ℤ) → ℕ → Type 0
NodeHolds w v content node = HoldsViews w.told.grid content (block_at w.told.grid node) (numbers_of w v node)

abbrev pub LeavesHold : WorldState → ℕ → (CellAt → ℤ) → Type 0
LeavesHold w v content = (node : ℕ) → IsLeafNode w.told.grid node → NodeHolds w v content node

abbrev pub NodesHold : WorldState → ℕ → (CellAt → ℤ) → Type 0
NodesHold w v content = (node : ℕ) → IsNode w.told.grid node → NodeHolds w v content node

-- the array of the faces of a node normal to an axis
abbrev pub face_array : WorldState → Axis → ℕ → List ℤ
face_array w a node = array_in (rank_at w 0).own.values (Face a) node

-- a node holds the views of a field on faces, on its faces normal to each axis, those on its sides among them; each leaf does
abbrev pub NodeHoldsFaces : WorldState → (FaceAt → ℤ) → ℕ → Type 0
NodeHoldsFaces w field node = (a : Axis) → HoldsFaces w.told.grid field a (block_at w.told.grid node) (faces_in w.told.grid a (face_array w a node))

abbrev pub LeavesHoldFaces : WorldState → (FaceAt → ℤ) → Type 0
LeavesHoldFaces w field = (node : ℕ) → IsLeafNode w.told.grid node → NodeHoldsFaces w field node

-- each node does
abbrev pub NodesHoldFaces : WorldState → (FaceAt → ℤ) → Type 0
NodesHoldFaces w field = (node : ℕ) → IsNode w.told.grid node → NodeHoldsFaces w field node

-- each leaf does, so that every copy of a leaf face's number is the field's
abbrev pub LeafFacesHold : WorldState → (FaceAt → ℤ) → Type 0
LeafFacesHold w field = (node : ℕ) (a : Axis) → IsLeafNode w.told.grid node →
    HoldsLeafFaces w.told.grid field a (block_at w.told.grid node) (faces_in w.told.grid a (face_array w a node))

-- ---- edges

-- the arrays of edges along an axis: the work edges, or those of the edge variable; such an array of a node
abbrev pub edge_var : Bool → Axis → Var
edge_var true a = EdgeWork a
edge_var false a = Edge a

abbrev pub edge_array : Bool → WorldState → Axis → ℕ → List ℤ
edge_array work w a node = array_in (rank_at w 0).own.values (edge_var work a) node

-- a node holds the views of a field on edges, on its edges along each axis, those on its sides among them; each leaf does; each node does
abbrev pub NodeHoldsEdges : Bool → WorldState → (EdgeAt → ℤ) → ℕ → Type 0
NodeHoldsEdges work w field node = (a : Axis) → HoldsEdges w.told.grid field a (block_at w.told.grid node) (edges_in w.told.grid a (edge_array work w a node))

abbrev pub LeavesHoldEdges : Bool → WorldState → (EdgeAt → ℤ) → Type 0
LeavesHoldEdges work w field = (node : ℕ) → IsLeafNode w.told.grid node → NodeHoldsEdges work w field node

abbrev pub NodesHoldEdges : WorldState → (EdgeAt → ℤ) → Type 0
NodesHoldEdges w field = (node : ℕ) → IsNode w.told.grid node → NodeHoldsEdges false w field node

-- a block has a field on the leaf edges among its edges along an axis; on its other edges, those with finer leaves round them, it may have anything
pub record HoldsLeafEdges (g : Grid) (field : EdgeAt → ℤ) (a : Axis) (b : BlockAt) (numbers : ℕ → ℕ → ℕ → ℤ) : Type 0 where
  pub at : (i j k : ℕ) → i < longer_across a X g.shape.n → j < longer_across a Y g.shape.n → k < longer_across a Z g.shape.n →
      let e = edge_of a (canonical_on g.shape (next a) (canonical_on g.shape (next (next a)) (in_block g.shape.n b i j k))) in
      is_leaf_edge g e ≡ true → numbers (g.shape.g + i) (g.shape.g + j) (g.shape.g + k) ≡ field e

-- each leaf does, so that every copy of a leaf edge's number is the field's
abbrev pub LeafEdgesHold : Bool → WorldState → (EdgeAt → ℤ) → Type 0
LeafEdgesHold work w field = (node : ℕ) (a : Axis) → IsLeafNode w.told.grid node →
    HoldsLeafEdges w.told.grid field a (block_at w.told.grid node) (edges_in w.told.grid a (edge_array work w a node))

-- ---- faces in either array

-- the arrays of faces normal to an axis: the work faces, or those of the face variable
abbrev pub face_var : Bool → Axis → Var
face_var true a = FaceWork a
face_var false a = Face a

-- such an array of a node
abbrev pub stored : Bool → WorldState → Axis → ℕ → List ℤ
stored work w a node = array_in (rank_at w 0).own.values (face_var work a) node

-- the numbers of one cell variable may be others
pub record OnlyCells (old new : WorldState) (v : ℕ) : Type 0 where
  pub told : new.told ≡ old.told
  pub others : (u : Var) (node : ℕ) → (u ≡ Cell v → ⊥) → array_in (rank_at new 0).own.values u node ≡ array_in (rank_at old 0).own.values u node

-- the numbers of a leaf's cells are at most 2^40 in absolute value
pub record LeafInRange (w : WorldState) (v node : ℕ) : Type 0 where
  pub cells : (i j k : ℕ) → let s = w.told.grid.shape in i < s.n → j < s.n → k < s.n → Within number_range (numbers_of w v node (s.g + i) (s.g + j) (s.g + k))

abbrev pub LeavesInRange : WorldState → Type 0
LeavesInRange w = (v node : ℕ) → v < w.told.counts.cells → IsLeafNode w.told.grid node → LeafInRange w v node

-- the world is that of a mesh: its tree and its variables, and each leaf holds the contents of its cells, and on each of its faces and edges what
-- the face variable and the edge variable have there
pub record IsOfMesh (w : WorldState) (m : Mesh) : Type 0 where
  pub grid : w.told.grid ≡ m.grid
  pub cells : w.told.counts.cells ≡ length m.names.cells
  pub faces : (w.told.counts.faces ≡ 0) ↔ (m.names.face ≡ None)
  pub edges : (w.told.counts.edges ≡ 0) ↔ (m.names.edge ≡ None)
  pub contents : (v : ℕ) → v < w.told.counts.cells → LeavesHold w v (m.cells v)
  pub on_faces : 0 < w.told.counts.faces → LeavesHoldFaces w m.faces
  pub on_edges : 0 < w.told.counts.edges → LeavesHoldEdges false w m.edges

-- the world is that of a valid mesh
pub record IsOfValidMesh (w : WorldState) : Type 0 where
  pub mesh : Mesh
  pub valid : ValidMesh mesh
  pub world : IsOfMesh w mesh

-- ---- changes of arrays that stand one on each axis: of the faces or the edges, or of the work arrays of these

-- those of one node may have other numbers, and all else is as it was; those of all nodes may; those of all leaves may
pub record OnlyAxesOf (var : Axis → Var) (old new : WorldState) (node : ℕ) : Type 0 where
  pub told : new.told ≡ old.told
  pub others : (u : Var) (at : ℕ) → ((a : Axis) → u ≡ var a → at ≡ node → ⊥) → array_in (rank_at new 0).own.values u at ≡ array_in (rank_at old 0).own.values u at

pub record OnlyAxes (var : Axis → Var) (old new : WorldState) : Type 0 where
  pub told : new.told ≡ old.told
  pub others : (u : Var) (at : ℕ) → ((a : Axis) → u ≡ var a → ⊥) → array_in (rank_at new 0).own.values u at ≡ array_in (rank_at old 0).own.values u at

pub record OnlyLeafAxes (var : Axis → Var) (old new : WorldState) : Type 0 where
  pub told : new.told ≡ old.told
  pub others : (u : Var) (at : ℕ) → ((a : Axis) → u ≡ var a → IsLeafNode old.told.grid at → ⊥) → array_in (rank_at new 0).own.values u at ≡ array_in (rank_at old 0).own.values u at
