-- The numbers of new leaves on faces and on edges, from those of old ones: variables with an array on each axis.
use Rattle.std.specs.Prelude.{◌≡◌, ℕ, ◌<◌, nat_lt, length, List, Option, None, if◌then◌else◌, ℤ}
use Rattle.std.specs.Option.{option_map, option_or}
use Rattle.amr_num.specs.declared.Axis.{Axis}
use Rattle.amr_num.specs.declared.BlockAt.{BlockAt}
use Rattle.amr_num.specs.declared.CellAt.{CellAt}
use Rattle.amr_num.specs.declared.FaceAt.{FaceAt}
use Rattle.amr_num.specs.declared.EdgeAt.{EdgeAt}
use Rattle.mesh_model.specs.Tree.Kinds.{Grid, is_leaf_block}
use Rattle.mesh_model.specs.Tree.Order.{nodes}
use Rattle.mesh_model.specs.Fields.ArrayPlaces.{HoldsEdges, HoldsFaces}
use Rattle.mesh_model.specs.Fields.Arrays.{Counts, array_in}
use Rattle.mesh_model.specs.Fields.FinePlaces.{EdgeOctantHolds, FaceOctantHolds, edges_in, faces_in}
use Rattle.mesh_model.specs.Fields.Firsts.{first_below}
use Rattle.mesh_model.specs.Fields.Ranks.{IsFit, WorldState, rank_at}
use Rattle.mesh_model.specs.Fields.Views.{edge_view, face_view}
use Rattle.mesh_model.specs.declared.fields.values.Var.{Var}
use Rattle.mesh_model.specs.declared.fields.values.Var.TheVariants.{Edge, Face}
use Rattle.mesh_model.specs.declared.fields.values.Group.TheVariants as groups
use Rattle.mesh_model.specs.declared.fields.spot.RangeStop.{RangeStop}
use Rattle.mesh_model.specs.declared.fields.spot.Spot.TheVariants as spots
use Rattle.block_tree.specs.Numbered.{block_at}
use Rattle.regrid_move.specs.Near.{AreNear, all_stop}
use Rattle.regrid_move.specs.declared.kinds.Staggered.{Staggered}
use Rattle.regrid_move.specs.declared.kinds.Staggered.TheVariants.{Edges, Faces}
use Rattle.rank_world.specs.EdgeRange as edges
use Rattle.rank_world.specs.FaceRange as faces
use Rattle.rank_world.specs.declared.edges.EdgeAbove.{EdgeAbove}
use Rattle.rank_world.specs.declared.faces.FaceAbove.{FaceAbove}
use Rattle.rank_world.specs.Holding.{IsLeafNode, IsOfValidMesh}

-- ---- the two kinds of numbers

-- the array on an axis; how many variables of the kind there are
abbrev pub var_of : Staggered → Axis → Var
var_of Faces a = Face a
var_of Edges a = Edge a

abbrev pub count_of : Staggered → Counts → ℕ
count_of Faces counts = counts.faces
count_of Edges counts = counts.edges

-- a field on faces, or on edges, and its views
abbrev pub FieldOf : Staggered → Type 0
FieldOf Faces = FaceAt → ℤ
FieldOf Edges = EdgeAt → ℤ

abbrev pub view_of : (k : Staggered) → Grid → FieldOf k → FieldOf k
view_of Faces g field = face_view g field
view_of Edges g field = edge_view g field

-- a node's array on an axis
abbrev pub array_of : Staggered → WorldState → Axis → ℕ → List ℤ
array_of k w a node = array_in (rank_at w 0).own.values (var_of k a) node

-- a block holds the views of a field in its array on an axis; its octant q does
abbrev pub HoldsAxis : (k : Staggered) → Grid → FieldOf k → Axis → BlockAt → List ℤ → Type 0
HoldsAxis Faces g field a b xs = HoldsFaces g field a b (faces_in g a xs)
HoldsAxis Edges g field a b xs = HoldsEdges g field a b (edges_in g a xs)

abbrev pub OctantHoldsAxis : (k : Staggered) → Grid → FieldOf k → Axis → BlockAt → ℕ → List ℤ → Type 0
OctantHoldsAxis Faces g field a b q xs = FaceOctantHolds g field a b q (faces_in g a xs)
OctantHoldsAxis Edges g field a b q xs = EdgeOctantHolds g field a b q (edges_in g a xs)

-- each leaf holds them in its arrays on all axes
abbrev pub LeavesHoldAxes : (k : Staggered) → WorldState → FieldOf k → Type 0
LeavesHoldAxes k w field = (node : ℕ) → IsLeafNode w.told.grid node → (a : Axis) → HoldsAxis k w.told.grid field a (block_at w.told.grid node) (array_of k w a node)

-- a node has a field in its arrays
abbrev pub HasAxes : (k : Staggered) → WorldState → FieldOf k → ℕ → Type 0
HasAxes Faces w field node = faces.HasField w field node
HasAxes Edges w field node = edges.HasEdges w field node

-- ---- moves

-- the variable of the old world may be moved into a leaf of the new one
pub record MayMoveAxes (n g : ℕ) (k : Staggered) (old new : WorldState) (node : ℕ) : Type 0 where
  pub old_fit : IsFit n g old
  pub new_fit : IsFit n g new
  pub declared : 0 < count_of k old.told.counts
  pub counts : new.told.counts ≡ old.told.counts
  pub shape : new.told.grid.shape ≡ old.told.grid.shape
  pub mesh : IsOfValidMesh old
  pub leaf : IsLeafNode new.told.grid node

-- it may be moved into each leaf of the new one, where it is declared
pub record MayMoveAllAxes (n g : ℕ) (old new : WorldState) : Type 0 where
  pub old_fit : IsFit n g old
  pub new_fit : IsFit n g new
  pub counts : new.told.counts ≡ old.told.counts
  pub near : AreNear old.told.grid new.told.grid
  pub mesh : IsOfValidMesh old

-- the node's array on an axis holds the old grid's views of a field, or its octant q does
abbrev pub AxisMoved : (k : Staggered) → WorldState → WorldState → FieldOf k → ℕ → Axis → Type 0
AxisMoved k old new field node a = HoldsAxis k old.told.grid field a (block_at new.told.grid node) (array_of k new a node)

abbrev pub AxisOctantMoved : (k : Staggered) → WorldState → WorldState → FieldOf k → ℕ → ℕ → Axis → Type 0
AxisOctantMoved k old new field node q a = OctantHoldsAxis k old.told.grid field a (block_at new.told.grid node) q (array_of k new a node)

-- so do those on all axes; so do those of each leaf
abbrev pub AxesMoved : (k : Staggered) → WorldState → WorldState → FieldOf k → ℕ → Type 0
AxesMoved k old new field node = (a : Axis) → AxisMoved k old new field node a

abbrev pub LeafAxesMoved : (k : Staggered) → WorldState → WorldState → FieldOf k → Type 0
LeafAxesMoved k old new field = (node : ℕ) → IsLeafNode new.told.grid node → AxesMoved k old new field node

-- ---- views out of range

-- what is told of a leaf face, and of a leaf edge, that is out of range
abbrev pub face_range : FaceAbove → RangeStop
face_range found = record { var = groups.Face; spot = spots.Face found.face; value = found.value }

abbrev pub edge_range : EdgeAbove → RangeStop
edge_range found = record { var = groups.Edge; spot = spots.Edge found.edge; value = found.value }

-- of the first leaf face or leaf edge of a leaf, by what a field has there
abbrev pub first_stop : (k : Staggered) → Grid → FieldOf k → BlockAt → Option RangeStop
first_stop Faces g field b = option_map face_range (faces.first_above g field b)
first_stop Edges g field b = option_map edge_range (edges.first_above g field b)

-- of the first one of a new leaf, by the old grid's views
abbrev pub block_axes_stop : (k : Staggered) → Grid → Grid → FieldOf k → BlockAt → Option RangeStop
block_axes_stop k old new field b = first_stop k new (view_of k old field) b

-- in a node of the new grid where that is a leaf, and in the walk over the leaves
abbrev pub node_axes_stop : (k : Staggered) → Grid → Grid → FieldOf k → ℕ → Option RangeStop
node_axes_stop k old new field node = if is_leaf_block new (block_at new node) then block_axes_stop k old new field (block_at new node) else None

abbrev pub axes_stop : (k : Staggered) → Grid → Grid → FieldOf k → ℕ → Option RangeStop
axes_stop k old new field count = first_below count (node_axes_stop k old new field)

abbrev pub faces_stop : Grid → Grid → (FaceAt → ℤ) → ℕ → Option RangeStop
faces_stop old new field count = axes_stop Faces old new field count

abbrev pub edges_stop : Grid → Grid → (EdgeAt → ℤ) → ℕ → Option RangeStop
edges_stop old new field count = axes_stop Edges old new field count

-- where the variable is declared
abbrev pub declared_stop : (k : Staggered) → Grid → Grid → FieldOf k → Counts → Option RangeStop
declared_stop k old new field counts = if nat_lt 0 (count_of k counts) then axes_stop k old new field (length (nodes new.leaves)) else None

-- ---- of all variables: cells first, then faces and edges where they are declared

abbrev pub values_stop : Grid → Grid → (ℕ → CellAt → ℤ) → (FaceAt → ℤ) → (EdgeAt → ℤ) → Counts → Option RangeStop
values_stop old new contents on_faces on_edges counts =
    option_or (all_stop old new contents counts.cells) (option_or (declared_stop Faces old new on_faces counts) (declared_stop Edges old new on_edges counts))
