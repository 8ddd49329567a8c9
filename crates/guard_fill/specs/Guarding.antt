-- Guard places of arrays of faces and of edges.
--
-- Along the axis of a face, and across that of an edge, numbers stand at positions, of which a block has one more than cells: its first position is
-- the last one of the block below, and its last one the first of the block above.
use Rattle.std.specs.Prelude.{◌≡◌, ℕ, ◌+◌, ◌*◌, ◌/◌, ◌%◌, ◌^◌, ◌<◌, Bool, true, false, List, length, ℤ}
use Rattle.amr_num.specs.declared.Axis.{Axis}
use Rattle.amr_num.specs.declared.Axis.TheVariants.{X, Y, Z}
use Rattle.amr_num.specs.declared.BlockAt.{BlockAt}
use Rattle.amr_num.specs.declared.CellAt.{CellAt}
use Rattle.amr_num.specs.declared.FaceAt.{FaceAt}
use Rattle.amr_num.specs.declared.EdgeAt.{EdgeAt}
use Rattle.mesh_model.specs.declared.geometry.Shape.{Shape}
use Rattle.mesh_model.specs.declared.fields.values.Group.{Group}
use Rattle.mesh_model.specs.declared.fields.values.Group.TheVariants as groups
use Rattle.mesh_model.specs.declared.fields.values.Var.{Var}
use Rattle.mesh_model.specs.declared.fields.values.Var.TheVariants.{Cell, CellWork, Edge, EdgeWork, Face, FaceWork}
use Rattle.mesh_model.specs.Geometry.Coordinates.{edge_of, extent, face_of, is_periodic, roots}
use Rattle.mesh_model.specs.Geometry.Places.{guard_index, in_block}
use Rattle.mesh_model.specs.Fields.Arrays.{array_in}
use Rattle.mesh_model.specs.Fields.ArrayPlaces.{HoldsEdgeGuards, HoldsFaceGuards, IsInBox, extents_of, number_at}
use Rattle.mesh_model.specs.Fields.FinePlaces.{edges_in, faces_in, half_extents}
use Rattle.mesh_model.specs.Fields.Ranks.{WorldState, rank_at}
use Rattle.mesh_model.specs.Fields.Views.{edge_view, face_view}
use Rattle.block_tree.specs.Numbered.{block_at}
use Rattle.rank_world.specs.Holding.{IsLeafNode, IsOfValidMesh, LeavesHoldEdges, LeavesHoldFaces, edge_array, face_array}
use Rattle.guard_fill.specs.declared.strips.Patch.{Patch}
use Rattle.guard_fill.specs.Filling.{LeavesGuarded, OnlyGuards}
use Rattle.guard_fill.specs.Restricting.{FieldOf, NodesHave}
use Rattle.guard_fill.specs.Strips.{IsReach, block_of, box_of, brought_to, cell_at, named, one_more, side_at}

-- ---- positions

-- numbers stand at positions along an axis in the arrays of faces normal to it and of edges along another
abbrev pub is_same : Axis → Axis → Bool
is_same X X = true
is_same X Y = false
is_same X Z = false
is_same Y X = false
is_same Y Y = true
is_same Y Z = false
is_same Z X = false
is_same Z Y = false
is_same Z Z = true

abbrev pub is_other : Axis → Axis → Bool
is_other X X = false
is_other X Y = true
is_other X Z = true
is_other Y X = true
is_other Y Y = false
is_other Y Z = true
is_other Z X = true
is_other Z Y = true
is_other Z Z = false

abbrev pub at_positions : Var → Axis → Bool
at_positions (Cell v) x = false
at_positions CellWork x = false
at_positions (Face a) x = is_same a x
at_positions (FaceWork a) x = is_same a x
at_positions (Edge a) x = is_other a x
at_positions (EdgeWork a) x = is_other a x

-- the coordinates that stand for a place of a block, and the canonical ones of a place in the domain
abbrev pub there_in : ℕ → ℕ → Shape → Var → BlockAt → ℕ → ℕ → ℕ → CellAt
there_in n g s var b i j k = record {
  level = b.level;
  x = brought_to (at_positions var X) (is_periodic s X) (extent s X b.level) (guard_index n g b.x i);
  y = brought_to (at_positions var Y) (is_periodic s Y) (extent s Y b.level) (guard_index n g b.y j);
  z = brought_to (at_positions var Z) (is_periodic s Z) (extent s Z b.level) (guard_index n g b.z k);
}

abbrev pub canon : Shape → Var → CellAt → CellAt
canon s var c = record {
  level = c.level;
  x = named (at_positions var X) (is_periodic s X) (extent s X c.level) c.x;
  y = named (at_positions var Y) (is_periodic s Y) (extent s Y c.level) c.y;
  z = named (at_positions var Z) (is_periodic s Z) (extent s Z c.level) c.z;
}

-- ---- strips

-- the patch has the places of a direction
pub record AreReaches (n g : ℕ) (s : Shape) (var : Var) (b : BlockAt) (d : ℕ) (p : Patch) : Type 0 where
  pub x : IsReach n g (at_positions var X) (is_periodic s X) (roots s X * 2 ^ b.level) b.x (d % 3) p.x
  pub y : IsReach n g (at_positions var Y) (is_periodic s Y) (roots s Y * 2 ^ b.level) b.y (d / 3 % 3) p.y
  pub z : IsReach n g (at_positions var Z) (is_periodic s Z) (roots s Z * 2 ^ b.level) b.z (d / 9) p.z

-- the direction of a place
abbrev pub direction_in : Var → ℕ → ℕ → ℕ → ℕ → ℕ → ℕ
direction_in var n g i j k = side_at (one_more (at_positions var X) n) g i + 3 * side_at (one_more (at_positions var Y) n) g j + 9 * side_at (one_more (at_positions var Z) n) g k

-- ---- what places get

-- the arrays of faces or edges of a variable that there is
abbrev pub IsField : Var → Type 0
IsField (Face a) = Unit {0}
IsField (Edge a) = Unit {0}
IsField (Cell v) = ⊥
IsField CellWork = ⊥
IsField (FaceWork a) = ⊥
IsField (EdgeWork a) = ⊥

-- views by coordinates: those of a field that the leaves hold
abbrev pub AreViews : WorldState → Var → (CellAt → ℤ) → Type 0
AreViews w (Face a) view = (field : FaceAt → ℤ) × LeavesHoldFaces w field × ((c : CellAt) → view c ≡ face_view w.told.grid field (face_of a c))
AreViews w (Edge a) view = (field : EdgeAt → ℤ) × LeavesHoldEdges false w field × ((c : CellAt) → view c ≡ edge_view w.told.grid field (edge_of a c))
AreViews w (Cell v) view = ⊥
AreViews w CellWork view = ⊥
AreViews w (FaceWork a) view = ⊥
AreViews w (EdgeWork a) view = ⊥

-- and the nodes
pub record AreNodeViews (w : WorldState) (var : Var) (view : CellAt → ℤ) : Type 0 where
  pub views : AreViews w var view
  pub nodes : NodesHave w var (λ c. view (canon w.told.grid.shape var c))

-- the places of a patch have the views of the places from which they have their numbers, and all others are as they were
pub record IsSpread (n g : ℕ) (w : WorldState) (var : Var) (level : ℕ) (p : Patch) (old new : List ℤ) : Type 0 where
  pub size : length new ≡ length old
  pub stays : (i j k : ℕ) → let e = extents_of n g var in i < e.x → j < e.y → k < e.z → (IsInBox (box_of p) i j k → ⊥) → number_at e new i j k ≡ number_at e old i j k
  pub views : (view : CellAt → ℤ) → AreNodeViews w var view → (i j k : ℕ) → i < p.x.many → j < p.y.many → k < p.z.many →
      number_at (extents_of n g var) new (p.x.to + i) (p.y.to + j) (p.z.to + k) ≡ view (canon w.told.grid.shape var (in_block n (block_of level p) (cell_at p.x i) (cell_at p.y j) (cell_at p.z k)))

-- the places of a block in the direction d have the views that belong there, and all others are as they were
pub record IsSpreadTo (n g : ℕ) (w : WorldState) (var : Var) (b : BlockAt) (d : ℕ) (old new : List ℤ) : Type 0 where
  pub size : length new ≡ length old
  pub stays : (i j k : ℕ) → let e = extents_of n g var in i < e.x → j < e.y → k < e.z → (direction_in var n g i j k ≡ d → ⊥) → number_at e new i j k ≡ number_at e old i j k
  pub guards : (view : CellAt → ℤ) → AreNodeViews w var view → (i j k : ℕ) → let e = extents_of n g var in i < e.x → j < e.y → k < e.z → direction_in var n g i j k ≡ d →
      number_at e new i j k ≡ view (there_in n g w.told.grid.shape var b i j k)

-- an array has a leaf's own numbers on its own places, and on those of the first d directions the views that belong there
pub record IsReachedTo (n g : ℕ) (w : WorldState) (var : Var) (node d : ℕ) (xs : List ℤ) : Type 0 where
  pub size : length xs ≡ length (array_in (rank_at w 0).own.values var node)
  pub own : (i j k : ℕ) → let e = extents_of n g var in let m = half_extents n var in i < m.x → j < m.y → k < m.z →
      number_at e xs (g + i) (g + j) (g + k) ≡ number_at e (array_in (rank_at w 0).own.values var node) (g + i) (g + j) (g + k)
  pub guards : (view : CellAt → ℤ) → AreNodeViews w var view → (i j k : ℕ) → let e = extents_of n g var in i < e.x → j < e.y → k < e.z → direction_in var n g i j k < d →
      number_at e xs i j k ≡ view (there_in n g w.told.grid.shape var (block_at w.told.grid node) i j k)

-- a node has on all its places, guards included, the views at the coordinates that stand for them; each leaf has
pub record NodeReached (w : WorldState) (var : Var) (view : CellAt → ℤ) (node : ℕ) : Type 0 where
  pub at : (i j k : ℕ) → let s = w.told.grid.shape in let e = extents_of s.n s.g var in i < e.x → j < e.y → k < e.z →
      number_at e (array_in (rank_at w 0).own.values var node) i j k ≡ view (there_in s.n s.g s var (block_at w.told.grid node) i j k)

abbrev pub LeavesReached : WorldState → Var → (CellAt → ℤ) → Type 0
LeavesReached w var view = (node : ℕ) → IsLeafNode w.told.grid node → NodeReached w var view node

-- the variable's arrays may have other numbers on the guard places of leaves, and all else is as it was
pub record OnlyGuardPlaces (old new : WorldState) (var : Var) : Type 0 where
  pub told : new.told ≡ old.told
  pub others : (u : Var) (node : ℕ) → (u ≡ var → IsLeafNode old.told.grid node → ⊥) → array_in (rank_at new 0).own.values u node ≡ array_in (rank_at old 0).own.values u node
  pub own : (node i j k : ℕ) → let s = old.told.grid.shape in let e = extents_of s.n s.g var in let m = half_extents s.n var in IsLeafNode old.told.grid node → i < m.x → j < m.y → k < m.z →
      number_at e (array_in (rank_at new 0).own.values var node) (s.g + i) (s.g + j) (s.g + k) ≡ number_at e (array_in (rank_at old 0).own.values var node) (s.g + i) (s.g + j) (s.g + k)

-- ---- of each group

-- so may arrays that stand one on each axis
pub record OnlyGuardAxes (var : Axis → Var) (old new : WorldState) : Type 0 where
  pub told : new.told ≡ old.told
  pub others : (u : Var) (node : ℕ) → ((a : Axis) → u ≡ var a → IsLeafNode old.told.grid node → ⊥) → array_in (rank_at new 0).own.values u node ≡ array_in (rank_at old 0).own.values u node
  pub own : (a : Axis) (node i j k : ℕ) → let s = old.told.grid.shape in let e = extents_of s.n s.g (var a) in let m = half_extents s.n (var a) in IsLeafNode old.told.grid node → i < m.x → j < m.y → k < m.z →
      number_at e (array_in (rank_at new 0).own.values (var a) node) (s.g + i) (s.g + j) (s.g + k) ≡ number_at e (array_in (rank_at old 0).own.values (var a) node) (s.g + i) (s.g + j) (s.g + k)

abbrev pub OnlyGuardsOf : Group → WorldState → WorldState → Type 0
OnlyGuardsOf (groups.Cell v) old new = OnlyGuards old new v
OnlyGuardsOf groups.Face old new = OnlyGuardAxes Face old new
OnlyGuardsOf groups.Edge old new = OnlyGuardAxes Edge old new

-- a child of a leaf is made from faces or edges of a valid mesh
abbrev pub HasMesh : Group → WorldState → Type 0
HasMesh (groups.Cell v) w = Unit {0}
HasMesh groups.Face w = IsOfValidMesh w
HasMesh groups.Edge w = IsOfValidMesh w

-- each leaf has on all its places, guards included, the views of a field
abbrev pub LeavesGuardedFaces : WorldState → (FaceAt → ℤ) → Type 0
LeavesGuardedFaces w field = (node : ℕ) (a : Axis) → IsLeafNode w.told.grid node → HoldsFaceGuards w.told.grid field a (block_at w.told.grid node) (faces_in w.told.grid a (face_array w a node))

abbrev pub LeavesGuardedEdges : WorldState → (EdgeAt → ℤ) → Type 0
LeavesGuardedEdges w field = (node : ℕ) (a : Axis) → IsLeafNode w.told.grid node → HoldsEdgeGuards w.told.grid field a (block_at w.told.grid node) (edges_in w.told.grid a (edge_array false w a node))

abbrev pub LeavesGuardedOf : WorldState → (group : Group) → FieldOf group → Type 0
LeavesGuardedOf w (groups.Cell v) content = LeavesGuarded w v content
LeavesGuardedOf w groups.Face field = LeavesGuardedFaces w field
LeavesGuardedOf w groups.Edge field = LeavesGuardedEdges w field
