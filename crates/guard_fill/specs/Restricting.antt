-- Worlds whose nodes above the leaves are summed from their children.
use Rattle.std.specs.Prelude.{◌≡◌, ℕ, suc, ◌+◌, ◌*◌, ◌/◌, ◌<◌, ◌^◌, true, false, ℤ}
use Rattle.amr_num.specs.declared.Axis.{Axis}
use Rattle.amr_num.specs.declared.BlockAt.{BlockAt}
use Rattle.amr_num.specs.declared.CellAt.{CellAt}
use Rattle.amr_num.specs.declared.FaceAt.{FaceAt}
use Rattle.amr_num.specs.declared.EdgeAt.{EdgeAt}
use Rattle.amr_num.specs.Numbers.{Within, sum_below}
use Rattle.mesh_model.specs.declared.geometry.Shape.{Shape}
use Rattle.mesh_model.specs.declared.fields.values.Group.{Group}
use Rattle.mesh_model.specs.declared.fields.values.Group.TheVariants as groups
use Rattle.mesh_model.specs.declared.fields.values.Var.{Var}
use Rattle.mesh_model.specs.declared.fields.values.Var.TheVariants.{Edge, Face}
use Rattle.mesh_model.specs.Geometry.Blocks.{InDomain, child_block}
use Rattle.mesh_model.specs.Geometry.Places.{in_block}
use Rattle.mesh_model.specs.Tree.Kinds.{Grid, is_split_block}
use Rattle.mesh_model.specs.Fields.Arrays.{Counts, HasVar, array_in}
use Rattle.mesh_model.specs.Fields.ArrayPlaces.{IsSize, extents_of, number_at}
use Rattle.mesh_model.specs.Fields.Octants.{half_at}
use Rattle.mesh_model.specs.Fields.FinePlaces.{fine_count, fine_step, half_extents}
use Rattle.mesh_model.specs.Fields.Ranks.{IsFit, WorldState, rank_at}
use Rattle.block_tree.specs.Numbered.{IsNode, IsNumberOf, block_at}
use Rattle.rank_world.specs.Holding.{IsLeafNode, LeavesHold, LeavesHoldEdges, LeavesHoldFaces, NodesHold, NodesHoldEdges, NodesHoldFaces, OnlyAxes, OnlyCells, cell_array}

-- ---- cells, faces and edges

-- the group is a variable that there is
abbrev pub IsGroupOf : Counts → Group → Type 0
IsGroupOf counts (groups.Cell v) = v < counts.cells
IsGroupOf counts groups.Face = 0 < counts.faces
IsGroupOf counts groups.Edge = 0 < counts.edges

-- a field of the group, by coordinates
abbrev pub FieldOf : Group → Type 0
FieldOf (groups.Cell v) = CellAt → ℤ
FieldOf groups.Face = FaceAt → ℤ
FieldOf groups.Edge = EdgeAt → ℤ

-- each leaf holds the views of a field of the group; each node does
abbrev pub LeavesHoldOf : WorldState → (group : Group) → FieldOf group → Type 0
LeavesHoldOf w (groups.Cell v) content = LeavesHold w v content
LeavesHoldOf w groups.Face field = LeavesHoldFaces w field
LeavesHoldOf w groups.Edge field = LeavesHoldEdges false w field

abbrev pub NodesHoldOf : WorldState → (group : Group) → FieldOf group → Type 0
NodesHoldOf w (groups.Cell v) content = NodesHold w v content
NodesHoldOf w groups.Face field = NodesHoldFaces w field
NodesHoldOf w groups.Edge field = NodesHoldEdges w field

-- the arrays of a cell variable may have other numbers in nodes that are no leaves, and all else is as it was
pub record OnlyParents (old new : WorldState) (v : ℕ) : Type 0 where
  pub only : OnlyCells old new v
  pub leaves : (node : ℕ) → IsLeafNode old.told.grid node → cell_array new v node ≡ cell_array old v node

-- so may arrays that stand one on each axis
pub record OnlyParentAxes (var : Axis → Var) (old new : WorldState) : Type 0 where
  pub only : OnlyAxes var old new
  pub leaves : (a : Axis) (node : ℕ) → IsLeafNode old.told.grid node → array_in (rank_at new 0).own.values (var a) node ≡ array_in (rank_at old 0).own.values (var a) node

abbrev pub OnlyParentsOf : Group → WorldState → WorldState → Type 0
OnlyParentsOf (groups.Cell v) old new = OnlyParents old new v
OnlyParentsOf groups.Face old new = OnlyParentAxes Face old new
OnlyParentsOf groups.Edge old new = OnlyParentAxes Edge old new

-- ---- one array of each node

-- a variable's arrays of a world may be worked on
pub record IsReady (n g : ℕ) (w : WorldState) (var : Var) : Type 0 where
  pub size : IsSize n g
  pub fit : IsFit n g w
  pub variable : HasVar w.told.counts var

-- the variable's arrays may have other numbers in nodes that are no leaves, and all else is as it was
pub record OnlyParentArrays (old new : WorldState) (var : Var) : Type 0 where
  pub told : new.told ≡ old.told
  pub others : (u : Var) (node : ℕ) → (u ≡ var → ⊥) → array_in (rank_at new 0).own.values u node ≡ array_in (rank_at old 0).own.values u node
  pub leaves : (node : ℕ) → IsLeafNode old.told.grid node → array_in (rank_at new 0).own.values var node ≡ array_in (rank_at old 0).own.values var node

-- numbers by coordinates, each of which is the sum of the finer ones that make it up in arrays of the variable: the views of any field are such numbers
pub record AddUp (var : Var) (view : CellAt → ℤ) : Type 0 where
  pub sum : (c : CellAt) → view c ≡ sum_below (fine_count var) (λ q. (let d = fine_step var q in view (record { level = suc c.level; x = 2 * c.x + d.x; y = 2 * c.y + d.y; z = 2 * c.z + d.z })))

-- numbers by places are those of the coordinates in a block
pub record HasViews (s : Shape) (var : Var) (view : CellAt → ℤ) (b : BlockAt) (numbers : ℕ → ℕ → ℕ → ℤ) : Type 0 where
  pub at : (i j k : ℕ) → i < (half_extents s.n var).x → j < (half_extents s.n var).y → k < (half_extents s.n var).z →
      numbers (s.g + i) (s.g + j) (s.g + k) ≡ view (in_block s.n b i j k)

-- so are those of the octant q of a block
pub record OctantHas (s : Shape) (var : Var) (view : CellAt → ℤ) (b : BlockAt) (q : ℕ) (numbers : ℕ → ℕ → ℕ → ℤ) : Type 0 where
  pub at : (i j k : ℕ) → i < (half_extents (s.n / 2) var).x → j < (half_extents (s.n / 2) var).y → k < (half_extents (s.n / 2) var).z →
      numbers (s.g + half_at s.n q + i) (s.g + half_at s.n (q / 2) + j) (s.g + half_at s.n (q / 4) + k) ≡ view (in_block s.n b (half_at s.n q + i) (half_at s.n (q / 2) + j) (half_at s.n (q / 4) + k))

-- the numbers of a node's array, by places
abbrev pub numbers_at : WorldState → Var → ℕ → ℕ → ℕ → ℕ → ℤ
numbers_at w var node = number_at (extents_of w.told.grid.shape.n w.told.grid.shape.g var) (array_in (rank_at w 0).own.values var node)

-- a node has such numbers in its array; each child of a node has; each leaf has; each node has
abbrev pub NodeHas : WorldState → Var → (CellAt → ℤ) → ℕ → Type 0
NodeHas w var view node = HasViews w.told.grid.shape var view (block_at w.told.grid node) (numbers_at w var node)

abbrev pub ChildrenHave : WorldState → Var → (CellAt → ℤ) → ℕ → Type 0
ChildrenHave w var view node = let g = w.told.grid in
    (q child : ℕ) → q < 8 → IsNumberOf g (child_block (block_at g node) q) child → NodeHas w var view child

abbrev pub LeavesHave : WorldState → Var → (CellAt → ℤ) → Type 0
LeavesHave w var view = (node : ℕ) → IsLeafNode w.told.grid node → NodeHas w var view node

abbrev pub NodesHave : WorldState → Var → (CellAt → ℤ) → Type 0
NodesHave w var view = (node : ℕ) → IsNode w.told.grid node → NodeHas w var view node

-- in split blocks they are small enough to be stored
abbrev pub SplitViewsAreSmall : Grid → Var → (CellAt → ℤ) → Type 0
SplitViewsAreSmall g var view = (b : BlockAt) (i j k : ℕ) → is_split_block g b ≡ true → InDomain g.shape b →
    i < (half_extents g.shape.n var).x → j < (half_extents g.shape.n var).y → k < (half_extents g.shape.n var).z → Within (2 ^ 62) (view (in_block g.shape.n b i j k))

-- the leaves have such numbers, which are small enough
pub record HaveSmallViews (w : WorldState) (var : Var) : Type 0 where
  pub view : CellAt → ℤ
  pub sums : AddUp var view
  pub leaves : LeavesHave w var view
  pub small : SplitViewsAreSmall w.told.grid var view
