-- Grids whose leaves lie near each other's, and worlds whose leaves hold what they are to hold.
use Rattle.std.specs.Prelude.{◌≡◌, ℕ, ◌<◌, ◌⊎◌, ◌^◌, ℤ, length, Option, None, Some, if◌then◌else◌}
use Rattle.amr_num.specs.declared.BlockAt.{BlockAt}
use Rattle.amr_num.specs.declared.CellAt.{CellAt}
use Rattle.mesh_model.specs.Geometry.Blocks.{child_block, parent_block}
use Rattle.mesh_model.specs.Tree.Order.{IsIn, nodes}
use Rattle.mesh_model.specs.Fields.Octants.{OctantHolds}
use Rattle.mesh_model.specs.Fields.ArrayPlaces.{HoldsViews}
use Rattle.mesh_model.specs.Tree.Kinds.{Grid, is_leaf_block}
use Rattle.mesh_model.specs.Fields.Firsts.{first_below, first_in_box}
use Rattle.mesh_model.specs.Geometry.Places.{in_block}
use Rattle.mesh_model.specs.Fields.RangeWalk.{is_above}
use Rattle.mesh_model.specs.declared.fields.values.Group.TheVariants as groups
use Rattle.mesh_model.specs.declared.fields.spot.RangeStop.{RangeStop}
use Rattle.mesh_model.specs.declared.fields.spot.Spot.TheVariants as spots
use Rattle.mesh_model.specs.Fields.Ranks.{IsFit, WorldState}
use Rattle.mesh_model.specs.Fields.Views.{cell_view}
use Rattle.block_tree.specs.Numbered.{block_at}
use Rattle.rank_world.specs.Holding.{IsLeafNode, LeavesInRange, numbers_of}

-- a block is a leaf of the old grid, or its parent is, or its eight children are
pub record IsNear (old : Grid) (b : BlockAt) : Type 0 where
  pub which : IsIn b old.leaves ⊎ (((0 < b.level) × IsIn (parent_block b) old.leaves) ⊎ ((q : ℕ) → q < 8 → IsIn (child_block b q) old.leaves))

-- the new grid has the old one's shape, and each of its leaves is near
pub record AreNear (old new : Grid) : Type 0 where
  pub shape : new.shape ≡ old.shape
  pub each : (node : ℕ) → IsLeafNode new node → IsNear old (block_at new node)

-- a variable of the old world may be moved into a leaf of the new one
pub record MayMove (n g : ℕ) (old new : WorldState) (v node : ℕ) : Type 0 where
  pub old_fit : IsFit n g old
  pub new_fit : IsFit n g new
  pub variable : v < old.told.counts.cells
  pub counts : new.told.counts ≡ old.told.counts
  pub shape : new.told.grid.shape ≡ old.told.grid.shape
  pub range : LeavesInRange old
  pub leaf : IsLeafNode new.told.grid node

-- the node holds the old grid's views of a field
abbrev pub NodeMoved : WorldState → WorldState → ℕ → (CellAt → ℤ) → ℕ → Type 0
NodeMoved old new v content node = HoldsViews old.told.grid content (block_at new.told.grid node) (numbers_of new v node)

-- or its octant q does
abbrev pub OctantMoved : WorldState → WorldState → ℕ → (CellAt → ℤ) → ℕ → ℕ → Type 0
OctantMoved old new v content node q = OctantHolds old.told.grid content (block_at new.told.grid node) q (numbers_of new v node)

-- so does each leaf
abbrev pub LeavesMoved : WorldState → WorldState → ℕ → (CellAt → ℤ) → Type 0
LeavesMoved old new v content = (node : ℕ) → IsLeafNode new.told.grid node → NodeMoved old new v content node

-- all variables of the old world may be moved into the new one
pub record MayMoveAll (n g : ℕ) (old new : WorldState) : Type 0 where
  pub old_fit : IsFit n g old
  pub new_fit : IsFit n g new
  pub counts : new.told.counts ≡ old.told.counts
  pub near : AreNear old.told.grid new.told.grid
  pub range : LeavesInRange old

-- ---- views out of range

-- what is told of a view of a cell, where it is above 2^40 in absolute value
abbrev pub view_stop : Grid → (CellAt → ℤ) → ℕ → CellAt → Option RangeStop
view_stop old content v c =
    if is_above (2 ^ 40) (cell_view old content c) then Some (record { var = groups.Cell v; spot = spots.Cell c; value = cell_view old content c }) else None

-- of the first such view in a block, in a node of the new grid where that is a leaf, and in the walk over the leaves
abbrev pub block_stop : Grid → (CellAt → ℤ) → ℕ → BlockAt → Option RangeStop
block_stop old content v b = first_in_box old.shape.n (λ i j k. view_stop old content v (in_block old.shape.n b i j k))

abbrev pub node_stop : Grid → Grid → (CellAt → ℤ) → ℕ → ℕ → Option RangeStop
node_stop old new content v node = if is_leaf_block new (block_at new node) then block_stop old content v (block_at new node) else None

abbrev pub stop_below : Grid → Grid → (CellAt → ℤ) → ℕ → ℕ → Option RangeStop
stop_below old new content v count = first_below count (node_stop old new content v)

abbrev pub variable_stop : Grid → Grid → (CellAt → ℤ) → ℕ → Option RangeStop
variable_stop old new content v = stop_below old new content v (length (nodes new.leaves))

-- and in the walk over all variables
abbrev pub all_stop : Grid → Grid → (ℕ → CellAt → ℤ) → ℕ → Option RangeStop
all_stop old new contents count = first_below count (λ v. variable_stop old new (contents v) v)
