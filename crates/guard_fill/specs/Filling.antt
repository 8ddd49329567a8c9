-- Worlds whose leaves have their guard cells.
use Rattle.std.specs.Prelude.{◌≡◌, ℕ, ◌+◌, ◌/◌, ◌%◌, ◌<◌, ◌≤◌, ◌⊎◌, Bool, true, false, ◌&&◌, ◌||◌, ◌==◌, List, length, ℤ}
use Rattle.amr_num.specs.declared.BlockAt.{BlockAt}
use Rattle.amr_num.specs.declared.CellAt.{CellAt}
use Rattle.mesh_model.specs.Fields.ArrayPlaces.{HoldsGuards, IsInBox, cell_extents, cell_there, number_at, side}
use Rattle.mesh_model.specs.Fields.Octants.{cells_of}
use Rattle.mesh_model.specs.Fields.Ranks.{WorldState}
use Rattle.mesh_model.specs.Fields.Views.{cell_view}
use Rattle.mesh_model.specs.declared.geometry.Shape.{Shape}
use Rattle.mesh_model.specs.Geometry.Blocks.{parent_block}
use Rattle.mesh_model.specs.Geometry.Outside.{inside_cell}
use Rattle.mesh_model.specs.Geometry.Places.{guard_index, in_block}
use Rattle.mesh_model.specs.Tree.Kinds.{Grid, is_leaf_block}
use Rattle.mesh_model.specs.Tree.Order.{IsIn, nodes}
use Rattle.block_tree.specs.Numbered.{block_at}
use Rattle.rank_world.specs.Holding.{IsLeafNode, NodesHold, OnlyCells, cell_array, numbers_of}
use Rattle.guard_fill.specs.declared.filling.Guards.{Guards}
use Rattle.guard_fill.specs.declared.filling.Guards.TheVariants.{All, AcrossSides}
use Rattle.guard_fill.specs.declared.strips.Patch.{Patch}
use Rattle.guard_fill.specs.Strips.{block_of, box_of, cell_at, direction_at}

-- a node has on all its places, guards included, the views of a field at the cells that stand for them; each leaf does
abbrev pub NodeGuarded : WorldState → ℕ → (CellAt → ℤ) → ℕ → Type 0
NodeGuarded w v content node = HoldsGuards w.told.grid content (block_at w.told.grid node) (numbers_of w v node)

abbrev pub LeavesGuarded : WorldState → ℕ → (CellAt → ℤ) → Type 0
LeavesGuarded w v content = (node : ℕ) → IsLeafNode w.told.grid node → NodeGuarded w v content node

-- the arrays of a cell variable may have other numbers in the guard cells of leaves, and all else is as it was
pub record OnlyGuards (old new : WorldState) (v : ℕ) : Type 0 where
  pub only : OnlyCells old new v
  pub others : (node : ℕ) → (IsLeafNode old.told.grid node → ⊥) → cell_array new v node ≡ cell_array old v node
  pub cells : (node i j k : ℕ) → let g = old.told.grid in IsLeafNode g node → i < g.shape.n → j < g.shape.n → k < g.shape.n →
      cells_of g (cell_array new v node) (g.shape.g + i) (g.shape.g + j) (g.shape.g + k) ≡ cells_of g (cell_array old v node) (g.shape.g + i) (g.shape.g + j) (g.shape.g + k)

-- on an axis, the place is one of the block's own cells; so it is on two axes at least: it is a cell of its own, or lies straight across one of its sides
abbrev pub IsOwn : Shape → ℕ → Type 0
IsOwn s i = (s.g ≤ i) × (i < s.g + s.n)

pub record IsStraight (s : Shape) (i j k : ℕ) : Type 0 where
  pub own : (IsOwn s i × IsOwn s j) ⊎ ((IsOwn s i × IsOwn s k) ⊎ (IsOwn s j × IsOwn s k))

-- a block has such views on its own cells and in the guard cells straight across its sides; a node has; each leaf has
pub record HoldsSides (g : Grid) (content : CellAt → ℤ) (b : BlockAt) (numbers : ℕ → ℕ → ℕ → ℤ) : Type 0 where
  pub at : (i j k : ℕ) → i < side g.shape.n g.shape.g → j < side g.shape.n g.shape.g → k < side g.shape.n g.shape.g → IsStraight g.shape i j k →
      numbers i j k ≡ cell_view g content (cell_there g.shape b i j k)

abbrev pub NodeSided : WorldState → ℕ → (CellAt → ℤ) → ℕ → Type 0
NodeSided w v content node = HoldsSides w.told.grid content (block_at w.told.grid node) (numbers_of w v node)

abbrev pub LeavesSided : WorldState → ℕ → (CellAt → ℤ) → Type 0
LeavesSided w v content = (node : ℕ) → IsLeafNode w.told.grid node → NodeSided w v content node

-- ---- one leaf

-- in the direction d guard cells lie straight across a side, or the block's own cells
unfoldable pub is_straight : ℕ → Bool
is_straight d = ((d % 3 == 1) && (d / 3 % 3 == 1)) || (((d % 3 == 1) && (d / 9 == 1)) || ((d / 3 % 3 == 1) && (d / 9 == 1)))

-- the guard cells in the direction are asked for
abbrev pub is_asked : Guards → ℕ → Bool
is_asked All d = true
is_asked AcrossSides d = is_straight d

-- a block has the views in the directions that are asked for
pub record HoldsAsked (asked : Guards) (g : Grid) (content : CellAt → ℤ) (b : BlockAt) (numbers : ℕ → ℕ → ℕ → ℤ) : Type 0 where
  pub at : (i j k : ℕ) → i < side g.shape.n g.shape.g → j < side g.shape.n g.shape.g → k < side g.shape.n g.shape.g → is_asked asked (direction_at g.shape.n g.shape.g i j k) ≡ true →
      numbers i j k ≡ cell_view g content (cell_there g.shape b i j k)

abbrev pub NodeAsked : Guards → WorldState → ℕ → (CellAt → ℤ) → ℕ → Type 0
NodeAsked asked w v content node = HoldsAsked asked w.told.grid content (block_at w.told.grid node) (numbers_of w v node)

abbrev pub LeavesAsked : Guards → WorldState → ℕ → (CellAt → ℤ) → Type 0
LeavesAsked asked w v content = (node : ℕ) → IsLeafNode w.told.grid node → NodeAsked asked w v content node

-- the views of a block's cells stand in a node: in its own, or the block is the child of a leaf
pub record IsKnown (g : Grid) (b : BlockAt) : Type 0 where
  pub which : IsIn b (nodes g.leaves) ⊎ ((0 < b.level) × (is_leaf_block g (parent_block b) ≡ true))

-- the places of a patch have the views of the cells from which they have their numbers, whatever field the nodes hold, and all others are as they were
pub record IsPatched (n g : ℕ) (w : WorldState) (v level : ℕ) (p : Patch) (old new : List ℤ) : Type 0 where
  pub size : length new ≡ length old
  pub stays : (i j k : ℕ) → let e = cell_extents n g in i < side n g → j < side n g → k < side n g → (IsInBox (box_of p) i j k → ⊥) → number_at e new i j k ≡ number_at e old i j k
  pub views : (content : CellAt → ℤ) → NodesHold w v content → (i j k : ℕ) → i < p.x.many → j < p.y.many → k < p.z.many →
      number_at (cell_extents n g) new (p.x.to + i) (p.y.to + j) (p.z.to + k) ≡ cell_view w.told.grid content (in_block n (block_of level p) (cell_at p.x i) (cell_at p.y j) (cell_at p.z k))

-- the view that belongs at a place of a block
abbrev pub guard_at : ℕ → ℕ → Grid → (CellAt → ℤ) → BlockAt → ℕ → ℕ → ℕ → ℤ
guard_at n g grid content b i j k = cell_view grid content (inside_cell grid.shape b.level (guard_index n g b.x i) (guard_index n g b.y j) (guard_index n g b.z k))

-- the places of a block in the direction d have the views that belong there, and all others are as they were
pub record IsFilled (n g : ℕ) (w : WorldState) (v : ℕ) (b : BlockAt) (d : ℕ) (old new : List ℤ) : Type 0 where
  pub size : length new ≡ length old
  pub stays : (i j k : ℕ) → i < side n g → j < side n g → k < side n g → (direction_at n g i j k ≡ d → ⊥) → number_at (cell_extents n g) new i j k ≡ number_at (cell_extents n g) old i j k
  pub guards : (content : CellAt → ℤ) → NodesHold w v content → (i j k : ℕ) → i < side n g → j < side n g → k < side n g → direction_at n g i j k ≡ d →
      number_at (cell_extents n g) new i j k ≡ guard_at n g w.told.grid content b i j k

-- where the direction is asked for they do, and else nothing changes
pub record IsFilledAsked (n g : ℕ) (asked : Guards) (w : WorldState) (v : ℕ) (b : BlockAt) (d : ℕ) (old new : List ℤ) : Type 0 where
  pub filled : is_asked asked d ≡ true → IsFilled n g w v b d old new
  pub stays : is_asked asked d ≡ false → new ≡ old

-- an array has a leaf's own numbers on its cells, and in those of the first d directions that are asked for the views that belong there
pub record IsGatheredTo (n g : ℕ) (asked : Guards) (w : WorldState) (v node d : ℕ) (xs : List ℤ) : Type 0 where
  pub size : length xs ≡ length (cell_array w v node)
  pub cells : (i j k : ℕ) → let e = cell_extents n g in i < n → j < n → k < n → number_at e xs (g + i) (g + j) (g + k) ≡ number_at e (cell_array w v node) (g + i) (g + j) (g + k)
  pub guards : (content : CellAt → ℤ) → NodesHold w v content → (i j k : ℕ) → i < side n g → j < side n g → k < side n g → direction_at n g i j k < d → is_asked asked (direction_at n g i j k) ≡ true →
      number_at (cell_extents n g) xs i j k ≡ guard_at n g w.told.grid content (block_at w.told.grid node) i j k

-- and in all of them
abbrev pub IsGathered : ℕ → ℕ → Guards → WorldState → ℕ → ℕ → List ℤ → Type 0
IsGathered n g asked w v node xs = IsGatheredTo n g asked w v node 27 xs
