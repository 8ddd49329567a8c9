-- Octants of blocks: the cells of a block in its octant q are those of its child q, summed by eights or split into eight parts. Numbers are given by places.
use Rattle.std.specs.Prelude.{◌≡◌, ◌≢◌, ℕ, ◌+◌, ◌*◌, ◌/◌, ◌%◌, ◌^◌, ◌<◌, false, List, ℤ}
use Rattle.amr_num.specs.declared.BlockAt.{BlockAt}
use Rattle.amr_num.specs.declared.CellAt.{CellAt}
use Rattle.amr_num.specs.Numbers.{Within, part, sum_below}
use Rattle.mesh_model.specs.Geometry.Blocks.{child_block}
use Rattle.mesh_model.specs.Fields.ArrayPlaces.{Box, HoldsViews, IsWritten, cell_extents, interior, number_at}
use Rattle.mesh_model.specs.Tree.Kinds.{Grid, is_split_block}
use Rattle.mesh_model.specs.Geometry.Places.{in_block}
use Rattle.mesh_model.specs.Tree.ValidGrid.{Valid}
use Rattle.mesh_model.specs.Fields.Views.{cell_view}

-- where the octant q of a block's cells begins on an axis, q counting the halves on it
abbrev pub half_at : ℕ → ℕ → ℕ
half_at n q = n / 2 * (q % 2)

-- the octant q of a block's cells in its array, with q = i + 2 j + 4 k for the halves i on x, j on y and k on z
abbrev pub octant_box : ℕ → ℕ → ℕ → Box
octant_box n g q = record {
  x = g + half_at n q;
  y = g + half_at n (q / 2);
  z = g + half_at n (q / 4);
  along_x = n / 2;
  along_y = n / 2;
  along_z = n / 2;
}

-- the sum of the eight numbers from a place on
unfoldable pub eight : (ℕ → ℕ → ℕ → ℤ) → ℕ → ℕ → ℕ → ℤ
eight numbers i j k = sum_below 8 (λ o. numbers (i + o % 2) (j + o / 2 % 2) (k + o / 4 % 2))

-- what the place (i, j, k) of an octant gets of the child there: the sum of its eight cells
abbrev pub summed : ℕ → (ℕ → ℕ → ℕ → ℤ) → ℕ → ℕ → ℕ → ℤ
summed g child i j k = eight child (g + 2 * i) (g + 2 * j) (g + 2 * k)

-- each of these sums is small enough to be stored
abbrev pub SumsAreSmall : ℕ → ℕ → (ℕ → ℕ → ℕ → ℤ) → Type 0
SumsAreSmall n g child = (i j k : ℕ) → i < n / 2 → j < n / 2 → k < n / 2 → Within (2 ^ 62) (summed g child i j k)

-- what the cell (i, j, k) of the child q gets of the parent: its part of the cell in which it lies
unfoldable pub parted : ℕ → ℕ → ℕ → (ℕ → ℕ → ℕ → ℤ) → ℕ → ℕ → ℕ → ℤ
parted n g q parent i j k =
    part (i % 2 + 2 * (j % 2) + 4 * (k % 2)) (parent (g + half_at n q + i / 2) (g + half_at n (q / 2) + j / 2) (g + half_at n (q / 4) + k / 2)) 8

-- the octant q of the parent's array holds the sums of the child's cells, and the rest stays
abbrev pub IsRestricted : ℕ → ℕ → ℕ → List ℤ → List ℤ → List ℤ → Type 0
IsRestricted n g q child old new = IsWritten (cell_extents n g) (octant_box n g q) (summed g (number_at (cell_extents n g) child)) old new

-- each cell of the child q holds its part of the parent's cell in which it lies, and the guards stay
abbrev pub IsSplit : ℕ → ℕ → ℕ → List ℤ → List ℤ → List ℤ → Type 0
IsSplit n g q parent old new = IsWritten (cell_extents n g) (interior n g) (parted n g q (number_at (cell_extents n g) parent)) old new

-- the octant q of the block holds the views of a field
pub record OctantHolds (g : Grid) (content : CellAt → ℤ) (b : BlockAt) (q : ℕ) (numbers : ℕ → ℕ → ℕ → ℤ) : Type 0 where
  pub at : (i j k : ℕ) → i < g.shape.n / 2 → j < g.shape.n / 2 → k < g.shape.n / 2 →
      numbers (g.shape.g + half_at g.shape.n q + i) (g.shape.g + half_at g.shape.n (q / 2) + j) (g.shape.g + half_at g.shape.n (q / 4) + k)
      ≡ cell_view g content (in_block g.shape.n b (half_at g.shape.n q + i) (half_at g.shape.n (q / 2) + j) (half_at g.shape.n (q / 4) + k))

-- the numbers of an array of cells of the grid's blocks, by places
abbrev pub cells_of : Grid → List ℤ → ℕ → ℕ → ℕ → ℤ
cells_of g xs = number_at (cell_extents g.shape.n g.shape.g) xs

-- ---- what sums and parts make of blocks that hold views, in every valid grid

-- an octant that was set to the sums of a child that holds views holds views
abbrev pub OctantsAreSummed : Type 0
OctantsAreSummed = (g : Grid) (content : CellAt → ℤ) (b : BlockAt) (q : ℕ) (child old new : List ℤ) → Valid g → IsRestricted g.shape.n g.shape.g q child old new →
    HoldsViews g content (child_block b q) (cells_of g child) → OctantHolds g content b q (cells_of g new)

-- and the other octants that held views hold them still
abbrev pub OctantsStay : Type 0
OctantsStay = (g : Grid) (content : CellAt → ℤ) (b : BlockAt) (q p : ℕ) (child old new : List ℤ) → Valid g → q < 8 → p < 8 → p ≢ q →
    IsRestricted g.shape.n g.shape.g q child old new → OctantHolds g content b p (cells_of g old) → OctantHolds g content b p (cells_of g new)

-- a block whose eight octants hold views holds views
abbrev pub OctantsMakeBlocks : Type 0
OctantsMakeBlocks = (g : Grid) (content : CellAt → ℤ) (b : BlockAt) (numbers : ℕ → ℕ → ℕ → ℤ) → Valid g →
    ((q : ℕ) → q < 8 → OctantHolds g content b q numbers) → HoldsViews g content b numbers

-- a child of a block that is not split holds views where it was split from the block that holds views
abbrev pub ChildrenAreSplit : Type 0
ChildrenAreSplit = (g : Grid) (content : CellAt → ℤ) (b : BlockAt) (q : ℕ) (parent old new : List ℤ) → Valid g → q < 8 → is_split_block g b ≡ false →
    IsSplit g.shape.n g.shape.g q parent old new → HoldsViews g content b (cells_of g parent) → HoldsViews g content (child_block b q) (cells_of g new)
