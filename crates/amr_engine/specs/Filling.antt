-- What a fill makes of rows, blocks and worlds.
use Rattle.std.specs.Prelude.{◌≡◌, ℕ, ◌+◌, ◌<◌, ◌≤◌, if◌then◌else◌, List, length, ℤ}
use Rattle.amr_num.specs.Numbers.{at}
use Rattle.amr_num.specs.declared.BlockAt.{BlockAt}
use Rattle.amr_num.specs.declared.CellAt.{CellAt}
use Rattle.mesh_model.specs.Fields.ArrayPlaces.{IsWritten, cell_extents, interior, number_at}
use Rattle.mesh_model.specs.Fields.Ranks.{WorldState}
use Rattle.mesh_model.specs.Geometry.Places.{in_block}
use Rattle.rank_world.specs.Holding.{LeavesHold}
use Rattle.amr_engine.specs.Regions.{covers, filled_content}
use Rattle.amr_engine.specs.declared.region.Fill.{Fill}

-- the cells of a row took the value where the region covers them
pub record IsFilledRow (old new : List ℤ) (b : BlockAt) (j k : ℕ) (fill : Fill) : Type 0 where
  pub size : length new ≡ length old
  pub cells : (i : ℕ) → i < length old → at new i ≡ (if covers fill.region (in_block (length old) b i j k) then fill.value else at old i)

-- the first m of them did, and the others are as they were
pub record IsFilledBelow (m : ℕ) (old new : List ℤ) (b : BlockAt) (j k : ℕ) (fill : Fill) : Type 0 where
  pub size : length new ≡ length old
  pub done : (i : ℕ) → i < m → at new i ≡ (if covers fill.region (in_block (length old) b i j k) then fill.value else at old i)
  pub waits : (i : ℕ) → m ≤ i → at new i ≡ at old i

-- what the cell at the place (i, j, k) of a block holds after that
abbrev pub filled_cell : ℕ → ℕ → List ℤ → BlockAt → Fill → ℕ → ℕ → ℕ → ℤ
filled_cell n g old b fill i j k = if covers fill.region (in_block n b i j k) then fill.value else number_at (cell_extents n g) old (g + i) (g + j) (g + k)

-- all cells of a block did, and its guards stay
abbrev pub IsFilled : ℕ → ℕ → BlockAt → Fill → List ℤ → List ℤ → Type 0
IsFilled n g b fill old new = IsWritten (cell_extents n g) (interior n g) (filled_cell n g old b fill) old new

-- all leaves did
abbrev pub AreLeavesFilled : WorldState → WorldState → ℕ → Fill → Type 0
AreLeavesFilled old new v fill = (content : CellAt → ℤ) → LeavesHold old v content → LeavesHold new v (filled_content fill content)
