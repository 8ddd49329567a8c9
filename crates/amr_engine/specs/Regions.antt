-- Which leaf cells a fill takes, and what it makes of a mesh.
use Rattle.std.specs.Prelude.{ℕ, ◌≤◌, ◌^◌, Bool, true, if◌then◌else◌, List, ℤ, slice_index}
use Rattle.amr_num.specs.declared.CellAt.{CellAt}
use Rattle.mesh_model.specs.Fields.Fill.{is_in_box, with_cells}
use Rattle.mesh_model.specs.Fields.Plain.{Mesh, on_cells}
use Rattle.mesh_model.specs.Language.Commands.{IsBox}
use Rattle.mesh_model.specs.declared.geometry.Shape.{Shape}
use Rattle.amr_engine.specs.declared.region.CellBox.{CellBox}
use Rattle.amr_engine.specs.declared.region.Fill.{Fill}
use Rattle.amr_engine.specs.declared.region.Region.{Region}
use Rattle.amr_engine.specs.declared.region.Region.TheVariants.{Everywhere, Within}

-- each of three numbers is at most this
pub record AllAtMost (most : ℕ) (numbers : List ℕ) : Type 0 where
  pub x : slice_index numbers 0 ≤ most
  pub y : slice_index numbers 1 ≤ most
  pub z : slice_index numbers 2 ≤ most

-- the level and the corners of a box are those that a mesh may have
pub record IsCellBox (b : CellBox) : Type 0 where
  pub level : b.level ≤ 10
  pub low : AllAtMost (2 ^ 20) b.low
  pub high : AllAtMost (2 ^ 20) b.high

abbrev pub IsRegion : Region → Type 0
IsRegion Everywhere = Unit {0}
IsRegion (Within b) = IsCellBox b

-- the box is one of the domain
abbrev pub IsRegionOf : Shape → Region → Type 0
IsRegionOf s Everywhere = Unit {0}
IsRegionOf s (Within b) = IsBox s b.level b.low b.high

-- the region has the whole cell
abbrev pub covers : Region → CellAt → Bool
covers Everywhere c = true
covers (Within b) c = is_in_box b.level b.low b.high c

-- contents after every leaf cell of the region took the value
abbrev pub filled_content : Fill → (CellAt → ℤ) → CellAt → ℤ
filled_content fill content c = if covers fill.region c then fill.value else content c

abbrev pub filled : Mesh → ℕ → Fill → Mesh
filled m var fill = with_cells m var (on_cells m.grid (filled_content fill (m.cells var)))
