-- Fluxes of a cell variable in the work faces of leaves.
use Rattle.std.specs.Prelude.{◌≡◌, ℕ, ◌+◌, ◌<◌, ◌^◌, true, List, ℤ}
use Rattle.amr_num.specs.Numbers.{Within, number_range}
use Rattle.amr_num.specs.declared.Axis.{Axis}
use Rattle.amr_num.specs.declared.Axis.TheVariants.{X, Y, Z}
use Rattle.amr_num.specs.declared.BlockAt.{BlockAt}
use Rattle.amr_num.specs.declared.CellAt.{CellAt}
use Rattle.block_tree.specs.Numbered.{block_at}
use Rattle.flux_conserve.specs.Work.{OnlyWorkFaces, work_array}
use Rattle.guard_fill.specs.Filling.{HoldsSides, LeavesSided}
use Rattle.mesh_model.specs.Fields.Advect.{Speeds, keeps_courant, leaf_flux}
use Rattle.mesh_model.specs.Fields.ArrayPlaces.{HoldsFaceField, cell_extents, face_extents, number_at}
use Rattle.mesh_model.specs.Fields.Ranks.{IsFit, WorldState}
use Rattle.mesh_model.specs.Geometry.Places.{longer_on}
use Rattle.mesh_model.specs.Tree.Kinds.{Grid}
use Rattle.rank_world.specs.Holding.{cell_array}

-- the leaves have, in their own cells and straight across their sides, the views of a field whose contents are at most 2^40 in absolute value
pub record AreGuarded (w : WorldState) (v : ℕ) : Type 0 where
  pub content : CellAt → ℤ
  pub guarded : LeavesSided w v content
  pub small : (c : CellAt) → Within number_range (content c)

-- the faces of a block normal to an axis have the fluxes of whatever field its cells have with the guard cells straight across its sides, and small ones
pub record AreFluxes (g : Grid) (n : Speeds) (a : Axis) (b : BlockAt) (cells faces : List ℤ) : Type 0 where
  pub fluxes : (content : CellAt → ℤ) → HoldsSides g content b (number_at (cell_extents g.shape.n g.shape.g) cells) →
      HoldsFaceField g (leaf_flux g content n) a b (number_at (face_extents g.shape.n g.shape.g a) faces)
  pub within : (i j k : ℕ) → i < longer_on a X g.shape.n → j < longer_on a Y g.shape.n → k < longer_on a Z g.shape.n →
      Within (2 ^ 56) (number_at (face_extents g.shape.n g.shape.g a) faces (g.shape.g + i) (g.shape.g + j) (g.shape.g + k))

-- the work faces of a node do
abbrev pub HasFluxes : WorldState → ℕ → Speeds → ℕ → Axis → Type 0
HasFluxes w v n node a = AreFluxes w.told.grid n a (block_at w.told.grid node) (cell_array w v node) (work_array w a node)

-- a variable of a world that may flow with such speeds
pub record IsReady (n g : ℕ) (w : WorldState) (v : ℕ) (speeds : Speeds) : Type 0 where
  pub fit : IsFit n g w
  pub variable : v < w.told.counts.cells
  pub guarded : AreGuarded w v
  pub courant : keeps_courant w.told.grid.shape speeds ≡ true

-- some work faces have got the variable's fluxes
pub record AreFlowed (n g : ℕ) (old new : WorldState) (v : ℕ) (speeds : Speeds) : Type 0 where
  pub only : OnlyWorkFaces old new
  pub ready : IsReady n g new v speeds
  pub keeps : (node : ℕ) (a : Axis) → HasFluxes old v speeds node a → HasFluxes new v speeds node a
