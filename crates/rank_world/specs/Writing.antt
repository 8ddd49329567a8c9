-- Leaves of which a variable is written.
use Rattle.std.specs.Prelude.{ℕ, ◌<◌}
use Rattle.mesh_model.specs.Fields.Ranks.{IsFit, WorldState}
use Rattle.rank_world.specs.Holding.{IsLeafNode}

-- a cell variable of a fit world, and a leaf of it
pub record IsLeafArray (n g : ℕ) (w : WorldState) (v node : ℕ) : Type 0 where
  pub fit : IsFit n g w
  pub variable : v < w.told.counts.cells
  pub leaf : IsLeafNode w.told.grid node
