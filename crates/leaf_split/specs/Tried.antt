-- Worlds of which children's edges are made.
use Rattle.std.specs.Prelude.{◌<◌, ℕ}
use Rattle.mesh_model.specs.Fields.Ranks.{IsFit, WorldState}
use Rattle.rank_world.specs.Holding.{IsOfValidMesh}

-- a world of a valid mesh with an edge variable
pub record MayTry (n g : ℕ) (w : WorldState) : Type 0 where
  pub fit : IsFit n g w
  pub edges : 0 < w.told.counts.edges
  pub mesh : IsOfValidMesh w
