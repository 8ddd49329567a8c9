-- Worlds that may be regridded.
use Rattle.std.specs.Prelude.{◌≡◌, ◌≤◌, ℕ}
use Rattle.mesh_model.specs.Fields.Ranks.{IsFit, WorldState}
use Rattle.rank_world.specs.Holding.{IsOfValidMesh, LeavesInRange}

-- whatever plan their tree may have
pub record MayTry (n g : ℕ) (w : WorldState) : Type 0 where
  pub fit : IsFit n g w
  pub few : w.told.counts.cells ≤ 4
  pub cells : (w.told.counts.faces ≡ 0) × (w.told.counts.edges ≡ 0)
  pub range : LeavesInRange w

-- one with a face or an edge variable alone
pub record MayTryAxes (n g : ℕ) (w : WorldState) : Type 0 where
  pub fit : IsFit n g w
  pub cells : w.told.counts.cells ≡ 0
  pub mesh : IsOfValidMesh w
