-- Worlds that tests write into.
use Rattle.std.specs.Prelude.{◌≡◌}
use Rattle.mesh_model.specs.Fields.Ranks.{IsFit, WorldState}
use Rattle.rank_world.specs.Holding.{LeavesInRange}

-- blocks of 4 cells along each axis with 1 guard cell on each side, and one cell variable, whose numbers are in range
pub record IsTrial (w : WorldState) : Type 0 where
  pub fit : IsFit 4 1 w
  pub cells : w.told.counts.cells ≡ 1
  pub faces : w.told.counts.faces ≡ 0
  pub edges : w.told.counts.edges ≡ 0
  pub range : LeavesInRange w
