-- Ranks and worlds that are made.
use Rattle.std.specs.Prelude.{◌≡◌, ℕ, ◌<◌, ◌↔◌}
use Rattle.mesh_model.specs.Fields.Arrays.{AreWhole, Counts, IsHeld}
use Rattle.mesh_model.specs.Tree.Kinds.{Grid}
use Rattle.mesh_model.specs.Fields.Ranks.{AreZero, IsFit, RankState, WorldState, rank_at}

-- a rank that holds so many nodes, the numbers of whose arrays are 0
pub record IsNewRank (n g id : ℕ) (counts : Counts) (nodes : ℕ) (r : RankState) : Type 0 where
  pub number : r.id ≡ id
  pub counts_are : r.own.values.counts ≡ counts
  pub holds : (node : ℕ) → IsHeld r.own.values node ↔ (node < nodes)
  pub whole : AreWhole n g r.own.values
  pub zero : AreZero n g r.own.values

-- the world of a grid, with all numbers 0
pub record IsNewWorld (n g : ℕ) (grid : Grid) (counts : Counts) (w : WorldState) : Type 0 where
  pub grid_is : w.told.grid ≡ grid
  pub counts_are : w.told.counts ≡ counts
  pub fit : IsFit n g w
  pub zero : AreZero n g (rank_at w 0).own.values
