-- The totals of a world's variables.
use Rattle.std.specs.Prelude.{◌≡◌, ℕ, ℤ}
use Rattle.amr_num.specs.declared.CellAt.{CellAt}
use Rattle.mesh_model.specs.Fields.Ranks.{WorldState}
use Rattle.mesh_model.specs.Fields.Totals as totals
use Rattle.rank_world.specs.Holding.{LeavesHold}
use Rattle.rank_world.specs.NodeSums.{node_sum}

-- the sum is that of a node of the field that the leaves hold, and the total of this field
abbrev pub IsNodeSum : WorldState → ℕ → ℕ → ℤ → Type 0
IsNodeSum w v node sum = (content : CellAt → ℤ) → LeavesHold w v content → sum ≡ node_sum w.told.grid content node

abbrev pub IsTotal : WorldState → ℕ → ℤ → Type 0
IsTotal w v sum = (content : CellAt → ℤ) → LeavesHold w v content → sum ≡ totals.total w.told.grid content
