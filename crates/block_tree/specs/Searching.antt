-- Places in a list of blocks.
use Rattle.std.specs.Prelude.{ℕ, ◌<◌, ◌≤◌, List, length}
use Rattle.amr_num.specs.declared.BlockAt.{BlockAt}
use Rattle.mesh_model.specs.Tree.Order.{key}
use Rattle.block_tree.specs.Numbered.{block_in}

-- the blocks before one place have keys below k, and those from another on have not
pub record IsCut (all : List BlockAt) (k low high : ℕ) : Type 0 where
  pub order : low ≤ high
  pub within : high ≤ length all
  pub before : (i : ℕ) → i < low → key (block_in all i) < k
  pub after : (i : ℕ) → high ≤ i → i < length all → k ≤ key (block_in all i)
