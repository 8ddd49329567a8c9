use Rattle.std.proofs.Common.{◌≡◌, ℕ, ◌<◌, false}
use Rattle.block_tree.specs.GridOf.{grid_of}
use Rattle.block_tree.specs.Numbered.{block_at}
use Rattle.rank_world.specs.Holding.{IsLeafNode}
use Rattle.flux_conserve.specs.Jumps.{is_at_jump}
use Rattle.flux_conserve.proofs.jumps.has_jump.Given as goal

abbrev pub invariant-loop-node : goal.invariant-loop-node
invariant-loop-node l = record {
  calm : (k : ℕ) → k < l.node → IsLeafNode (grid_of l.tree) k → is_at_jump (grid_of l.tree) (block_at (grid_of l.tree) k) ≡ false;
}
