use Rattle.std.proofs.Common.{◌≡◌, ℕ, ◌<◌, length, true}
use Rattle.mesh_model.specs.Tree.Kinds.{is_leaf_block}
use Rattle.block_tree.specs.GridOf.{grid_of}
use Rattle.block_tree.specs.Numbered.{block_at, flag_in}
use Rattle.block_tree.proofs.tests.first_leaves.Given as goal

abbrev pub invariant-loop-node : goal.invariant-loop-node
invariant-loop-node l = record {
  size : length l.flags.items ≡ l.node;
  leaves : (i : ℕ) → i < l.node → flag_in l.flags.items i ≡ true → is_leaf_block (grid_of l.tree) (block_at (grid_of l.tree) i) ≡ true;
}
