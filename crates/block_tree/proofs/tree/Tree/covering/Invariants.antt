use Rattle.std.proofs.Common.{◌≡◌, ℕ, ◌<◌, false}
use Rattle.mesh_model.specs.Tree.Kinds.{is_leaf_block}
use Rattle.block_tree.specs.GridOf.{grid_of}
use Rattle.block_tree.proofs.Covering.{over}
use Rattle.block_tree.proofs.tree.Tree.covering.Given as goal

abbrev pub invariant-loop-level : goal.invariant-loop-level
invariant-loop-level l = (k : ℕ) → k < l.level → is_leaf_block (grid_of l.self) (over l.self.shape.n l.c k) ≡ false
