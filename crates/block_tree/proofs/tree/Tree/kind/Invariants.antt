use Rattle.std.proofs.Common.{◌≡◌, ℕ, ◌<◌, false}
use Rattle.mesh_model.specs.Geometry.Blocks.{child_block}
use Rattle.mesh_model.specs.Tree.Kinds.{is_leaf_block}
use Rattle.block_tree.specs.GridOf.{grid_of}
use Rattle.block_tree.proofs.tree.Tree.kind.Given as goal

abbrev pub invariant-loop-octant : goal.invariant-loop-octant
invariant-loop-octant l = (q : ℕ) → q < l.octant → is_leaf_block (grid_of l.self) (child_block l.b q) ≡ false
