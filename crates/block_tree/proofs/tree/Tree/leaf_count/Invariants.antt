use Rattle.std.proofs.Common.{◌≡◌, length, filter, take}
use Rattle.mesh_model.specs.Tree.Order.{nodes}
use Rattle.mesh_model.specs.Tree.Kinds.{is_leaf_block}
use Rattle.block_tree.specs.GridOf.{grid_of}
use Rattle.block_tree.proofs.tree.Tree.leaf_count.Given as goal

abbrev pub invariant-loop-node : goal.invariant-loop-node
invariant-loop-node l = l.count ≡ length (filter (is_leaf_block (grid_of l.self)) (take l.node (nodes (grid_of l.self).leaves)))
