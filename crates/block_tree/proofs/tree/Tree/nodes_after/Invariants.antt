use Rattle.std.proofs.Common.{◌≡◌, take}
use Rattle.std.specs.Prelude.{flat_map}
use Rattle.mesh_model.specs.Tree.Order.{nodes}
use Rattle.block_tree.specs.GridOf.{grid_of}
use Rattle.block_tree.specs.Numbered.{blocks_of, flag_in}
use Rattle.block_tree.proofs.Regrowing.{placed}
use Rattle.block_tree.proofs.tree.Tree.nodes_after.Given as goal

abbrev pub invariant-loop-node : goal.invariant-loop-node
invariant-loop-node l = l.nodes.items ≡ flat_map (placed (blocks_of (grid_of l.self) (flag_in l.refine)) (blocks_of (grid_of l.self) (flag_in l.merge))) (take l.node (nodes (grid_of l.self).leaves))
