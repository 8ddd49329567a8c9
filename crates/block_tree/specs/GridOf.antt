-- The grid for which a tree stands. Its nodes are `nodes (grid_of tree).leaves`.
use Rattle.mesh_model.specs.Tree.Kinds.{Grid}
use Rattle.block_tree.specs.declared.tree.Tree.{Tree}
use Rattle.block_tree.specs.Listed.{grid_in}

abbrev pub grid_of : Tree → Grid
grid_of tree = grid_in tree.shape tree.nodes.items
