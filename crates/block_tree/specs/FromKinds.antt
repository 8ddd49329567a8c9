-- Trees by one flag for each node.
use Rattle.std.specs.Prelude.{Bool, List}
use Rattle.mesh_model.specs.declared.geometry.Shape.{Shape}
use Rattle.mesh_model.specs.Tree.Forest.{HasFlags}
use Rattle.mesh_model.specs.Tree.Kinds.{Grid}
use Rattle.block_tree.specs.declared.tree.KindsStop.{KindsStop}
use Rattle.block_tree.specs.declared.tree.KindsStop.TheVariants.{NotTree, OutOfMemory}

-- why there is no tree with these flags: no grid has them, or there was no memory
abbrev pub IsKindsStop : Shape → List Bool → KindsStop → Type 0
IsKindsStop s above NotTree = (g : Grid) → HasFlags s above g → ⊥
IsKindsStop s above OutOfMemory = Unit {0}
