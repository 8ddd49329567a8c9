-- Nodes that stand round a block.
use Rattle.std.specs.Prelude.{◌≡◌, ℕ, ◌<◌, List, Some}
use Rattle.amr_num.specs.declared.BlockAt.{BlockAt}
use Rattle.mesh_model.specs.declared.geometry.Shape.{Shape}
use Rattle.mesh_model.specs.Tree.Order.{IsIn}
use Rattle.block_tree.specs.Directions.{block_toward, direction_of}

-- in the first so many of the directions from b, all blocks of its level are nodes, where they lie in the domain
pub record AreRound (s : Shape) (all : List BlockAt) (b : BlockAt) (many : ℕ) : Type 0 where
  pub each : (d : ℕ) (e : BlockAt) → d < many → block_toward s (direction_of d) b ≡ Some e → IsIn e all
