-- Blocks of a tree, and the sizes of its blocks.
use Rattle.std.proofs.Common.{◌≡◌, ◌⊎◌, ℕ, subst}
use Rattle.amr_num.specs.declared.BlockAt.{BlockAt}
use Rattle.mesh_model.specs.declared.geometry.Shape.{Shape}
use Rattle.mesh_model.specs.Geometry.Blocks.{InDomain}
use Rattle.mesh_model.specs.Geometry.Limits.{IsShape}
use Rattle.mesh_model.specs.Fields.ArrayPlaces.{IsSize}
use Rattle.mesh_model.specs.Fields.Ranks.{IsSized}
use Rattle.block_tree.proofs.Next.{has_key}
use Rattle.rank_world.proofs.Found as found
use Rattle.staggered.specs.Blocks.{IsSmallBlock}

pub small_block : (s : Shape) (b : BlockAt) → IsShape s → InDomain s b → IsSmallBlock b
small_block s b shape inside =
    let small = found.small_block s b shape inside in
    record { level = (has_key s b shape inside).level; x = small.0; y = small.1; z = small.2 }

pub size_by : (n g : ℕ) (s : Shape) → IsShape s → IsSized n g s → IsSize n g
size_by n g s shape sized = record {
  cells = subst (λ m. (m ≡ 4) ⊎ (m ≡ 8)) sized.cells shape.cells;
  guards = subst (λ m. (m ≡ 1) ⊎ ((m ≡ 2) ⊎ (m ≡ 4))) sized.guards shape.guards;
}
