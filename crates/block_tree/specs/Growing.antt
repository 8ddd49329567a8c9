-- Trees that are refined and merged.
use Rattle.std.specs.Prelude.{◌≡◌, ℕ, ◌<◌, Bool, true, false, List, length}
use Rattle.amr_num.specs.declared.BlockAt.{BlockAt}
use Rattle.mesh_model.specs.Geometry.Blocks.{child_block}
use Rattle.mesh_model.specs.Geometry.Limits.{most_nodes}
use Rattle.mesh_model.specs.Tree.Order.{nodes, IsIn}
use Rattle.mesh_model.specs.Tree.Kinds.{Grid}
use Rattle.mesh_model.specs.Tree.Regrown.{regrown}
use Rattle.mesh_model.specs.Tree.ValidGrid.{LevelRule}
use Rattle.block_tree.specs.declared.tree.GrowStop.{GrowStop}
use Rattle.block_tree.specs.Numbered.{blocks_of, flag_in}
use Rattle.block_tree.specs.declared.tree.GrowStop.TheVariants.{Blocks, OutOfMemory}

-- leaves may be refined, and parents merged: refined leaves are below the finest level, merged parents have eight leaves of which none is
-- refined, and the level rule holds afterwards. The closure of marks gives such sets.
pub record MayRegrow (g : Grid) (refine merge : BlockAt → Bool) : Type 0 where
  pub leaf : (b : BlockAt) → refine b ≡ true → IsIn b g.leaves
  pub deep : (b : BlockAt) → refine b ≡ true → b.level < g.shape.max
  pub children : (p : BlockAt) (q : ℕ) → merge p ≡ true → q < 8 → IsIn (child_block p q) g.leaves
  pub stays : (p : BlockAt) (q : ℕ) → merge p ≡ true → q < 8 → refine (child_block p q) ≡ false
  pub rule : LevelRule (regrown g refine merge)

-- the grid after flagged nodes are refined and merged
abbrev pub grid_after : Grid → List Bool → List Bool → Grid
grid_after g refine merge = regrown g (blocks_of g (flag_in refine)) (blocks_of g (flag_in merge))

-- why there is no tree of a new grid: it has too many nodes, so many, or there was no memory
abbrev pub IsGrowStop : Grid → GrowStop → Type 0
IsGrowStop new (Blocks count) = (count ≡ length (nodes new.leaves)) × (most_nodes new.shape < count)
IsGrowStop new OutOfMemory = Unit {0}
