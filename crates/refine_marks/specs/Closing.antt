-- The closure by levels, from the finest to the coarsest.
use Rattle.std.specs.Prelude.{ℕ, suc, Bool, not, ◌&&◌, ◌||◌, ◌==◌, nat_lt, nat_le, if◌then◌else◌}
use Rattle.std.specs.List.{list_all}
use Rattle.amr_num.specs.declared.BlockAt.{BlockAt}
use Rattle.mesh_model.specs.Geometry.Blocks.{parent_block, children}
use Rattle.mesh_model.specs.Tree.Closure.{is_refined, is_merged, is_ready}
use Rattle.mesh_model.specs.Tree.Kinds.{Grid, is_leaf_block}
use Rattle.mesh_model.specs.Tree.MarkedGrid.{MarkedGrid}
use Rattle.refine_marks.specs.Flags.{touches_any}

-- the set and, of the leaves of level l, those that touch a leaf of the set one level finer
unfoldable pub spread_to : Grid → ℕ → (BlockAt → Bool) → BlockAt → Bool
spread_to g l set b = set b || ((b.level == l) && is_leaf_block g b && touches_any g set (suc l) b)

-- the refined leaves from level l on, and the marked ones below it
unfoldable pub refined_from : MarkedGrid → ℕ → BlockAt → Bool
refined_from m l b = if nat_le l b.level then is_refined m b else m.refine b

-- a block's parent is not in the set
unfoldable pub stays_beside : (BlockAt → Bool) → BlockAt → Bool
stays_beside set b = not (nat_lt 0 b.level && set (parent_block b))

-- p is of level l, its eight children are ready, it touches no refined leaf of their level, and no leaf one level finer that stays
abbrev pub may_merge : MarkedGrid → ℕ → (BlockAt → Bool) → BlockAt → Bool
may_merge m l stays p =
    (p.level == l)
    && list_all (is_ready m) (children p)
    && not (touches_any m.grid (is_refined m) (suc l) p)
    && not (touches_any m.grid stays (suc (suc l)) p)

-- the set and the parents of level l that may be merged
unfoldable pub merged_with : MarkedGrid → ℕ → (BlockAt → Bool) → (BlockAt → Bool) → BlockAt → Bool
merged_with m l stays set b = set b || may_merge m l stays b

-- the merged parents from level l on
unfoldable pub merged_from : MarkedGrid → ℕ → BlockAt → Bool
merged_from m l b = nat_le l b.level && is_merged m b
