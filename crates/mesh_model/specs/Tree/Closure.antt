-- The closure of marks: which leaves are refined, and which parents are merged.
use Rattle.std.specs.Prelude.{ℕ, zero, suc, ◌-◌, Bool, true, false, not, ◌&&◌, ◌||◌, ◌==◌, nat_lt}
use Rattle.std.specs.List.{list_any, list_all}
use Rattle.amr_num.specs.Numbers.{finest_level}
use Rattle.amr_num.specs.declared.BlockAt.{BlockAt}
use Rattle.mesh_model.specs.Tree.MarkedGrid.{MarkedGrid}
use Rattle.mesh_model.specs.Tree.Kinds.{is_leaf_block}
use Rattle.mesh_model.specs.Geometry.Touch.{touches}
use Rattle.mesh_model.specs.Geometry.Blocks.{parent_block, children}

-- a leaf is refined: it is marked, or it touches a refined leaf one level finer; d counts the levels above it
unfoldable pub refined : MarkedGrid → ℕ → BlockAt → Bool
refined m zero b = m.refine b
refined m (suc d) b = m.refine b || list_any (λ leaf. elim ((leaf.level == suc b.level) && touches m.grid.shape leaf b) [
  | true ↦ refined m d leaf
  | false ↦ false
]) m.grid.leaves

-- the refined set: the leaves to which a chain of leaves leads from a marked one, each touching the one before and one level coarser
abbrev pub is_refined : MarkedGrid → BlockAt → Bool
is_refined m b = is_leaf_block m.grid b && refined m (finest_level - b.level) b

-- a leaf above the coarsest level that is marked derefine and not refined
unfoldable pub is_ready : MarkedGrid → BlockAt → Bool
is_ready m c = is_leaf_block m.grid c && m.derefine c && not (is_refined m c) && nat_lt m.grid.shape.min c.level

-- p touches a refined leaf of its children's level
unfoldable pub is_blocked : MarkedGrid → BlockAt → Bool
is_blocked m p = list_any (λ leaf. (leaf.level == suc p.level) && touches m.grid.shape leaf p && is_refined m leaf) m.grid.leaves

-- a parent is merged: its eight children are ready, it touches no refined leaf of their level, and each leaf one level finer that it
-- touches has a merged parent; d counts the levels above it
unfoldable pub merged : MarkedGrid → ℕ → BlockAt → Bool
merged m zero p = false
merged m (suc d) p =
    list_all (is_ready m) (children p)
    && not (is_blocked m p)
    && list_all (λ leaf. elim ((leaf.level == suc (suc p.level)) && touches m.grid.shape leaf p) [
      | true ↦ merged m d (parent_block leaf)
      | false ↦ true
    ]) m.grid.leaves

-- the merged set
abbrev pub is_merged : MarkedGrid → BlockAt → Bool
is_merged m p = merged m (finest_level - p.level) p
