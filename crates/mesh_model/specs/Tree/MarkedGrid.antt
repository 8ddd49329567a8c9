-- A grid with marks on its leaves.
use Rattle.std.specs.Prelude.{◌≡◌, ◌<◌, Bool, true}
use Rattle.amr_num.specs.declared.BlockAt.{BlockAt}
use Rattle.mesh_model.specs.Tree.Kinds.{Grid, is_leaf_block}
use Rattle.mesh_model.specs.Tree.Order.{Sorted}
use Rattle.mesh_model.specs.Tree.ValidGrid.{FewNodes, Valid}

pub record MarkedGrid : Type 0 where
  pub grid : Grid
  -- the leaves that are marked to be refined, and those that are marked to be merged
  pub refine : BlockAt → Bool
  pub derefine : BlockAt → Bool

-- marks stand on leaves, the refine ones below the finest level and the derefine ones above the coarsest
pub record MarksFit (m : MarkedGrid) : Type 0 where
  pub refine : (b : BlockAt) → m.refine b ≡ true → (is_leaf_block m.grid b ≡ true) × (b.level < m.grid.shape.max)
  pub derefine : (b : BlockAt) → m.derefine b ≡ true → (is_leaf_block m.grid b ≡ true) × (m.grid.shape.min < b.level)

-- the grid is valid, its leaves are listed in Morton order, there are not too many nodes, and marks stand where they may be
pub record ValidMarkedGrid (m : MarkedGrid) : Type 0 where
  pub grid : Valid m.grid
  pub order : Sorted m.grid.leaves
  pub nodes : FewNodes m.grid
  pub marks : MarksFit m
