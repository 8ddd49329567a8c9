-- Sets of leaves that may be refined, and of parents that may be merged.
use Rattle.std.specs.Prelude.{◌≡◌, ℕ, ◌<◌, Bool, true, false}
use Rattle.amr_num.specs.declared.BlockAt.{BlockAt}
use Rattle.mesh_model.specs.Geometry.Blocks.{child_block}
use Rattle.mesh_model.specs.Tree.Closure.{is_refined}
use Rattle.mesh_model.specs.Tree.MarkedGrid.{MarkedGrid}
use Rattle.mesh_model.specs.Tree.Order.{IsIn}
use Rattle.mesh_model.specs.Tree.Regrown.{regrown}
use Rattle.mesh_model.specs.Tree.ValidGrid.{LevelRule}

-- a set of leaves that holds the marked ones, and may be refined under the level rule
pub record MayRefine (m : MarkedGrid) (set : BlockAt → Bool) : Type 0 where
  pub marks : (b : BlockAt) → IsIn b m.grid.leaves → m.refine b ≡ true → set b ≡ true
  pub deep : (b : BlockAt) → IsIn b m.grid.leaves → set b ≡ true → b.level < m.grid.shape.max
  pub rule : LevelRule (regrown m.grid set (λ p. false))

-- a set of parents, each of eight leaves that are marked derefine, which may be merged beside the refined leaves under the level rule
pub record MayMerge (m : MarkedGrid) (set : BlockAt → Bool) : Type 0 where
  pub leaf : (p : BlockAt) (q : ℕ) → set p ≡ true → q < 8 → IsIn (child_block p q) m.grid.leaves
  pub marked : (p : BlockAt) (q : ℕ) → set p ≡ true → q < 8 → m.derefine (child_block p q) ≡ true
  pub stays : (p : BlockAt) (q : ℕ) → set p ≡ true → q < 8 → is_refined m (child_block p q) ≡ false
  pub rule : LevelRule (regrown m.grid (is_refined m) set)
