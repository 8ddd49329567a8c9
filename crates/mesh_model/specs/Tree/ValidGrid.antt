-- When a grid is valid: its leaves tile the domain and keep the level rule.
use Rattle.std.specs.Prelude.{◌≡◌, suc, true, ◌≤◌, length}
use Rattle.amr_num.specs.declared.BlockAt.{BlockAt}
use Rattle.mesh_model.specs.Geometry.Blocks.{InDomain, LiesIn}
use Rattle.mesh_model.specs.Tree.Kinds.{Grid}
pub use Rattle.mesh_model.specs.Tree.Order.{IsIn}
use Rattle.mesh_model.specs.Tree.Order.{nodes}
use Rattle.mesh_model.specs.Geometry.Touch.{touches}
use Rattle.mesh_model.specs.Geometry.Limits.{IsShape, most_nodes}

-- each finest block of the domain lies in exactly one leaf
pub record Tiles (g : Grid) : Type 0 where
  pub inside : (leaf : BlockAt) → IsIn leaf g.leaves → InDomain g.shape leaf
  pub covered : (b : BlockAt) → InDomain g.shape b → b.level ≡ g.shape.max → (leaf : BlockAt) × IsIn leaf g.leaves × LiesIn b leaf
  pub once : (b leaf other : BlockAt) → b.level ≡ g.shape.max → IsIn leaf g.leaves → IsIn other g.leaves → LiesIn b leaf → LiesIn b other → leaf ≡ other

-- touching leaves differ by at most one level
pub record LevelRule (g : Grid) : Type 0 where
  pub near : (leaf other : BlockAt) → IsIn leaf g.leaves → IsIn other g.leaves → touches g.shape leaf other ≡ true → leaf.level ≤ suc other.level

-- the leaves tile the domain, and keep the level rule
pub record Valid (g : Grid) : Type 0 where
  pub shape : IsShape g.shape
  pub tiles : Tiles g
  pub rule : LevelRule g

-- the tree has at most the limit of nodes
abbrev pub FewNodes : Grid → Type 0
FewNodes g = length (nodes g.leaves) ≤ most_nodes g.shape

-- the leaves are the roots
pub record AllRoots (g : Grid) : Type 0 where
  pub root : (b : BlockAt) → IsIn b g.leaves → InDomain g.shape b × (b.level ≡ 0)
  pub every : (b : BlockAt) → InDomain g.shape b → b.level ≡ 0 → IsIn b g.leaves
