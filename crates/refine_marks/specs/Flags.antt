-- Lists with one flag for each node of a tree, and the sets of blocks that they stand for.
use Rattle.std.specs.Prelude.{◌≡◌, ℕ, Bool, ◌&&◌, ◌||◌, ◌==◌, List, length}
use Rattle.std.specs.List.{list_any}
use Rattle.amr_num.specs.declared.BlockAt.{BlockAt}
use Rattle.mesh_model.specs.Tree.Order.{nodes}
use Rattle.mesh_model.specs.Tree.Kinds.{Grid}
use Rattle.mesh_model.specs.Geometry.Blocks.{is_same_block}
use Rattle.mesh_model.specs.Geometry.Touch.{touches}
use Rattle.block_tree.specs.Numbered.{IsNode, block_at, flag_in}

-- the list has one flag for each node
abbrev pub IsOnePerNode : Grid → List Bool → Type 0
IsOnePerNode g flags = length flags ≡ length (nodes g.leaves)

-- the flags are those of the blocks of a set
pub record AreFlagsOf (g : Grid) (set : BlockAt → Bool) (flags : List Bool) : Type 0 where
  pub size : length flags ≡ length (nodes g.leaves)
  pub each : (node : ℕ) → IsNode g node → flag_in flags node ≡ set (block_at g node)

-- so they are on level l
pub record AreFlagsAt (g : Grid) (l : ℕ) (set : BlockAt → Bool) (flags : List Bool) : Type 0 where
  pub each : (node : ℕ) → IsNode g node → (block_at g node).level ≡ l → flag_in flags node ≡ set (block_at g node)

-- some leaf of level l that touches b is in the set
unfoldable pub touches_any : Grid → (BlockAt → Bool) → ℕ → BlockAt → Bool
touches_any g set l b = list_any (λ leaf. (leaf.level == l) && touches g.shape leaf b && set leaf) g.leaves

-- a set becomes one with one more block, and stays as it is
abbrev pub AddsBlock : BlockAt → (BlockAt → Bool) → (BlockAt → Bool) → Type 0
AddsBlock at old new = (b : BlockAt) → new b ≡ (is_same_block b at || old b)

abbrev pub IsSameSet : (BlockAt → Bool) → (BlockAt → Bool) → Type 0
IsSameSet old new = (b : BlockAt) → new b ≡ old b
