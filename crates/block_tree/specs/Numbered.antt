-- Nodes by their numbers: a node's number is its place among all nodes by rising key, from 0.
use Rattle.std.specs.Prelude.{◌≡◌, ℕ, ◌<◌, Bool, true, false, ◌&&◌, List, length, slice_index_or}
use Rattle.std.specs.List.{list_any, range_with_len}
use Rattle.amr_num.specs.declared.BlockAt.{BlockAt}
use Rattle.amr_num.specs.declared.CellAt.{CellAt}
use Rattle.mesh_model.specs.Tree.Kinds.{Grid, block_of, is_leaf_block}
use Rattle.mesh_model.specs.Tree.Order.{nodes}
use Rattle.mesh_model.specs.Geometry.Blocks.{is_same_block, LiesIn}

-- there is a node with this number
abbrev pub IsNode : Grid → ℕ → Type 0
IsNode g node = node < length (nodes g.leaves)

-- the block at a place of a list
abbrev pub block_in : List BlockAt → ℕ → BlockAt
block_in all place = slice_index_or all place (record { level = 0; x = 0; y = 0; z = 0 })

-- the block of a node
unfoldable pub block_at : Grid → ℕ → BlockAt
block_at g node = block_in (nodes g.leaves) node

-- b is a node, and this is its number
pub record IsNumberOf (g : Grid) (b : BlockAt) (node : ℕ) : Type 0 where
  pub there : IsNode g node
  pub block : block_at g node ≡ b

-- the node is the leaf in which a cell lies
pub record IsLeafOver (g : Grid) (c : CellAt) (node : ℕ) : Type 0 where
  pub there : IsNode g node
  pub leaf : is_leaf_block g (block_at g node) ≡ true
  pub over : LiesIn (block_of g.shape.n c) (block_at g node)

-- the flag at a place of a list
abbrev pub flag_in : List Bool → ℕ → Bool
flag_in flags place = slice_index_or flags place false

-- the set of the blocks of flagged nodes
unfoldable pub blocks_of : Grid → (ℕ → Bool) → BlockAt → Bool
blocks_of g flag b = list_any (λ node. flag node && is_same_block (block_at g node) b) (range_with_len 0 (length (nodes g.leaves)))
