-- Sums over the nodes of a tree.
use Rattle.std.specs.Prelude.{ℕ, ℤ, pos, if◌then◌else◌}
use Rattle.amr_num.specs.declared.CellAt.{CellAt}
use Rattle.block_tree.specs.Numbered.{block_at}
use Rattle.mesh_model.specs.Fields.Totals.{block_sum}
use Rattle.mesh_model.specs.Tree.Kinds.{Grid, is_leaf_block}

-- what a node adds to the total of a field: the sum over its cells, where it is a leaf
abbrev pub node_sum : Grid → (CellAt → ℤ) → ℕ → ℤ
node_sum g content node = if is_leaf_block g (block_at g node) then block_sum g.shape.n content (block_at g node) else pos 0
