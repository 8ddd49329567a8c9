-- The texts of a tree's nodes by their numbers.
use Rattle.std.specs.Prelude.{ℕ, if◌then◌else◌, List, [], ◌∷◌, length, codes, decimal, ℤ}
use Rattle.std.specs.Fmt.{signed_decimal}
use Rattle.amr_num.specs.declared.Axis.{Axis}
use Rattle.amr_num.specs.declared.BlockAt.{BlockAt}
use Rattle.block_tree.specs.Numbered.{block_at}
use Rattle.mesh_model.specs.Tree.Order.{nodes}
use Rattle.mesh_model.specs.Tree.Kinds.{Grid, is_leaf_block}
use Rattle.mesh_model.specs.Run.Texts.{text_line}
use Rattle.mesh_model.specs.Tree.Reported.{across, high_neighbour, low_neighbour}
use Rattle.mesh_model.specs.Run.TreeText.{node_text}
use Rattle.amr_report.specs.Printing.{with_words}

-- what is printed of a node's block where the node is a leaf, and nothing for any other node
abbrev pub of_leaf : Grid → (BlockAt → List ℕ) → ℕ → List ℕ
of_leaf g text node = if is_leaf_block g (block_at g node) then text (block_at g node) else []

-- the words of a node's line up to its place
abbrev pub node_begin : ℕ → BlockAt → List ℕ
node_begin number b = with_words (codes "node") (decimal number ∷ codes "level" ∷ decimal b.level ∷ codes "at" ∷ decimal b.x ∷ decimal b.y ∷ decimal b.z ∷ [])

-- its type and the number of its parent as they are reported, after other words
abbrev pub with_kind : List ℕ → ℕ → ℤ → List ℕ
with_kind line kind parent = with_words line (codes "type" ∷ decimal kind ∷ codes "parent" ∷ signed_decimal parent ∷ codes "faces" ∷ [])

-- what lies across both sides of a block on an axis, after other words
abbrev pub with_across : List ℕ → Grid → Axis → BlockAt → List ℕ
with_across line g a b = with_words line (signed_decimal (across g (low_neighbour g.shape a b)) ∷ signed_decimal (across g (high_neighbour g.shape a b)) ∷ [])

-- the line of a node, by its number
unfoldable pub node_line : Grid → ℕ → List ℕ
node_line g node = node_text g node (block_at g node)
