-- The tree as its nodes are reported: numbers, kinds and neighbours, read from the leaves.
use Rattle.std.specs.Prelude.{ℕ, suc, ◌*◌, ◌^◌, ◌==◌, if◌then◌else◌, ℤ, pos, negsuc, List, [], ◌∷◌, Option, Some, None}
use Rattle.std.specs.Option.{option_map}
use Rattle.amr_num.specs.declared.Axis.{Axis}
use Rattle.amr_num.specs.declared.Axis.TheVariants.{X, Y, Z}
use Rattle.amr_num.specs.declared.BlockAt.{BlockAt}
use Rattle.mesh_model.specs.declared.geometry.Shape.{Shape}
use Rattle.mesh_model.specs.Geometry.Blocks.{parent_block, is_same_block}
use Rattle.mesh_model.specs.Geometry.Coordinates.{above, below, is_periodic, roots}
use Rattle.mesh_model.specs.Tree.Order.{nodes}
use Rattle.mesh_model.specs.declared.tree.NodeKind.{NodeKind}
use Rattle.mesh_model.specs.declared.tree.NodeKind.TheVariants.{Leaf, AboveLeaf, Inner}
use Rattle.mesh_model.specs.Tree.Kinds.{Grid, kind_of}
use Rattle.mesh_model.specs.Geometry.Touch.{block_on}

-- the place of a block in a list of blocks, from 0
abbrev pub node_place : BlockAt → List BlockAt → Option ℕ
node_place b [] = None
node_place b (c ∷ cs) = if is_same_block c b then Some 0 else option_map suc (node_place b cs)

-- the number of a node: its place in Morton order
abbrev pub node_number : Grid → BlockAt → Option ℕ
node_number g b = node_place b (nodes g.leaves)

-- the block above a node, which a root has not
abbrev pub block_above : BlockAt → Option BlockAt
block_above b = if b.level == 0 then None else Some (parent_block b)

-- b with another coordinate on an axis
abbrev pub with_place : Axis → ℕ → BlockAt → BlockAt
with_place X p b = record { level = b.level; x = p; y = b.y; z = b.z }
with_place Y p b = record { level = b.level; x = b.x; y = p; z = b.z }
with_place Z p b = record { level = b.level; x = b.x; y = b.y; z = p }

-- how many blocks of a level stand side by side on an axis
abbrev pub blocks_along : Shape → Axis → ℕ → ℕ
blocks_along s a l = roots s a * 2 ^ l

-- the block of the same level across a block's low and its high side on an axis, where that is no outer boundary
abbrev pub low_neighbour : Shape → Axis → BlockAt → Option BlockAt
low_neighbour s a b = option_map (λ p. with_place a p b) (below (is_periodic s a) (blocks_along s a b.level) (block_on a b))

abbrev pub high_neighbour : Shape → Axis → BlockAt → Option BlockAt
high_neighbour s a b = option_map (λ p. with_place a p b) (above (is_periodic s a) (blocks_along s a b.level) (suc (block_on a b)))

-- the type of a node as it is reported: 1 a leaf, 2 a parent of at least one leaf, 3 any other
abbrev pub type_number : NodeKind → ℕ
type_number Leaf = 1
type_number AboveLeaf = 2
type_number Inner = 3

abbrev pub type_of : Grid → BlockAt → ℕ
type_of g b = type_number (kind_of g b)

-- a node's number as it is reported: -1 where there is no such node
abbrev pub reported : Option ℕ → ℤ
reported None = negsuc 0
reported (Some number) = pos number

-- the number of the parent, -1 for a root
abbrev pub parent_reported : Grid → BlockAt → ℤ
parent_reported g b = elim (block_above b) [ Some p ↦ reported (node_number g p) | None ↦ negsuc 0 ]

-- what is reported of the neighbour across a side: its number, -1 where it is no node, -20 at an outer boundary
abbrev pub across : Grid → Option BlockAt → ℤ
across g None = negsuc 19
across g (Some b) = reported (node_number g b)

-- what is reported across the six sides
abbrev pub all_across : Grid → BlockAt → List ℤ
all_across g b =
    across g (low_neighbour g.shape X b) ∷ across g (high_neighbour g.shape X b)
    ∷ across g (low_neighbour g.shape Y b) ∷ across g (high_neighbour g.shape Y b)
    ∷ across g (low_neighbour g.shape Z b) ∷ across g (high_neighbour g.shape Z b) ∷ []
