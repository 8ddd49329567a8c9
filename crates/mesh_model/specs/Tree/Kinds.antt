-- The grid: its leaves, and which cells, faces and edges are leaf ones, split, or inside coarser ones.
use Rattle.std.specs.Prelude.{ℕ, ◌-◌, ◌/◌, ◌^◌, Bool, false, not, ◌&&◌, ◌||◌, ◌==◌, nat_lt, nat_le, List, Option, Some, None, if◌then◌else◌}
use Rattle.std.specs.List.{list_any}
use Rattle.amr_num.specs.declared.BlockAt.{BlockAt}
use Rattle.amr_num.specs.declared.CellAt.{CellAt}
use Rattle.amr_num.specs.declared.FaceAt.{FaceAt}
use Rattle.amr_num.specs.declared.EdgeAt.{EdgeAt}
use Rattle.mesh_model.specs.declared.geometry.Shape.{Shape}
use Rattle.mesh_model.specs.declared.tree.NodeKind.{NodeKind}
use Rattle.mesh_model.specs.declared.tree.NodeKind.TheVariants.{Leaf, AboveLeaf, Inner}
use Rattle.mesh_model.specs.Geometry.Blocks.{children, lies_in}
use Rattle.mesh_model.specs.Geometry.Coordinates.{low_cell, high_cell, round_edge}

-- the domain, and the blocks that are leaves
pub record Grid : Type 0 where
  pub shape : Shape
  pub leaves : List BlockAt

-- the block of n cells along each axis in which a cell lies
abbrev pub block_of : ℕ → CellAt → BlockAt
block_of n c = record { level = c.level; x = c.x / n; y = c.y / n; z = c.z / n }

-- b is a leaf; finer leaves lie in b
unfoldable pub is_leaf_block : Grid → BlockAt → Bool
is_leaf_block g b = list_any (λ leaf. (leaf.level == b.level) && lies_in leaf b) g.leaves

unfoldable pub is_split_block : Grid → BlockAt → Bool
is_split_block g b = list_any (λ leaf. nat_lt b.level leaf.level && lies_in leaf b) g.leaves

-- a cell is a leaf cell, or split, as its block is a leaf or split; otherwise it lies inside a coarser leaf or outside the domain
abbrev pub is_leaf : Grid → CellAt → Bool
is_leaf g c = is_leaf_block g (block_of g.shape.n c)

abbrev pub is_split : Grid → CellAt → Bool
is_split g c = is_split_block g (block_of g.shape.n c)

-- a cell is there and passes
abbrev pub holds : (CellAt → Bool) → Option CellAt → Bool
holds p None = false
holds p (Some c) = p c

-- a face has a split side; it is a leaf face: a cell beside it is a leaf cell and none is split
unfoldable pub is_split_face : Grid → FaceAt → Bool
is_split_face g f = holds (is_split g) (low_cell g.shape f) || holds (is_split g) (high_cell g.shape f)

unfoldable pub is_leaf_face : Grid → FaceAt → Bool
is_leaf_face g f = (holds (is_leaf g) (low_cell g.shape f) || holds (is_leaf g) (high_cell g.shape f)) && not (is_split_face g f)

-- the same of an edge and the up to four cells round it
unfoldable pub is_split_edge : Grid → EdgeAt → Bool
is_split_edge g e = list_any (holds (is_split g)) (round_edge g.shape e)

unfoldable pub is_leaf_edge : Grid → EdgeAt → Bool
is_leaf_edge g e = list_any (holds (is_leaf g)) (round_edge g.shape e) && not (is_split_edge g e)

-- a parent of at least one leaf
abbrev pub is_above_leaf : Grid → BlockAt → Bool
is_above_leaf g b = list_any (is_leaf_block g) (children b)

-- what a node is: a leaf, a parent of at least one leaf, or any other
unfoldable pub kind_of : Grid → BlockAt → NodeKind
kind_of g b = if is_leaf_block g b then Leaf else (if is_above_leaf g b then AboveLeaf else Inner)
