-- The nodes in a node's place after refining and merging.
use Rattle.std.specs.Prelude.{Bool, ◌&&◌, nat_lt, if◌then◌else◌, List, [], ◌∷◌}
use Rattle.amr_num.specs.declared.BlockAt.{BlockAt}
use Rattle.mesh_model.specs.Geometry.Blocks.{parent_block, children}

-- a block is a child of a merged parent
unfoldable pub is_taken_back : (BlockAt → Bool) → BlockAt → Bool
is_taken_back merge b = nat_lt 0 b.level && merge (parent_block b)

-- a refined leaf is followed by its children, and the children of a merged parent go
abbrev pub nodes_for : BlockAt → Bool → Bool → List BlockAt
nodes_for b refine goes = if goes then [] else (if refine then b ∷ children b else b ∷ [])
