-- Blocks in Morton order, and the nodes of a tree.
use Rattle.std.specs.Prelude.{◌≡◌, ℕ, zero, suc, ◌<◌, ◌⊎◌, true, false, List, [], ◌∷◌, ◌++◌, flat_map}
unfoldable pub use Rattle.amr_num.specs.MortonKey.{interleave, morton, key}
use Rattle.amr_num.specs.declared.BlockAt.{BlockAt}
use Rattle.mesh_model.specs.Geometry.Blocks.{parent_block, is_first_child}

-- b is one of the blocks
abbrev pub IsIn : BlockAt → List BlockAt → Type 0
IsIn b [] = ⊥
IsIn b (leaf ∷ leaves) = (leaf ≡ b) ⊎ IsIn b leaves

-- the blocks go by rising key
abbrev pub Sorted : List BlockAt → Type 0
Sorted [] = Unit
Sorted (b ∷ bs) = ((c : BlockAt) → IsIn c bs → key b < key c) × Sorted bs

-- a block of level l, and before it the ancestors that begin where it does, the coarsest first
unfoldable pub begun_at : ℕ → BlockAt → List BlockAt
begun_at zero b = b ∷ []
begun_at (suc l) b = elim (is_first_child b) [
  | true ↦ begun_at l (parent_block b) ++ b ∷ []
  | false ↦ b ∷ []
]

-- the nodes of the tree with these leaves, which are the leaves and their ancestors, by rising key
unfoldable pub nodes : List BlockAt → List BlockAt
nodes leaves = flat_map (λ b. begun_at b.level b) leaves
