-- The nodes of a tree by one flag each, in Morton order: whether the node is a parent.
use Rattle.std.specs.Prelude.{◌≡◌, Bool, true, false, ℕ, nat_lt, if◌then◌else◌, List, [], ◌∷◌, ◌++◌, map, Option, Some, None}
use Rattle.std.specs.Option.{option_map}
use Rattle.amr_num.specs.declared.BlockAt.{BlockAt}
use Rattle.mesh_model.specs.declared.geometry.Shape.{Shape}
use Rattle.mesh_model.specs.Geometry.Blocks.{children}
use Rattle.mesh_model.specs.Tree.Order.{nodes, Sorted}
use Rattle.mesh_model.specs.Tree.Kinds.{Grid, is_split_block}
use Rattle.mesh_model.specs.Tree.ValidGrid.{FewNodes, Valid}

-- the flags of a grid's nodes
abbrev pub flags_of : Grid → List Bool
flags_of g = map (is_split_block g) (nodes g.leaves)

-- a valid grid of a shape, its leaves in Morton order and its nodes not too many, whose nodes have these flags
pub record HasFlags (s : Shape) (above : List Bool) (g : Grid) : Type 0 where
  pub shape : g.shape ≡ s
  pub valid : Valid g
  pub order : Sorted g.leaves
  pub few : FewNodes g
  pub flags : flags_of g ≡ above

-- the blocks of the nodes with these flags, where the blocks of a list are still to come: a parent is above the finest level, and its
-- children are next. Nothing where flags are wanting or left over
abbrev pub visited : ℕ → List Bool → List BlockAt → Option (List BlockAt)
visited max [] [] = Some []
visited max [] (b ∷ bs) = None
visited max (flag ∷ flags) [] = None
visited max (false ∷ flags) (b ∷ bs) = option_map (λ rest. b ∷ rest) (visited max flags bs)
visited max (true ∷ flags) (b ∷ bs) = if nat_lt b.level max then option_map (λ rest. b ∷ rest) (visited max flags (children b ++ bs)) else None

-- those whose flags are down
abbrev pub lowered : List Bool → List BlockAt → List BlockAt
lowered [] bs = []
lowered (flag ∷ flags) [] = []
lowered (false ∷ flags) (b ∷ bs) = b ∷ lowered flags bs
lowered (true ∷ flags) (b ∷ bs) = lowered flags bs
