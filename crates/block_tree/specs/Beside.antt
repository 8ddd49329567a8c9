-- Blocks side by side.
use Rattle.std.specs.Prelude.{◌≡◌, ℕ, suc, ◌*◌, ◌^◌, Bool, true, false, if◌then◌else◌, Option, Some, None}
use Rattle.amr_num.specs.declared.Axis.{Axis}
use Rattle.amr_num.specs.declared.Axis.TheVariants.{X, Y, Z}
use Rattle.amr_num.specs.declared.BlockAt.{BlockAt}
use Rattle.mesh_model.specs.declared.geometry.Shape.{Shape}
use Rattle.mesh_model.specs.Geometry.Coordinates.{above, below, is_periodic, roots}
use Rattle.mesh_model.specs.Geometry.Touch.{block_on}
use Rattle.mesh_model.specs.Tree.Kinds.{Grid, is_leaf_block, is_split_block}
use Rattle.block_tree.specs.Numbered.{IsNode, block_at}

-- the coordinate beside p, on the low or the high side, on an axis of e blocks
abbrev pub beside_on : Bool → Bool → ℕ → ℕ → Option ℕ
beside_on periodic false e p = below periodic e p
beside_on periodic true e p = above periodic e (suc p)

-- b with a coordinate on an axis, where that is there
abbrev pub block_with : Axis → ℕ → BlockAt → BlockAt
block_with X p b = record { level = b.level; x = p; y = b.y; z = b.z }
block_with Y p b = record { level = b.level; x = b.x; y = p; z = b.z }
block_with Z p b = record { level = b.level; x = b.x; y = b.y; z = p }

abbrev pub block_moved : Axis → Option ℕ → BlockAt → Option BlockAt
block_moved a None b = None
block_moved a (Some p) b = Some (block_with a p b)

-- the block of the same level beside b on the low or the high side of an axis, wrapped on a periodic one
unfoldable pub block_beside : Shape → Axis → Bool → BlockAt → Option BlockAt
block_beside s a high b = block_moved a (beside_on (is_periodic s a) high (roots s a * 2 ^ b.level) (block_on a b)) b

-- a block, where it is split
abbrev pub if_split : Grid → Option BlockAt → Option BlockAt
if_split g None = None
if_split g (Some d) = if is_split_block g d then Some d else None

-- the split block beside b: there is one exactly where finer leaves stand on that side
unfoldable pub finer_beside : Grid → Axis → Bool → BlockAt → Option BlockAt
finer_beside g a high b = if_split g (block_beside g.shape a high b)

-- the node is the split block beside b
pub record IsFinerNode (g : Grid) (a : Axis) (high : Bool) (b : BlockAt) (node : ℕ) : Type 0 where
  pub there : IsNode g node
  pub inner : is_leaf_block g (block_at g node) ≡ false
  pub finer : finer_beside g a high b ≡ Some (block_at g node)
