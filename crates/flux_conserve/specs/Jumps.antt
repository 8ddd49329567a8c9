-- Jumps of level at the sides of blocks, and what the coarse faces there take of the finer ones.
use Rattle.std.specs.Prelude.{ℕ, ◌+◌, ◌*◌, ◌/◌, ◌%◌, ◌==◌, Bool, true, false, not, ◌||◌, if◌then◌else◌, Option, Some, None, ℤ}
use Rattle.amr_num.specs.declared.Axis.{Axis}
use Rattle.amr_num.specs.declared.Axis.TheVariants.{X, Y, Z}
use Rattle.amr_num.specs.declared.BlockAt.{BlockAt}
use Rattle.amr_num.specs.declared.FaceAt.{FaceAt}
use Rattle.amr_num.specs.Numbers.{sum_below}
use Rattle.mesh_model.specs.Geometry.Coordinates.{sub_face}
use Rattle.mesh_model.specs.Tree.Kinds.{Grid, is_leaf_block, is_split_face}
pub use Rattle.block_tree.specs.Beside.{beside_on, block_moved, block_with, if_split}
unfoldable pub use Rattle.block_tree.specs.Beside.{block_beside, finer_beside}
pub use Rattle.block_tree.specs.SideFaces.{IsCalm, IsFacePlace, child_beside, octant_on, quarter_at, side_half, side_position, spot}
unfoldable pub use Rattle.block_tree.specs.SideFaces.{face_name}

-- ---- fields

-- a field on faces with the sum of the four finer faces at each face that has a split side
abbrev pub jumped : Grid → (FaceAt → ℤ) → FaceAt → ℤ
jumped g field f = if is_split_face g f then sum_below 4 (λ q. field (sub_face f q)) else field f

-- ---- leaves at jumps

-- a block is there, and is no leaf
abbrev pub is_no_leaf : Grid → Option BlockAt → Bool
is_no_leaf g None = false
is_no_leaf g (Some d) = not (is_leaf_block g d)

-- the level jumps across a side of the leaf b: the block beside it is in the domain and no leaf, since finer leaves or a coarser one stand there
unfoldable pub jumps_at : Grid → Axis → Bool → BlockAt → Bool
jumps_at g a high b = is_no_leaf g (block_beside g.shape a high b)

-- across one of its sides on an axis
abbrev pub jumps_on : Grid → Axis → BlockAt → Bool
jumps_on g a b = jumps_at g a false b || jumps_at g a true b

-- across one of its sides
unfoldable pub is_at_jump : Grid → BlockAt → Bool
is_at_jump g b = (jumps_on g X b || jumps_on g Y b) || jumps_on g Z b

-- ---- faces of blocks by places

-- numbers on the faces of blocks: by the axis that a face is normal to, the block, and the places along the axis and across it
abbrev pub BlockFaces : Type 0
BlockFaces = Axis → BlockAt → ℕ → ℕ → ℕ → ℤ

-- the sum of the four finer faces of the child in the quarter q of a side, at the place (s, t) in the quarter
unfoldable pub quarter_sum : ℕ → BlockFaces → Axis → Bool → BlockAt → ℕ → ℕ → ℕ → ℤ
quarter_sum n faces a high d q s t = sum_below 4 (λ r. faces a (child_beside a high q d) (side_position n (not high)) (2 * s + r % 2) (2 * t + r / 2 % 2))

-- the sum of the four finer faces at the coarse face (s, t) of a side
abbrev pub four_finer : ℕ → BlockFaces → Axis → Bool → BlockAt → ℕ → ℕ → ℤ
four_finer n faces a high d s t = quarter_sum n faces a high d (quarter_at n s t) (s % (n / 2)) (t % (n / 2))

-- the face (s, t) of a side takes that sum where finer leaves stand there
abbrev pub or_four : ℕ → BlockFaces → Axis → Bool → BlockAt → ℕ → ℕ → Option BlockAt → ℤ
or_four n faces a high b s t None = faces a b (side_position n high) s t
or_four n faces a high b s t (Some d) = four_finer n faces a high d s t

-- the numbers after each coarse face at a jump took the sum of its finer ones
unfoldable pub corrected : Grid → BlockFaces → BlockFaces
corrected g faces a b p s t =
    if p == 0 then or_four g.shape.n faces a false b s t (finer_beside g a false b)
    else (if p == g.shape.n then or_four g.shape.n faces a true b s t (finer_beside g a true b) else faces a b p s t)
