-- Blocks that touch: their closed boxes meet, with wrap on periodic axes.
use Rattle.std.specs.Prelude.{ℕ, suc, ◌+◌, ◌-◌, ◌*◌, ◌^◌, Bool, ◌&&◌, ◌||◌, nat_le}
unfoldable pub use Rattle.amr_num.specs.MortonKey.{low_end}
use Rattle.amr_num.specs.Numbers.{finest_level}
use Rattle.amr_num.specs.declared.Axis.{Axis}
use Rattle.amr_num.specs.declared.Axis.TheVariants.{X, Y, Z}
use Rattle.amr_num.specs.declared.BlockAt.{BlockAt}
use Rattle.mesh_model.specs.declared.geometry.Shape.{Shape}
use Rattle.mesh_model.specs.Geometry.Coordinates.{is_periodic, roots}

-- a block's coordinate on an axis
abbrev pub block_on : Axis → BlockAt → ℕ
block_on X b = b.x
block_on Y b = b.y
block_on Z b = b.z

-- where the block at x of level l ends on an axis, in blocks of the finest level 10; it begins at its low end
unfoldable pub high_end : ℕ → ℕ → ℕ
high_end l x = suc x * 2 ^ (finest_level - l)

-- on an axis of e units the closed stretches [a, a'] and [b, b'] meet, also one turn further on a periodic axis
unfoldable pub stretches_meet : Bool → ℕ → ℕ → ℕ → ℕ → ℕ → Bool
stretches_meet periodic e a a' b b' =
    (nat_le a b' && nat_le b a') || (periodic && (nat_le (a + e) b' || nat_le (b + e) a'))

-- the boxes of two blocks meet on an axis
abbrev pub meet_on : Shape → BlockAt → BlockAt → Axis → Bool
meet_on s a b axis = stretches_meet (is_periodic s axis) (roots s axis * 2 ^ finest_level) (low_end a.level (block_on axis a)) (high_end a.level (block_on axis a)) (low_end b.level (block_on axis b)) (high_end b.level (block_on axis b))

-- two blocks touch where their closed boxes meet on each axis: in a face, an edge or a corner, or as one block
unfoldable pub touches : Shape → BlockAt → BlockAt → Bool
touches s a b = meet_on s a b X && meet_on s a b Y && meet_on s a b Z
