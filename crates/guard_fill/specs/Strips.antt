-- Strips: the guard cells of a block that lie in one direction, and where their numbers stand.
--
-- A direction is 0, 1 or 2 on each axis, as guard cells lie before the block's own cells, beside them or behind them. All the guard cells of a
-- block in one direction have their numbers from the cells of one block.
use Rattle.std.specs.Prelude.{◌≡◌, ℕ, zero, suc, ◌+◌, ◌-◌, ◌*◌, ◌/◌, ◌%◌, ◌^◌, ◌<◌, ◌≤◌, ◌⊎◌, Bool, true, false, ℤ, nat_lt, if◌then◌else◌}
use Rattle.amr_num.specs.declared.Axis.TheVariants.{X, Y, Z}
use Rattle.amr_num.specs.declared.BlockAt.{BlockAt}
use Rattle.mesh_model.specs.declared.geometry.Shape.{Shape}
use Rattle.mesh_model.specs.Geometry.Coordinates.{is_periodic, roots, wrapped}
use Rattle.mesh_model.specs.Fields.ArrayPlaces.{Box, Extents, side}
use Rattle.mesh_model.specs.Geometry.Outside.{brought_in}
use Rattle.mesh_model.specs.Geometry.Places.{guard_index}
use Rattle.guard_fill.specs.declared.strips.Patch.{Patch}
use Rattle.guard_fill.specs.declared.strips.Strip.{Strip}

-- where the places of a direction begin on an axis, and how many they are, in blocks of n cells with g guard cells on each side
abbrev pub begin_of : ℕ → ℕ → ℕ → ℕ
begin_of n g zero = 0
begin_of n g (suc zero) = g
begin_of n g (suc (suc d)) = g + n

abbrev pub many_of : ℕ → ℕ → ℕ → ℕ
many_of n g zero = g
many_of n g (suc zero) = n
many_of n g (suc (suc d)) = g

-- the cell from which the place t of a strip has its number
abbrev pub cell_at : Strip → ℕ → ℕ
cell_at s t = s.first + s.step * t

-- the places of a patch as a box
abbrev pub box_of : Patch → Box
box_of p = record { x = p.x.to; y = p.y.to; z = p.z.to; along_x = p.x.many; along_y = p.y.many; along_z = p.z.many }

-- of an axis with so many blocks, the one at c is that at b or beside it, also one turn further on a periodic axis
pub record IsBeside (periodic : Bool) (blocks b c : ℕ) : Type 0 where
  pub there : c < blocks
  pub which : ((c ≤ suc b) × (b ≤ suc c)) ⊎ ((periodic ≡ true) × (((b ≡ 0) × (suc c ≡ blocks)) ⊎ ((c ≡ 0) × (suc b ≡ blocks))))

-- the strip has places, which lie within an array, and their cells lie within a block
pub record IsWithin (n g : ℕ) (s : Strip) : Type 0 where
  pub some : 0 < s.many
  pub places : s.to + s.many ≤ side n g
  pub cells : (t : ℕ) → t < s.many → cell_at s t < n

-- and so do those of a patch on each axis
pub record AreWithin (n g : ℕ) (p : Patch) : Type 0 where
  pub x : IsWithin n g p.x
  pub y : IsWithin n g p.y
  pub z : IsWithin n g p.z

-- what the places of a patch get of the numbers of a block's cells
abbrev pub from_cells : Patch → (ℕ → ℕ → ℕ → ℤ) → ℕ → ℕ → ℕ → ℤ
from_cells p cells i j k = cells (cell_at p.x i) (cell_at p.y j) (cell_at p.z k)

-- the numbers of a block's cells, of those of all its places
abbrev pub inner : ℕ → (ℕ → ℕ → ℕ → ℤ) → ℕ → ℕ → ℕ → ℤ
inner g numbers i j k = numbers (g + i) (g + j) (g + k)

-- numbers stand at the cells of an axis, or at positions, of which n cells have one more
abbrev pub one_more : Bool → ℕ → ℕ
one_more true n = n + 1
one_more false n = n

-- the place that stands for a coordinate on an axis of e cells: wrapped on a periodic axis, and clamped on another
abbrev pub brought_to : Bool → Bool → ℕ → ℤ → ℕ
brought_to true periodic e p = brought_in periodic e e p
brought_to false periodic e p = brought_in periodic e (e - 1) p

-- and the name of one in the domain: position e of a periodic axis is position 0
abbrev pub named : Bool → Bool → ℕ → ℕ → ℕ
named true periodic e p = wrapped periodic e p
named false periodic e p = p

-- the strip has the places of a direction on an axis of so many blocks, of a block at b, and each has its number from the cell, or the position, that
-- stands for it
pub record IsReach (n g : ℕ) (positions periodic : Bool) (blocks b direction : ℕ) (s : Strip) : Type 0 where
  pub to : s.to ≡ begin_of (one_more positions n) g direction
  pub many : s.many ≡ many_of (one_more positions n) g direction
  pub beside : IsBeside periodic blocks b s.block
  pub cells : (t : ℕ) → t < s.many → cell_at s t < one_more positions n
  pub stand : (t : ℕ) → t < s.many → brought_to positions periodic (blocks * n) (guard_index n g b (s.to + t)) ≡ named positions periodic (blocks * n) (n * s.block + cell_at s t)

-- on an axis of cells
abbrev pub IsStrip : ℕ → ℕ → Bool → ℕ → ℕ → ℕ → Strip → Type 0
IsStrip n g periodic blocks b direction s = IsReach n g false periodic blocks b direction s

-- the patch has the places of a block in the direction d, which counts x first, then y by threes, then z by nines
pub record IsPatch (n g : ℕ) (s : Shape) (b : BlockAt) (d : ℕ) (p : Patch) : Type 0 where
  pub x : IsStrip n g (is_periodic s X) (roots s X * 2 ^ b.level) b.x (d % 3) p.x
  pub y : IsStrip n g (is_periodic s Y) (roots s Y * 2 ^ b.level) b.y (d / 3 % 3) p.y
  pub z : IsStrip n g (is_periodic s Z) (roots s Z * 2 ^ b.level) b.z (d / 9) p.z

-- the block from whose cells a patch has its numbers
abbrev pub block_of : ℕ → Patch → BlockAt
block_of level p = record { level = level; x = p.x.block; y = p.y.block; z = p.z.block }

-- in which direction a place lies on an axis, and in all
abbrev pub side_at : ℕ → ℕ → ℕ → ℕ
side_at n g i = if nat_lt i g then 0 else (if nat_lt i (g + n) then 1 else 2)

abbrev pub direction_at : ℕ → ℕ → ℕ → ℕ → ℕ → ℕ
direction_at n g i j k = side_at n g i + 3 * side_at n g j + 9 * side_at n g k

-- ---- arrays of any variable

-- a strip has places, which lie within an array of so many along the axis, and the places from which they have their numbers lie behind the first guards
pub record Reaches (many g : ℕ) (s : Strip) : Type 0 where
  pub some : 0 < s.many
  pub to : s.to + s.many ≤ many
  pub from : (t : ℕ) → t < s.many → g + cell_at s t + g < many

pub record AllReach (e : Extents) (g : ℕ) (p : Patch) : Type 0 where
  pub x : Reaches e.x g p.x
  pub y : Reaches e.y g p.y
  pub z : Reaches e.z g p.z

-- what the places of a patch get of the numbers of a block
abbrev pub from_places : ℕ → Patch → (ℕ → ℕ → ℕ → ℤ) → ℕ → ℕ → ℕ → ℤ
from_places g p numbers i j k = numbers (g + cell_at p.x i) (g + cell_at p.y j) (g + cell_at p.z k)
