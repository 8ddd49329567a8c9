-- Lines of edges of a block: its edges along an axis that stand one behind the other, at a position on each of the two axes after it.
use Rattle.std.specs.Prelude.{ℕ, zero, suc, ◌+◌, ◌-◌, ◌*◌, ◌/◌, ◌<◌, ◌≤◌, Bool, false, nat_lt, if◌then◌else◌, ℤ}
use Rattle.amr_num.specs.declared.Axis.{Axis}
use Rattle.amr_num.specs.declared.Axis.TheVariants.{X, Y, Z}
use Rattle.amr_num.specs.declared.BlockAt.{BlockAt}
use Rattle.amr_num.specs.declared.CellAt.{CellAt}
use Rattle.amr_num.specs.declared.EdgeAt.{EdgeAt}
use Rattle.amr_num.specs.Numbers.{sum_below}
use Rattle.mesh_model.specs.declared.geometry.Shape.{Shape}
use Rattle.mesh_model.specs.Fields.EdgeSplits.{end_step}
use Rattle.mesh_model.specs.Geometry.Blocks.{child_block}
use Rattle.mesh_model.specs.Geometry.Coordinates.{half_edge}
use Rattle.mesh_model.specs.Tree.Kinds.{Grid, is_split_edge}
use Rattle.block_tree.specs.Directions.{across, edge_name, lies_round}
use Rattle.block_tree.specs.declared.directions.Direction.{Direction}

-- ---- places

-- p along an axis, and s and t on the two axes after it
abbrev pub line_place : Axis → ℕ → ℕ → ℕ → CellAt
line_place X p s t = record { level = 0; x = p; y = s; z = t }
line_place Y p s t = record { level = 0; x = t; y = p; z = s }
line_place Z p s t = record { level = 0; x = s; y = t; z = p }

-- the places of a block's edges along an axis
pub record IsEdgePlace (n p s t : ℕ) : Type 0 where
  pub along : p < n
  pub first : s ≤ n
  pub second : t ≤ n

-- the canonical name of a block's edge there
unfoldable pub edge_there : Shape → Axis → BlockAt → ℕ → ℕ → ℕ → EdgeAt
edge_there s a b p q r = edge_name s a b (line_place a p q r).x (line_place a p q r).y (line_place a p q r).z

-- the part of a block's boundary on which a line lies
abbrev pub line_part : ℕ → Axis → ℕ → ℕ → Direction
line_part n a s t = across a (end_step n s) (end_step n t)

-- finer leaves stand round a line of a block
unfoldable pub has_finer : Grid → Axis → BlockAt → ℕ → ℕ → Bool
has_finer g a b s t = lies_round g false b (line_part g.shape.n a s t)

-- ---- the same line in the block one step away

-- a position of a block on an axis, in the block that lies one step down the axis, at it, or one step up
abbrev pub beyond : ℕ → ℕ → ℕ → ℕ
beyond n zero p = n
beyond n (suc zero) p = p
beyond n (suc (suc s)) p = 0

-- the step of a direction on an axis
abbrev pub step_on : Axis → Direction → ℕ
step_on X d = d.x
step_on Y d = d.y
step_on Z d = d.z

-- ---- the same line in a child

-- the half of a block in which a place on an axis lies, where the middle belongs to the high half
abbrev pub half_with : ℕ → ℕ → ℕ
half_with n p = if nat_lt p (n / 2) then 0 else 1

-- the place in the child there at which it lies
abbrev pub place_within : ℕ → ℕ → ℕ
place_within n p = 2 * p - n * half_with n p

-- the octant of a block in the half h on an axis, and j and k on the two axes after it
abbrev pub octant_at : Axis → ℕ → ℕ → ℕ → ℕ
octant_at X h j k = h + 2 * j + 4 * k
octant_at Y h j k = k + 2 * h + 4 * j
octant_at Z h j k = j + 2 * k + 4 * h

-- the child of a block in which the half h of a line lies
abbrev pub child_on : ℕ → Axis → BlockAt → ℕ → ℕ → ℕ → BlockAt
child_on n a b h s t = child_block b (octant_at a h (half_with n s) (half_with n t))

-- ---- fields

-- the sum of a field at the two halves of an edge
abbrev pub sum_of_halves : (EdgeAt → ℤ) → EdgeAt → ℤ
sum_of_halves field e = sum_below 2 (λ h. field (half_edge e h))

-- a field on edges with that sum at each edge that has a split cell round it
abbrev pub halved : Grid → (EdgeAt → ℤ) → EdgeAt → ℤ
halved g field e = if is_split_edge g e then sum_of_halves field e else field e
