-- The faces of blocks by their places along an axis and across it, and the blocks at their sides.
use Rattle.std.specs.Prelude.{◌≡◌, ℕ, ◌+◌, ◌*◌, ◌/◌, ◌%◌, ◌<◌, ◌≤◌, Bool, true, false, not, None}
use Rattle.amr_num.specs.declared.Axis.{Axis}
use Rattle.amr_num.specs.declared.Axis.TheVariants.{X, Y, Z}
use Rattle.amr_num.specs.declared.BlockAt.{BlockAt}
use Rattle.amr_num.specs.declared.CellAt.{CellAt}
use Rattle.amr_num.specs.declared.FaceAt.{FaceAt}
use Rattle.mesh_model.specs.declared.geometry.Shape.{Shape}
use Rattle.mesh_model.specs.Geometry.Blocks.{child_block}
use Rattle.mesh_model.specs.Geometry.Coordinates.{face_of}
use Rattle.mesh_model.specs.Geometry.Canonical.{canonical_on}
use Rattle.mesh_model.specs.Geometry.Places.{in_block}
use Rattle.mesh_model.specs.Tree.Kinds.{Grid}
use Rattle.block_tree.specs.Beside.{finer_beside}

-- p along an axis, and s and t across it, in the order of the other axes
abbrev pub spot : Axis → ℕ → ℕ → ℕ → CellAt
spot X p s t = record { level = 0; x = p; y = s; z = t }
spot Y p s t = record { level = 0; x = s; y = p; z = t }
spot Z p s t = record { level = 0; x = s; y = t; z = p }

-- the canonical name of a block's face there
unfoldable pub face_name : Shape → Axis → BlockAt → ℕ → ℕ → ℕ → FaceAt
face_name s a b p q r = face_of a (canonical_on s a (in_block s.n b (spot a p q r).x (spot a p q r).y (spot a p q r).z))

-- the places of a block's faces normal to an axis
pub record IsFacePlace (n p s t : ℕ) : Type 0 where
  pub along : p ≤ n
  pub first : s < n
  pub second : t < n

-- a block's low and high side: the position of its faces, and the half of the block there
abbrev pub side_position : ℕ → Bool → ℕ
side_position n false = 0
side_position n true = n

abbrev pub side_half : Bool → ℕ
side_half false = 0
side_half true = 1

-- the octant of a block that is its quarter q, j + 2 k, i + 2 k or i + 2 j, of the half h on an axis
abbrev pub octant_on : Axis → ℕ → ℕ → ℕ
octant_on X h q = h + 2 * (q % 2) + 4 * (q / 2 % 2)
octant_on Y h q = q % 2 + 2 * h + 4 * (q / 2 % 2)
octant_on Z h q = q % 2 + 2 * (q / 2 % 2) + 4 * h

-- the child of the block d beside b that stands at b's side, in a quarter of it
abbrev pub child_beside : Axis → Bool → ℕ → BlockAt → BlockAt
child_beside a high q d = child_block d (octant_on a (side_half (not high)) q)

-- the quarter of a side in which the place (s, t) lies
abbrev pub quarter_at : ℕ → ℕ → ℕ → ℕ
quarter_at n s t = s / (n / 2) + 2 * (t / (n / 2))

-- no finer leaves stand at the faces of b at the position p
abbrev pub IsCalm : Grid → Axis → BlockAt → ℕ → Type 0
IsCalm g a b p = (high : Bool) → p ≡ side_position g.shape.n high → finer_beside g a high b ≡ None
