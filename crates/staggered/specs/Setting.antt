-- One face that is set.
use Rattle.std.specs.Prelude.{◌≡◌, ℕ, ◌+◌, ◌%◌, ◌<◌, Bool, true, if◌then◌else◌, Option, Some, None, ℤ}
use Rattle.amr_num.specs.declared.Axis.{Axis}
use Rattle.amr_num.specs.declared.Axis.TheVariants.{X, Y, Z}
use Rattle.amr_num.specs.declared.CellAt.{CellAt}
use Rattle.amr_num.specs.declared.FaceAt.{FaceAt}
use Rattle.mesh_model.specs.declared.geometry.Shape.{Shape}
use Rattle.mesh_model.specs.Fields.FinePlaces.{faces_in}
use Rattle.mesh_model.specs.Fields.Ranks.{WorldState}
use Rattle.mesh_model.specs.Geometry.Canonical.{canonical_on}
use Rattle.mesh_model.specs.Geometry.Coordinates.{face_of, is_same_face, step}
use Rattle.mesh_model.specs.Geometry.Places.{in_block, longer_on}
use Rattle.mesh_model.specs.Tree.Kinds.{Grid, block_of, is_leaf}
use Rattle.block_tree.specs.Numbered.{block_at}
use Rattle.block_tree.specs.SideFaces.{side_half}
use Rattle.rank_world.specs.Holding.{IsLeafNode, face_array}

-- a place of a block's faces normal to an axis
pub record IsPlace (n : ℕ) (a : Axis) (i j k : ℕ) : Type 0 where
  pub x : i < longer_on a X n
  pub y : j < longer_on a Y n
  pub z : k < longer_on a Z n

-- the canonical name of a node's face there, and the number that the node has for it
abbrev pub name_at : Grid → Axis → ℕ → ℕ → ℕ → ℕ → FaceAt
name_at g a node i j k = face_of a (canonical_on g.shape a (in_block g.shape.n (block_at g node) i j k))

abbrev pub number_in : Grid → WorldState → Axis → ℕ → ℕ → ℕ → ℕ → ℤ
number_in g w a node i j k = faces_in g a (face_array w a node) (g.shape.g + i) (g.shape.g + j) (g.shape.g + k)

abbrev pub number_of : WorldState → Axis → ℕ → ℕ → ℕ → ℕ → ℤ
number_of w = number_in w.told.grid w

-- each leaf has the value wherever its face is the one that is set, and what it had at all other places
pub record IsFaceSet (old new : WorldState) (at : FaceAt) (value : ℤ) : Type 0 where
  pub told : new.told ≡ old.told
  pub each : (node : ℕ) (a : Axis) (i j k : ℕ) → IsLeafNode old.told.grid node → IsPlace old.told.grid.shape.n a i j k →
      number_of new a node i j k ≡ (if is_same_face (name_at old.told.grid a node i j k) at then value else number_of old a node i j k)

-- a field with another number on one face
abbrev pub with_face : (FaceAt → ℤ) → FaceAt → ℤ → FaceAt → ℤ
with_face field at value f = if is_same_face f at then value else field f

-- ---- on the way: the face at a side of one cell

-- the place of the face on the low or the high side of a cell, in the block in which the cell lies
abbrev pub side_place : ℕ → Axis → Bool → CellAt → CellAt
side_place n a high c = record { level = 0; x = c.x % n + (step a (side_half high)).x; y = c.y % n + (step a (side_half high)).y; z = c.z % n + (step a (side_half high)).z }

abbrev pub side_face : Shape → Axis → Bool → CellAt → FaceAt
side_face s a high c = face_of a (canonical_on s a (in_block s.n (block_of s.n c) (side_place s.n a high c).x (side_place s.n a high c).y (side_place s.n a high c).z))

-- the leaf in which a cell lies, if any, has the value there, and no number has changed elsewhere
pub record IsSideSet (g : Grid) (old new : WorldState) (a : Axis) (high : Bool) (value : ℤ) (c : CellAt) : Type 0 where
  pub here : (node : ℕ) → IsLeafNode g node → block_at g node ≡ block_of g.shape.n c → (let p = side_place g.shape.n a high c in number_in g new a node p.x p.y p.z ≡ value)
  pub keeps : (node : ℕ) (x : Axis) (i j k : ℕ) → IsPlace g.shape.n x i j k → number_in g old x node i j k ≡ value → number_in g new x node i j k ≡ value
  pub others : (node : ℕ) (x : Axis) (i j k : ℕ) → IsPlace g.shape.n x i j k → (is_leaf g c ≡ true → name_at g x node i j k ≡ side_face g.shape a high c → ⊥) →
      number_in g new x node i j k ≡ number_in g old x node i j k

-- so it is for the cell on one side of a face, where one is there
abbrev pub IsBesideSet : Grid → WorldState → WorldState → Axis → Bool → ℤ → Option CellAt → Type 0
IsBesideSet g old new a high value None = new ≡ old
IsBesideSet g old new a high value (Some c) = IsSideSet g old new a high value c
