-- The sides of a child that keep the numbers of leaves beside it.
use Rattle.std.specs.Prelude.{◌≡◌, ◌≢◌, ℕ, ◌+◌, ◌<◌, Bool, true, false, not, Some, List, ℤ}
use Rattle.amr_num.specs.declared.Axis.{Axis}
use Rattle.amr_num.specs.declared.Axis.TheVariants.{X, Y, Z}
use Rattle.amr_num.specs.declared.BlockAt.{BlockAt}
use Rattle.amr_num.specs.declared.FaceAt.{FaceAt}
use Rattle.mesh_model.specs.Geometry.Canonical.{canonical_on}
use Rattle.mesh_model.specs.Geometry.Coordinates.{face_of}
use Rattle.mesh_model.specs.Geometry.Places.{in_block, longer_on}
use Rattle.mesh_model.specs.Tree.Kinds.{Grid, is_leaf_block}
use Rattle.mesh_model.specs.Fields.FaceSplits.{by_axis, is_kept, position, side_direction}
use Rattle.mesh_model.specs.Fields.ArrayPlaces.{Box, IsWritten, face_extents, number_at}
use Rattle.mesh_model.specs.Fields.FinePlaces.{faces_in}
use Rattle.mesh_model.specs.Fields.Ranks.{WorldState}
use Rattle.mesh_model.specs.Fields.Views.{face_view}
use Rattle.block_tree.specs.Beside.{block_beside}
use Rattle.block_tree.specs.Numbered.{block_at}
use Rattle.block_tree.specs.SideFaces.{side_position}
use Rattle.rank_world.specs.Holding.{IsLeafNode, LeavesHoldFaces}
use Rattle.block_store.specs.declared.regions.PlaceAt.{PlaceAt}
use Rattle.leaf_split.specs.declared.faces.Sides.{Sides}

-- the node is the leaf of the block's level that stands beside it on a side; no leaf of its level stands there
pub record IsLeafBeside (g : Grid) (a : Axis) (high : Bool) (b : BlockAt) (node : ℕ) : Type 0 where
  pub leaf : IsLeafNode g node
  pub beside : block_beside g.shape a high b ≡ Some (block_at g node)

abbrev pub NoLeafBeside : Grid → Axis → Bool → BlockAt → Type 0
NoLeafBeside g a high b = (d : BlockAt) → block_beside g.shape a high b ≡ Some d → is_leaf_block g d ≡ false

-- ---- the places of a side in a block's array, where it stands at a position on its axis

abbrev pub side_at : ℕ → Axis → ℕ → PlaceAt
side_at g a p = by_axis (record { x = g + p; y = g; z = g }) (record { x = g; y = g + p; z = g }) (record { x = g; y = g; z = g + p }) a

-- one along the axis, and n on the others
abbrev pub thin_on : Axis → Axis → ℕ → ℕ
thin_on X X n = 1
thin_on X Y n = n
thin_on X Z n = n
thin_on Y X n = n
thin_on Y Y n = 1
thin_on Y Z n = n
thin_on Z X n = n
thin_on Z Y n = n
thin_on Z Z n = 1

abbrev pub side_box : ℕ → ℕ → Axis → ℕ → Box
side_box n g a p = record { x = (side_at g a p).x; y = (side_at g a p).y; z = (side_at g a p).z; along_x = thin_on a X n; along_y = thin_on a Y n; along_z = thin_on a Z n }

-- the faces on a side are those on the other side of another block
abbrev pub IsSideCopied : ℕ → ℕ → Axis → Bool → List ℤ → List ℤ → List ℤ → Type 0
IsSideCopied n g a high from old new =
    let p = side_at g a (side_position n (not high)) in
    IsWritten (face_extents n g a) (side_box n g a (side_position n high)) (λ i j k. number_at (face_extents n g a) from (p.x + i) (p.y + j) (p.z + k)) old new

-- ---- sides that are kept

-- the faces of a block on a side hold the views of a field
pub record SideHolds (g : Grid) (field : FaceAt → ℤ) (a : Axis) (high : Bool) (b : BlockAt) (numbers : ℕ → ℕ → ℕ → ℤ) : Type 0 where
  pub at : (i j k : ℕ) → i < longer_on a X g.shape.n → j < longer_on a Y g.shape.n → k < longer_on a Z g.shape.n → position a i j k ≡ side_position g.shape.n high →
      numbers (g.shape.g + i) (g.shape.g + j) (g.shape.g + k) ≡ face_view g field (face_of a (canonical_on g.shape a (in_block g.shape.n b i j k)))

-- a side of a block is kept: a leaf of its level stands there, and the faces hold the views that the leaves hold; it is not: none stands there
pub record IsKeptSide (w : WorldState) (a : Axis) (high : Bool) (b : BlockAt) (kept : Bool) (xs : List ℤ) : Type 0 where
  pub beside : kept ≡ true → (node : ℕ) × IsLeafBeside w.told.grid a high b node
  pub views : kept ≡ true → (field : FaceAt → ℤ) → LeavesHoldFaces w field → SideHolds w.told.grid field a high b (faces_in w.told.grid a xs)
  pub none : kept ≡ false → NoLeafBeside w.told.grid a high b

-- the faces of a block that are not on a side stay
pub record OthersStay (g : Grid) (a : Axis) (high : Bool) (old new : List ℤ) : Type 0 where
  pub at : (i j k : ℕ) → i < longer_on a X g.shape.n → j < longer_on a Y g.shape.n → k < longer_on a Z g.shape.n → position a i j k ≢ side_position g.shape.n high →
      faces_in g a new (g.shape.g + i) (g.shape.g + j) (g.shape.g + k) ≡ faces_in g a old (g.shape.g + i) (g.shape.g + j) (g.shape.g + k)

-- which of an axis's sides are kept
abbrev pub side_of : Sides → Bool → Bool
side_of s false = s.low
side_of s true = s.high

-- the sides of a block on an axis are kept where leaves of its level stand beside it
abbrev pub AreKeptSides : WorldState → Axis → BlockAt → Sides → List ℤ → Type 0
AreKeptSides w a b sides xs = (high : Bool) → IsKeptSide w a high b (side_of sides high) xs

-- the direction of a side
abbrev pub direction_of : Axis → Bool → ℕ
direction_of a false = side_direction a 0
direction_of a true = side_direction a 2

-- the bits of the sides that are kept stand
abbrev pub AreBitsOf : ℕ → Sides → Sides → Sides → Type 0
AreBitsOf kept x y z = (a : Axis) (high : Bool) → is_kept kept (direction_of a high) ≡ side_of (by_axis x y z a) high
