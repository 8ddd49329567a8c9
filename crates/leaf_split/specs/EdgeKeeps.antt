-- The parts of a child's boundary on which its edges keep the numbers of leaves round them.
use Rattle.std.specs.Prelude.{◌≡◌, ℕ, zero, suc, ◌+◌, ◌-◌, ◌<◌, ◌⊎◌, Bool, true, false, if◌then◌else◌, List, ℤ}
use Rattle.amr_num.specs.declared.Axis.{Axis}
use Rattle.amr_num.specs.declared.Axis.TheVariants.{X, Y, Z}
use Rattle.amr_num.specs.declared.BlockAt.{BlockAt}
use Rattle.amr_num.specs.declared.EdgeAt.{EdgeAt}
use Rattle.mesh_model.specs.Geometry.Coordinates.{next}
use Rattle.mesh_model.specs.Geometry.Places.{longer_across}
use Rattle.mesh_model.specs.Tree.Kinds.{Grid}
use Rattle.mesh_model.specs.Fields.ArrayPlaces.{Box, IsWritten, edge_extents, number_at}
use Rattle.mesh_model.specs.Fields.EdgeSplits.{end_step}
use Rattle.mesh_model.specs.Fields.FaceSplits.{position}
use Rattle.mesh_model.specs.Fields.FinePlaces.{edges_in}
use Rattle.mesh_model.specs.Fields.Ranks.{WorldState}
use Rattle.mesh_model.specs.Fields.Views.{edge_view}
use Rattle.block_store.specs.declared.regions.PlaceAt.{PlaceAt}
use Rattle.block_tree.specs.Directions.{across, direction_of, edge_name, lies_round}
use Rattle.block_tree.specs.declared.directions.Direction.{Direction}
use Rattle.rank_world.specs.Holding.{LeavesHoldEdges}

-- the step of a direction on an axis
abbrev pub step_on : Axis → Direction → ℕ
step_on a d = position a d.x d.y d.z

-- each is down, none or up
pub record AreSteps (d : Direction) : Type 0 where
  pub x : d.x < 3
  pub y : d.y < 3
  pub z : d.z < 3

-- a direction in which blocks meet a part of the boundary: that of the part, or one with fewer steps
pub record IsToPart (part toward : Direction) : Type 0 where
  pub x : (toward.x ≡ part.x) ⊎ (toward.x ≡ 1)
  pub y : (toward.y ≡ part.y) ⊎ (toward.y ≡ 1)
  pub z : (toward.z ≡ part.z) ⊎ (toward.z ≡ 1)

-- the part of a block's boundary on which an edge along an axis lies
abbrev pub part_of : ℕ → Axis → ℕ → ℕ → ℕ → Direction
part_of n a i j k = across a (end_step n (position (next a) i j k)) (end_step n (position (next (next a)) i j k))

-- ---- places of the edges on a part

-- the axes are one
abbrev pub is_same_axis : Axis → Axis → Bool
is_same_axis X X = true
is_same_axis X Y = false
is_same_axis X Z = false
is_same_axis Y X = false
is_same_axis Y Y = true
is_same_axis Y Z = false
is_same_axis Z X = false
is_same_axis Z Y = false
is_same_axis Z Z = true

-- the first position on an axis of the edges on the part with a step there, and how many positions they have: on the axis along which they lie, all cells'
-- where the step is none; on another, those between the sides
abbrev pub first_on : ℕ → Bool → ℕ → ℕ
first_on n along zero = 0
first_on n along (suc zero) = if along then 0 else 1
first_on n along (suc (suc s)) = n

abbrev pub count_on : ℕ → Bool → ℕ → ℕ
count_on n along zero = 1
count_on n along (suc zero) = if along then n else n - 1
count_on n along (suc (suc s)) = 1

-- the same position in the block one step away, which begins where this one ends, or ends where it begins
abbrev pub there_on : ℕ → ℕ → ℕ → ℕ
there_on n zero first = n
there_on n (suc zero) first = first
there_on n (suc (suc s)) first = 0

abbrev pub part_at : ℕ → ℕ → Axis → Direction → PlaceAt
part_at n g a d = record { x = g + first_on n (is_same_axis a X) d.x; y = g + first_on n (is_same_axis a Y) d.y; z = g + first_on n (is_same_axis a Z) d.z }

abbrev pub part_box : ℕ → ℕ → Axis → Direction → Box
part_box n g a d = record {
  x = (part_at n g a d).x;
  y = (part_at n g a d).y;
  z = (part_at n g a d).z;
  along_x = count_on n (is_same_axis a X) d.x;
  along_y = count_on n (is_same_axis a Y) d.y;
  along_z = count_on n (is_same_axis a Z) d.z;
}

abbrev pub part_there : ℕ → ℕ → Axis → Direction → Direction → PlaceAt
part_there n g a d t = record {
  x = g + there_on n t.x (first_on n (is_same_axis a X) d.x);
  y = g + there_on n t.y (first_on n (is_same_axis a Y) d.y);
  z = g + there_on n t.z (first_on n (is_same_axis a Z) d.z);
}

-- the edges on a part are those of a block in a direction from it
abbrev pub IsPartCopied : ℕ → ℕ → Axis → Direction → Direction → List ℤ → List ℤ → List ℤ → Type 0
IsPartCopied n g a d t from old new =
    let p = part_there n g a d t in
    IsWritten (edge_extents n g a) (part_box n g a d) (λ i j k. number_at (edge_extents n g a) from (p.x + i) (p.y + j) (p.z + k)) old new

-- ---- parts that are kept

-- the edges of a block along an axis on a part of its boundary hold the views of a field
pub record PartHolds (g : Grid) (field : EdgeAt → ℤ) (a : Axis) (b : BlockAt) (d : Direction) (numbers : ℕ → ℕ → ℕ → ℤ) : Type 0 where
  pub at : (i j k : ℕ) → i < longer_across a X g.shape.n → j < longer_across a Y g.shape.n → k < longer_across a Z g.shape.n → part_of g.shape.n a i j k ≡ d →
      numbers (g.shape.g + i) (g.shape.g + j) (g.shape.g + k) ≡ edge_view g field (edge_name g.shape a b i j k)

-- those that are not on the part stay
pub record OtherEdgesStay (g : Grid) (a : Axis) (d : Direction) (old new : List ℤ) : Type 0 where
  pub at : (i j k : ℕ) → i < longer_across a X g.shape.n → j < longer_across a Y g.shape.n → k < longer_across a Z g.shape.n → (part_of g.shape.n a i j k ≡ d → ⊥) →
      edges_in g a new (g.shape.g + i) (g.shape.g + j) (g.shape.g + k) ≡ edges_in g a old (g.shape.g + i) (g.shape.g + j) (g.shape.g + k)

-- on all axes
abbrev pub OtherPartsStay : Grid → Direction → (Axis → List ℤ) → (Axis → List ℤ) → Type 0
OtherPartsStay g d old new = (a : Axis) → OtherEdgesStay g a d (old a) (new a)

-- a part of a block's boundary is kept where leaves of its level lie round its edges; these hold the views that the leaves hold
pub record IsKeptPart (w : WorldState) (b : BlockAt) (d : Direction) (kept : Bool) (xs : Axis → List ℤ) : Type 0 where
  pub stands : kept ≡ lies_round w.told.grid true b d
  pub views : kept ≡ true → (field : EdgeAt → ℤ) → LeavesHoldEdges false w field → (a : Axis) → PartHolds w.told.grid field a b d (edges_in w.told.grid a (xs a))

-- so do those of the first so many parts
pub record KeptPartsHold (w : WorldState) (b : BlockAt) (many : ℕ) (xs : Axis → List ℤ) : Type 0 where
  pub at : (d : ℕ) → d < many → lies_round w.told.grid true b (direction_of d) ≡ true → (field : EdgeAt → ℤ) → LeavesHoldEdges false w field → (a : Axis) →
      PartHolds w.told.grid field a b (direction_of d) (edges_in w.told.grid a (xs a))
