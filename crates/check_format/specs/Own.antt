-- Which of a leaf's faces and edges stand in an image under this leaf. What lies on the boundary of blocks belongs to several; of the leaves
-- among them the first in Morton order has it in the image, once, and none has it where finer ones stand beside it.
use Rattle.std.specs.Prelude.{◌≡◌, ℕ, suc, Bool, true, false, not, ◌&&◌, ◌||◌, ◌==◌, nat_lt, ◌<◌, if◌then◌else◌, List, [], ◌∷◌, map, flat_map, filter}
use Rattle.std.specs.List.{list_any}
use Rattle.amr_num.specs.declared.Axis.{Axis}
use Rattle.amr_num.specs.declared.Axis.TheVariants.{X, Y, Z}
use Rattle.amr_num.specs.declared.BlockAt.{BlockAt}
use Rattle.amr_num.specs.declared.FaceAt.{FaceAt}
use Rattle.amr_num.specs.declared.EdgeAt.{EdgeAt}
use Rattle.block_tree.specs.declared.directions.Direction.{Direction}
use Rattle.block_tree.specs.Directions.{block_toward, direction_of, passes}
use Rattle.check_format.specs.declared.own.Own.{Own}
use Rattle.mesh_model.specs.declared.geometry.Shape.{Shape}
use Rattle.mesh_model.specs.Fields.EdgeSplits.{end_step}
use Rattle.mesh_model.specs.Fields.FaceSplits.{direction, is_kept}
use Rattle.mesh_model.specs.Geometry.Blocks.{is_same_block}
use Rattle.mesh_model.specs.Geometry.Canonical.{canonical_edge, canonical_face}
use Rattle.mesh_model.specs.Geometry.Coordinates.{axis_index, edge_of, face_of}
use Rattle.mesh_model.specs.Geometry.Places.{box_list, in_block}
use Rattle.mesh_model.specs.Images.Image.{leaf_edges, leaf_faces}
use Rattle.mesh_model.specs.Tree.Kinds.{Grid, is_leaf_block, is_split_block}
use Rattle.mesh_model.specs.Tree.Order.{Sorted, key}
use Rattle.mesh_model.specs.Tree.ValidGrid.{Valid}

-- ---- the parts of a leaf's boundary, by their directions

abbrev pub goes_up : Direction → Bool
goes_up d = (d.x == 2) || ((d.y == 2) || (d.z == 2))

-- what lies on the part of a leaf's boundary towards another block belongs to that block where it is split, or a leaf that comes before; where
-- the other block is the leaf itself, as on an axis of one root, the low end is the leaf's own and the high end is the low one again
unfoldable pub goes_to : Grid → BlockAt → Direction → BlockAt → Bool
goes_to g b d c = if is_same_block c b then goes_up d else (is_split_block g c || (is_leaf_block g c && nat_lt (key c) (key b)))

-- the block in a direction takes what lies towards it
unfoldable pub is_taken : Grid → BlockAt → Direction → Bool
is_taken g b d = passes (goes_to g b d) (block_toward g.shape d b)

-- all choices of steps of a direction: the other blocks that meet at the part of the boundary in that direction lie in these
abbrev pub choices : Direction → List Direction
choices d =
    d ∷ record d { x = 1 } ∷ record d { y = 1 } ∷ record d { z = 1 }
    ∷ record { x = d.x; y = 1; z = 1 } ∷ record { x = 1; y = d.y; z = 1 } ∷ record { x = 1; y = 1; z = d.z } ∷ record { x = 1; y = 1; z = 1 } ∷ []

-- what lies on the part of b's boundary in a direction stands under b: no block takes it
unfoldable pub is_own : Grid → BlockAt → Direction → Bool
is_own g b d = not (list_any (is_taken g b) (choices d))

-- ---- faces and edges of a leaf

-- the place (x, y, z) of a block, counted from its first cell
pub record Place : Type 0 where
  pub x : ℕ
  pub y : ℕ
  pub z : ℕ

abbrev pub place : ℕ → ℕ → ℕ → Place
place i j k = record { x = i; y = j; z = k }

-- on which axes a face normal to a and an edge along a stand at positions: on others they stand at cells
abbrev pub face_stands : Axis → Axis → Bool
face_stands a c = axis_index a == axis_index c

abbrev pub edge_stands : Axis → Axis → Bool
edge_stands a c = not (axis_index a == axis_index c)

-- the step to the end of a block of n cells at a position
abbrev pub step_at : ℕ → Bool → ℕ → ℕ
step_at n true i = end_step n i
step_at n false i = 1

-- the part of the boundary on which a place lies that is a position on some axes
abbrev pub part_at : ℕ → (Axis → Bool) → Place → Direction
part_at n stands p = record { x = step_at n (stands X) p.x; y = step_at n (stands Y) p.y; z = step_at n (stands Z) p.z }

-- a face and an edge of the leaf b stand under b
abbrev pub is_own_face : Grid → BlockAt → Axis → Place → Bool
is_own_face g b a p = is_own g b (part_at g.shape.n (face_stands a) p)

abbrev pub is_own_edge : Grid → BlockAt → Axis → Place → Bool
is_own_edge g b a p = is_own g b (part_at g.shape.n (edge_stands a) p)

-- the places of a block's faces normal to an axis and of its edges along an axis, x fastest, then y, then z
abbrev pub places_along : ℕ → Bool → ℕ
places_along n true = suc n
places_along n false = n

abbrev pub places_of : ℕ → (Axis → Bool) → List Place
places_of n stands = box_list (places_along n (stands X)) (places_along n (stands Y)) (places_along n (stands Z)) place

-- the canonical names of the face and the edge at a place
abbrev pub face_at : Shape → BlockAt → Axis → Place → FaceAt
face_at s b a p = canonical_face s (face_of a (in_block s.n b p.x p.y p.z))

abbrev pub edge_at : Shape → BlockAt → Axis → Place → EdgeAt
edge_at s b a p = canonical_edge s (edge_of a (in_block s.n b p.x p.y p.z))

-- those that stand under b, an axis after the other
abbrev pub own_faces : Grid → BlockAt → Axis → List FaceAt
own_faces g b a = map (face_at g.shape b a) (filter (is_own_face g b a) (places_of g.shape.n (face_stands a)))

abbrev pub own_edges : Grid → BlockAt → Axis → List EdgeAt
own_edges g b a = map (edge_at g.shape b a) (filter (is_own_edge g b a) (places_of g.shape.n (edge_stands a)))

abbrev pub axes : List Axis
axes = X ∷ Y ∷ Z ∷ []

-- the faces and the edges with numbers are the own ones of all leaves
abbrev pub FacesByLeaves : Type 0
FacesByLeaves = (g : Grid) → Valid g → Sorted g.leaves → leaf_faces g ≡ flat_map (λ b. flat_map (own_faces g b) axes) g.leaves

abbrev pub EdgesByLeaves : Type 0
EdgesByLeaves = (g : Grid) → Valid g → Sorted g.leaves → leaf_edges g ≡ flat_map (λ b. flat_map (own_edges g b) axes) g.leaves

-- ---- sets of parts, by their bits

-- bit d of the first so many stands exactly where a test passes
pub record AreBits (test : ℕ → Bool) (many bits : ℕ) : Type 0 where
  pub each : (d : ℕ) → d < many → is_kept bits d ≡ test d

-- the parts that are taken, and those of which by these bits no choice is
abbrev pub AreTaken : Grid → BlockAt → ℕ → Type 0
AreTaken g b bits = AreBits (λ d. is_taken g b (direction_of d)) 27 bits

unfoldable pub is_free : ℕ → Direction → Bool
is_free taken d = not (list_any (λ c. is_kept taken (direction c.x c.y c.z)) (choices d))

-- these are the parts that are b's own
abbrev pub IsOwn : Grid → BlockAt → Own → Type 0
IsOwn g b own = AreBits (λ d. is_own g b (direction_of d)) 27 own.kept
