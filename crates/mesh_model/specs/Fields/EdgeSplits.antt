-- The edges of a child that are made of its parent's: parts of the parent's edges, and between them floored means. On the parts of the child's
-- boundary that are kept the finer numbers are there already, and stay. Numbers are given by axis and place.
use Rattle.std.specs.Prelude.{◌≡◌, ℕ, ◌+◌, ◌-◌, ◌%◌, ◌^◌, ◌<◌, Bool, true, false, not, ◌&&◌, ◌==◌, if◌then◌else◌, List, [], ◌∷◌, flat_map, length, map, ℤ}
use Rattle.amr_num.specs.declared.Axis.{Axis}
use Rattle.amr_num.specs.declared.Axis.TheVariants.{X, Y, Z}
use Rattle.amr_num.specs.declared.BlockAt.{BlockAt}
use Rattle.amr_num.specs.declared.EdgeAt.{EdgeAt}
use Rattle.amr_num.specs.Numbers.{Within, floor_div, number_range, part}
use Rattle.mesh_model.specs.Geometry.Blocks.{InDomain, child_block}
use Rattle.mesh_model.specs.Geometry.Canonical.{canonical_on}
use Rattle.mesh_model.specs.Geometry.Coordinates.{edge_of, next}
use Rattle.mesh_model.specs.Geometry.Places.{in_block, longer_across}
use Rattle.mesh_model.specs.Tree.Kinds.{Grid, is_leaf_edge, is_split_block, is_split_edge}
use Rattle.mesh_model.specs.Tree.ValidGrid.{Valid}
use Rattle.mesh_model.specs.Fields.ArrayPlaces.{Box, HoldsEdges, IsWritten, edge_extents, number_at}
use Rattle.mesh_model.specs.Fields.FaceSplits.{direction, face_above, is_kept, position}
use Rattle.mesh_model.specs.Fields.FinePlaces.{edges_in}
use Rattle.mesh_model.specs.Fields.Views.{edge_view, is_even, sum_of}

-- ---- arrays

-- the numbers of three arrays, on the edges along each axis
abbrev pub all_edges : ℕ → ℕ → (Axis → List ℤ) → Axis → ℕ → ℕ → ℕ → ℤ
all_edges n g arrays a = number_at (edge_extents n g a) (arrays a)

-- the edges of a block along an axis, those on its sides among them, in an array
abbrev pub edge_box : ℕ → ℕ → Axis → Box
edge_box n g a = record { x = g; y = g; z = g; along_x = longer_across a X n; along_y = longer_across a Y n; along_z = longer_across a Z n }

-- ---- parts of the boundary that are kept

-- the step on an axis of n cells to the part of the boundary at a position: 0 is down, 1 is none and 2 is up
abbrev pub end_step : ℕ → ℕ → ℕ
end_step n p = if p == 0 then 0 else (if p == n then 2 else 1)

-- the direction of the part of a block's boundary on which its edge (i, j, k) along an axis lies; 13 where it lies inside
abbrev pub edge_direction : ℕ → Axis → ℕ → ℕ → ℕ → ℕ
edge_direction n X i j k = direction 1 (end_step n j) (end_step n k)
edge_direction n Y i j k = direction (end_step n i) 1 (end_step n k)
edge_direction n Z i j k = direction (end_step n i) (end_step n j) 1

-- the edge lies on the boundary, and on a part of it that is kept
abbrev pub is_boundary_edge : ℕ → Axis → ℕ → ℕ → ℕ → Bool
is_boundary_edge n a i j k = not (edge_direction n a i j k == 13)

abbrev pub is_kept_edge : ℕ → ℕ → Axis → ℕ → ℕ → ℕ → Bool
is_kept_edge n kept a i j k = is_boundary_edge n a i j k && is_kept kept (edge_direction n a i j k)

-- ---- the edges of a child

-- both positions of an edge along an axis are even
abbrev pub are_even : Axis → ℕ → ℕ → ℕ → Bool
are_even a i j k = is_even (position (next a) i j k) && is_even (position (next (next a)) i j k)

-- which half of the parent's edge it is, at even positions, and its part of that
abbrev pub edge_part : ℕ → ℕ → ℕ → Axis → (ℕ → ℕ → ℕ → ℤ) → ℕ → ℕ → ℕ → ℤ
edge_part n g q a parent i j k = part (position a i j k % 2) (face_above n g q parent i j k) 2

-- the even positions beside one, which is one where it is even itself and otherwise two
abbrev pub even_positions : ℕ → List ℕ
even_positions p = if is_even p then p ∷ [] else (p - 1) ∷ (p + 1) ∷ []

-- the numbers at the even positions beside or round an edge
abbrev pub round_numbers : Axis → (ℕ → ℕ → ℕ → ℤ) → ℕ → ℕ → ℕ → List ℤ
round_numbers X numbers i j k = flat_map (λ p. map (λ r. numbers i p r) (even_positions k)) (even_positions j)
round_numbers Y numbers i j k = flat_map (λ p. map (λ r. numbers r j p) (even_positions i)) (even_positions k)
round_numbers Z numbers i j k = flat_map (λ p. map (λ r. numbers p r k) (even_positions j)) (even_positions i)

-- their floored mean
abbrev pub edge_mean : Axis → (ℕ → ℕ → ℕ → ℤ) → ℕ → ℕ → ℕ → ℤ
edge_mean a numbers i j k = floor_div (sum_of (round_numbers a numbers i j k)) (length (round_numbers a numbers i j k))

-- what the edge (i, j, k) of the child q gets: on a kept part of the boundary what it had, else at even positions its part of the parent's edge,
-- and else the floored mean of the child's new edges at the even positions beside or round it
unfoldable pub split_edge : ℕ → ℕ → ℕ → ℕ → (ℕ → ℕ → ℕ → ℤ) → (ℕ → ℕ → ℕ → ℤ) → (ℕ → ℕ → ℕ → ℤ) → Axis → ℕ → ℕ → ℕ → ℤ
split_edge n g q kept parent old new a i j k =
    if is_kept_edge n kept a i j k then old (g + i) (g + j) (g + k)
    else (if are_even a i j k then edge_part n g q a parent i j k else edge_mean a (λ i j k. new (g + i) (g + j) (g + k)) i j k)

-- the edges of the child q along an axis are split from those of the parent, the kept parts of the boundary stay, and so do the guards
abbrev pub IsAxisSplit : ℕ → ℕ → ℕ → ℕ → Axis → List ℤ → List ℤ → List ℤ → Type 0
IsAxisSplit n g q kept a parent old new =
    let e = edge_extents n g a in
    IsWritten e (edge_box n g a) (split_edge n g q kept (number_at e parent) (number_at e old) (number_at e new) a) old new

-- and those along each axis
abbrev pub AreEdgesSplit : ℕ → ℕ → ℕ → ℕ → (Axis → List ℤ) → (Axis → List ℤ) → (Axis → List ℤ) → Type 0
AreEdgesSplit n g q kept parent old new = (a : Axis) → IsAxisSplit n g q kept a (parent a) (old a) (new a)

-- the numbers that stay, and those of the parent of which others are made, are in range
pub record EdgeSourcesAreSmall (n g q kept : ℕ) (a : Axis) (parent child : ℕ → ℕ → ℕ → ℤ) : Type 0 where
  pub stay : (i j k : ℕ) → i < longer_across a X n → j < longer_across a Y n → k < longer_across a Z n → is_kept_edge n kept a i j k ≡ true →
      Within number_range (child (g + i) (g + j) (g + k))
  pub split : (i j k : ℕ) → i < longer_across a X n → j < longer_across a Y n → k < longer_across a Z n → is_kept_edge n kept a i j k ≡ false →
      are_even a i j k ≡ true → Within number_range (face_above n g q parent i j k)

-- ---- what splitting makes of a child

-- the kept parts of a block's boundary hold the views of a field on edges
pub record KeptEdgesHold (g : Grid) (field : EdgeAt → ℤ) (a : Axis) (b : BlockAt) (kept : ℕ) (numbers : ℕ → ℕ → ℕ → ℤ) : Type 0 where
  pub at : (i j k : ℕ) → i < longer_across a X g.shape.n → j < longer_across a Y g.shape.n → k < longer_across a Z g.shape.n →
      is_kept_edge g.shape.n kept a i j k ≡ true → numbers (g.shape.g + i) (g.shape.g + j) (g.shape.g + k)
      ≡ edge_view g field (edge_of a (canonical_on g.shape (next a) (canonical_on g.shape (next (next a)) (in_block g.shape.n b i j k))))

-- the edges on the parts of its boundary that are not kept are neither split nor leaf edges
pub record OtherEdgesLieInside (g : Grid) (a : Axis) (b : BlockAt) (kept : ℕ) : Type 0 where
  pub at : (i j k : ℕ) → i < longer_across a X g.shape.n → j < longer_across a Y g.shape.n → k < longer_across a Z g.shape.n →
      is_boundary_edge g.shape.n a i j k ≡ true → is_kept_edge g.shape.n kept a i j k ≡ false →
      let e = edge_of a (canonical_on g.shape (next a) (canonical_on g.shape (next (next a)) (in_block g.shape.n b i j k))) in
      (is_split_edge g e ≡ false) × (is_leaf_edge g e ≡ false)

-- in every valid grid a child of a block that is not split holds views on its edges along an axis where these were split from those of the block,
-- which holds views, the kept parts of its boundary held views and the others lie inside coarser leaves
abbrev pub EdgeChildrenAreSplit : Type 0
EdgeChildrenAreSplit = (g : Grid) (field : EdgeAt → ℤ) (a : Axis) (b : BlockAt) (q kept : ℕ) (parent old new : List ℤ) → Valid g → InDomain g.shape b → q < 8 →
    is_split_block g b ≡ false → IsAxisSplit g.shape.n g.shape.g q kept a parent old new →
    HoldsEdges g field a b (edges_in g a parent) →
    KeptEdgesHold g field a (child_block b q) kept (edges_in g a old) →
    OtherEdgesLieInside g a (child_block b q) kept →
    HoldsEdges g field a (child_block b q) (edges_in g a new)
