-- Numbers out of range among those of a block, by their places.
use Rattle.std.specs.Prelude.{ℕ, ◌^◌, ◌||◌, ◌&&◌, ◌==◌, Bool, true, not, List, ℤ, Option, Some, None, if◌then◌else◌}
use Rattle.amr_num.specs.Numbers.{at}
use Rattle.mesh_model.specs.Fields.EdgeSplits.{edge_direction}
use Rattle.mesh_model.specs.Fields.FaceSplits.{is_kept, position}
use Rattle.mesh_model.specs.Fields.Firsts.{first_below, first_in_box, first_in_places}
use Rattle.mesh_model.specs.Fields.RangeWalk.{is_above}
use Rattle.mesh_model.specs.Geometry.Places.{longer_across, longer_on}
use Rattle.amr_num.specs.declared.Axis.TheVariants.{X, Y, Z}
use Rattle.block_store.specs.declared.above.Above.{Above}
use Rattle.block_store.specs.declared.above.Counted.{Counted}
use Rattle.block_store.specs.declared.above.Counted.TheVariants.{Cells, Edges, Faces}
use Rattle.block_store.specs.declared.above.CountedEdges.{CountedEdges}
use Rattle.block_store.specs.declared.above.CountedFaces.{CountedFaces}

-- the number at a place of a block, where it is above 2^40 in absolute value
abbrev pub above_at : (ℕ → ℕ → ℕ → ℤ) → ℕ → ℕ → ℕ → Option Above
above_at numbers i j k = if is_above (2 ^ 40) (numbers i j k) then Some (record { i = i; j = j; k = k; value = numbers i j k }) else None

-- a face of a block of n cells along each axis counts, but for those on its low or its high side where these are left out
abbrev pub is_counted_face : ℕ → CountedFaces → ℕ → ℕ → ℕ → Bool
is_counted_face n f i j k = (f.low || not (position f.axis i j k == 0)) && (f.high || not (position f.axis i j k == n))

-- an edge counts, but for those on the parts of the boundary that are left out
abbrev pub is_counted_edge : ℕ → CountedEdges → ℕ → ℕ → ℕ → Bool
is_counted_edge n e i j k = not (is_kept e.left_out (edge_direction n e.axis i j k))

-- so they do among what counts, as each cell does
abbrev pub is_counted : ℕ → Counted → ℕ → ℕ → ℕ → Bool
is_counted n Cells i j k = true
is_counted n (Faces f) i j k = is_counted_face n f i j k
is_counted n (Edges e) i j k = is_counted_edge n e i j k

-- the number at a place that counts
abbrev pub counted_at : ℕ → Counted → (ℕ → ℕ → ℕ → ℤ) → ℕ → ℕ → ℕ → Option Above
counted_at n c numbers i j k = if is_counted n c i j k then above_at numbers i j k else None

-- the first in a row, in a plane, and in so many places along each axis
abbrev pub first_in_row : ℕ → Counted → List ℤ → ℕ → ℕ → ℕ → Option Above
first_in_row n c row j k m = first_below m (λ i. counted_at n c (λ x y z. at row x) i j k)

abbrev pub first_in_plane : ℕ → Counted → (ℕ → ℕ → ℕ → ℤ) → ℕ → ℕ → ℕ → Option Above
first_in_plane n c numbers along k m = first_below m (λ j. first_below along (λ i. counted_at n c numbers i j k))

-- the first among the cells of a block, and among those of its faces normal to an axis that count
abbrev pub first_in_block : (ℕ → ℕ → ℕ → ℤ) → ℕ → Option Above
first_in_block cells n = first_in_box n (above_at cells)

abbrev pub counted_face_at : ℕ → CountedFaces → (ℕ → ℕ → ℕ → ℤ) → ℕ → ℕ → ℕ → Option Above
counted_face_at n f numbers i j k = if is_counted_face n f i j k then above_at numbers i j k else None

abbrev pub first_in_faces : (ℕ → ℕ → ℕ → ℤ) → ℕ → CountedFaces → Option Above
first_in_faces faces n f = first_in_places (longer_on f.axis X n) (longer_on f.axis Y n) (longer_on f.axis Z n) (counted_face_at n f faces)

-- and among those of its edges along an axis that count
abbrev pub counted_edge_at : ℕ → CountedEdges → (ℕ → ℕ → ℕ → ℤ) → ℕ → ℕ → ℕ → Option Above
counted_edge_at n e numbers i j k = if is_counted_edge n e i j k then above_at numbers i j k else None

abbrev pub first_in_edges : (ℕ → ℕ → ℕ → ℤ) → ℕ → CountedEdges → Option Above
first_in_edges edges n e = first_in_places (longer_across e.axis X n) (longer_across e.axis Y n) (longer_across e.axis Z n) (counted_edge_at n e edges)
