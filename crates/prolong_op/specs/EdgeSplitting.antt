-- How the edges of a child along an axis are split: first the parts of its parent's edges, then row by row the means between them.
use Rattle.std.specs.Prelude.{◌≡◌, ℕ, ◌+◌, ◌%◌, ◌<◌, Bool, true, not, ◌&&◌, if◌then◌else◌, ℤ}
use Rattle.amr_num.specs.declared.Axis.{Axis}
use Rattle.amr_num.specs.declared.Axis.TheVariants.{X, Y, Z}
use Rattle.amr_num.specs.Numbers.{Within, number_range, part}
use Rattle.mesh_model.specs.Geometry.Places.{longer_across}
use Rattle.mesh_model.specs.Fields.EdgeSplits.{are_even, edge_mean, is_kept_edge}
use Rattle.mesh_model.specs.Fields.FaceSplits.{face_above, position}

-- an edge is a part of the parent's
abbrev pub is_edge_part : ℕ → ℕ → Axis → ℕ → ℕ → ℕ → Bool
is_edge_part n kept a i j k = not (is_kept_edge n kept a i j k) && are_even a i j k

-- what an edge (i, j, k) is given: its part of the parent's edge where it is one, and what it had elsewhere
unfoldable pub edge_given : ℕ → ℕ → Axis → ℕ → ℕ → ℕ → ℤ → ℤ → ℤ
edge_given n kept a i j k whole old = if is_edge_part n kept a i j k then part (position a i j k % 2) whole 2 else old

-- what the edge (i, j, k) of the child q has as the parts are there
abbrev pub edge_part_or_old : ℕ → ℕ → ℕ → ℕ → Axis → (ℕ → ℕ → ℕ → ℤ) → (ℕ → ℕ → ℕ → ℤ) → ℕ → ℕ → ℕ → ℤ
edge_part_or_old n g q kept a parent old i j k = edge_given n kept a i j k (face_above n g q parent i j k) (old (g + i) (g + j) (g + k))

-- the number at two positions, on the next axis and on the one after it, beside an edge
abbrev pub number_beside : Axis → (ℕ → ℕ → ℕ → ℤ) → ℕ → ℕ → ℕ → ℕ → ℕ → ℤ
number_beside X numbers i j k p r = numbers i p r
number_beside Y numbers i j k p r = numbers r j p
number_beside Z numbers i j k p r = numbers p r k

-- what an edge has as the means are there: what it had on a kept part of the boundary, and else the mean of the edges at even positions
unfoldable pub mean_or_old : ℕ → ℕ → ℕ → Axis → (ℕ → ℕ → ℕ → ℤ) → ℕ → ℕ → ℕ → ℤ
mean_or_old n g kept a numbers i j k =
    if is_kept_edge n kept a i j k then numbers (g + i) (g + j) (g + k) else edge_mean a (λ i j k. numbers (g + i) (g + j) (g + k)) i j k

-- the edges of a block at even positions are in range
pub record EvenEdgesAreSmall (n g : ℕ) (a : Axis) (numbers : ℕ → ℕ → ℕ → ℤ) : Type 0 where
  pub at : (i j k : ℕ) → i < longer_across a X n → j < longer_across a Y n → k < longer_across a Z n → are_even a i j k ≡ true →
      Within number_range (numbers (g + i) (g + j) (g + k))
