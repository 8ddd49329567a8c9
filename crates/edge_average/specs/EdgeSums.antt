-- Numbers on the edges of a block, and their sums in pairs along a line.
use Rattle.std.specs.Prelude.{◌≡◌, ℕ, ◌+◌, ◌*◌, ◌<◌, List, length, ℤ}
use Rattle.amr_num.specs.Numbers.{sum_below}
use Rattle.amr_num.specs.declared.Axis.{Axis}
use Rattle.mesh_model.specs.Fields.ArrayPlaces.{edge_extents, number_at}
use Rattle.edge_average.specs.Lines.{IsEdgePlace, line_place}

-- the number of an array of edges at a place of the block's edges
unfoldable pub edge_at : ℕ → ℕ → Axis → List ℤ → ℕ → ℕ → ℕ → ℤ
edge_at n g a xs p s t = number_at (edge_extents n g a) xs (g + (line_place a p s t).x) (g + (line_place a p s t).y) (g + (line_place a p s t).z)

-- the sum of the m-th two edges of a line
unfoldable pub pair_at : ℕ → ℕ → Axis → List ℤ → ℕ → ℕ → ℕ → ℤ
pair_at n g a xs m s t = sum_below 2 (λ h. edge_at n g a xs (2 * m + h) s t)

-- one edge has another number
pub record IsEdgeSet (n g : ℕ) (a : Axis) (p s t : ℕ) (value : ℤ) (old new : List ℤ) : Type 0 where
  pub size : length new ≡ length old
  pub here : edge_at n g a new p s t ≡ value
  pub others : (i q r : ℕ) → IsEdgePlace n i q r → (i ≡ p → q ≡ s → r ≡ t → ⊥) → edge_at n g a new i q r ≡ edge_at n g a old i q r

-- the first m edges of a line have other numbers, and those of other lines stay
pub record AreEdgesSet (m n g : ℕ) (a : Axis) (s t : ℕ) (wanted : ℕ → ℤ) (old new : List ℤ) : Type 0 where
  pub size : length new ≡ length old
  pub here : (p : ℕ) → p < m → edge_at n g a new p s t ≡ wanted p
  pub others : (p q r : ℕ) → IsEdgePlace n p q r → (q ≡ s → r ≡ t → ⊥) → edge_at n g a new p q r ≡ edge_at n g a old p q r

-- all edges of a line do
abbrev pub IsLineSet : ℕ → ℕ → Axis → ℕ → ℕ → (ℕ → ℤ) → List ℤ → List ℤ → Type 0
IsLineSet n g a s t wanted old new = AreEdgesSet n n g a s t wanted old new
