-- Sums of a block's faces at one of its sides.
use Rattle.std.specs.Prelude.{◌≡◌, ℕ, ◌+◌, ◌*◌, ◌/◌, ◌%◌, ◌<◌, List, length, ℤ}
use Rattle.amr_num.specs.Numbers.{sum_below}
use Rattle.amr_num.specs.declared.Axis.{Axis}
use Rattle.flux_conserve.specs.Jumps.{IsFacePlace, quarter_at}
use Rattle.flux_conserve.specs.FaceArrays.{face_at}

-- the sum of the four finer faces at a coarse face
unfoldable pub four_at : ℕ → ℕ → Axis → List ℤ → ℕ → ℕ → ℕ → ℤ
four_at n g a xs p s t = sum_below 4 (λ q. face_at n g a xs p (2 * s + q % 2) (2 * t + q / 2 % 2))

-- one face has another number
pub record IsFaceSet (n g : ℕ) (a : Axis) (p s t : ℕ) (value : ℤ) (old new : List ℤ) : Type 0 where
  pub size : length new ≡ length old
  pub here : face_at n g a new p s t ≡ value
  pub others : (q i j : ℕ) → IsFacePlace n q i j → (q ≡ p → i ≡ s → j ≡ t → ⊥) → face_at n g a new q i j ≡ face_at n g a old q i j

-- how many faces a quarter of a side has, and where the sum for a place of the side stands among those of the four quarters
abbrev pub quarter_size : ℕ → ℕ
quarter_size n = n / 2 * (n / 2)

abbrev pub sum_place : ℕ → ℕ → ℕ → ℕ
sum_place n s t = quarter_size n * quarter_at n s t + (s % (n / 2) + n / 2 * (t % (n / 2)))

-- the first m faces at a position have other numbers, and those at other positions stay
pub record AreFacesSet (m n g : ℕ) (a : Axis) (p : ℕ) (wanted : ℕ → ℕ → ℤ) (old new : List ℤ) : Type 0 where
  pub size : length new ≡ length old
  pub here : (s t : ℕ) → s < n → t < n → s + n * t < m → face_at n g a new p s t ≡ wanted s t
  pub others : (q s t : ℕ) → IsFacePlace n q s t → (q ≡ p → ⊥) → face_at n g a new q s t ≡ face_at n g a old q s t

-- all faces at a position do
abbrev pub IsSideSet : ℕ → ℕ → Axis → ℕ → (ℕ → ℕ → ℤ) → List ℤ → List ℤ → Type 0
IsSideSet n g a p wanted old new = AreFacesSet (n * n) n g a p wanted old new
