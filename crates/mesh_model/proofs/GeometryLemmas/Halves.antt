-- Blocks of 4 or 8 cells by halves.
use Rattle.std.proofs.Common.{◌≡◌, ℕ, ◌+◌, ◌*◌, ◌/◌, ◌%◌, ◌<◌, ◌⊎◌, sym, subst, arith, inl, inr}

-- what holds of 4 and of 8 holds of the number of cells
pub by_size : (P : ℕ → Type 0) (n : ℕ) → (n ≡ 4) ⊎ (n ≡ 8) → P 4 → P 8 → P n
by_size P n size four eight = elim size [ inl e ↦ subst P (sym e) four | inr e ↦ subst P (sym e) eight ]

-- a block's cells are two halves
pub two_halves : (n r : ℕ) → (n ≡ 4) ⊎ (n ≡ 8) → n * r ≡ 2 * (n / 2 * r)
two_halves n r size = by_size (λ m. m * r ≡ 2 * (m / 2 * r)) n size (omega arith) (omega arith)

-- the half in which a cell is, and its place there
pub half_below : (n i : ℕ) → (n ≡ 4) ⊎ (n ≡ 8) → i < n → i / (n / 2) < 2
half_below n i size = by_size (λ m. i < m → i / (m / 2) < 2) n size (λ h. omega arith) (λ h. omega arith)

pub rest_below : (n i : ℕ) → (n ≡ 4) ⊎ (n ≡ 8) → i % (n / 2) < n / 2
rest_below n i size = by_size (λ m. i % (m / 2) < m / 2) n size (omega arith) (omega arith)

pub halved : (n i : ℕ) → (n ≡ 4) ⊎ (n ≡ 8) → n / 2 * (i / (n / 2)) + i % (n / 2) ≡ i
halved n i size = by_size (λ m. m / 2 * (i / (m / 2)) + i % (m / 2) ≡ i) n size (omega arith) (omega arith)

-- a cell of a half is a cell of the block
pub in_half : (n r i : ℕ) → (n ≡ 4) ⊎ (n ≡ 8) → r < 2 → i < n / 2 → n / 2 * r + i < n
in_half n r i size = by_size (λ m. r < 2 → i < m / 2 → m / 2 * r + i < m) n size (λ h l. omega arith) (λ h l. omega arith)

pub half_of : (n i : ℕ) → (n ≡ 4) ⊎ (n ≡ 8) → i < n → i / 2 < n / 2
half_of n i size = by_size (λ m. i < m → i / 2 < m / 2) n size (λ h. omega arith) (λ h. omega arith)

pub pair_inside : (n i r : ℕ) → (n ≡ 4) ⊎ (n ≡ 8) → i < n / 2 → r < 2 → 2 * i + r < n
pair_inside n i r size = by_size (λ m. i < m / 2 → r < 2 → 2 * i + r < m) n size (λ h l. omega arith) (λ h l. omega arith)

-- halves do not overlap
pub same_half : (n r i s j : ℕ) → (n ≡ 4) ⊎ (n ≡ 8) → i < n / 2 → j < n / 2 → n / 2 * r + i ≡ n / 2 * s + j → r ≡ s
same_half n r i s j size = by_size (λ m. i < m / 2 → j < m / 2 → m / 2 * r + i ≡ m / 2 * s + j → r ≡ s) n size (λ h l e. omega arith) (λ h l e. omega arith)

pub some_cells : (n : ℕ) → (n ≡ 4) ⊎ (n ≡ 8) → 0 < n
some_cells n size = by_size (λ m. 0 < m) n size (omega arith) (omega arith)
