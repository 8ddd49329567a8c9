-- What the laws of the numbers say.
use Rattle.std.specs.Prelude.{◌≡◌, ℕ, ◌<◌, ℤ}
use Rattle.amr_num.specs.Numbers.{part, sum_below, spread}

-- the k parts of n add up to n
abbrev pub PartsAddUp : Type 0
PartsAddUp = (n : ℤ) (k : ℕ) → 0 < k → sum_below k (λ q. part q n k) ≡ n

-- what a total is spread into over k guides adds up to the total
abbrev pub SpreadAddsUp : Type 0
SpreadAddsUp = (k : ℕ) (total : ℤ) (guide : ℕ → ℤ) → 0 < k → sum_below k (spread k total guide) ≡ total
