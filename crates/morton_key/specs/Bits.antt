-- Bits at regular distances.
use Rattle.std.specs.Prelude.{ℕ, zero, suc, ◌+◌, ◌*◌, ◌/◌, ◌%◌, ◌^◌}

-- k bits of n that stand p places apart, from the lowest, set q places apart
unfoldable pub respaced : ℕ → ℕ → ℕ → ℕ → ℕ
respaced p q zero n = 0
respaced p q (suc k) n = n % 2 + 2 ^ q * respaced p q k (n / 2 ^ p)
