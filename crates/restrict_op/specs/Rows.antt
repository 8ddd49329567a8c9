-- Sums of rows.
use Rattle.std.specs.Prelude.{ℕ, ◌+◌, ◌*◌, List, ℤ, ◌+ℤ◌}
use Rattle.amr_num.specs.Numbers.{at}

-- the sum of two neighbours in a row
unfoldable pub pair_in : List ℤ → ℕ → ℤ
pair_in row t = at row (2 * t) +ℤ at row (2 * t + 1)

-- the sum of two neighbours in each of four rows
abbrev pub eight_in : List ℤ → List ℤ → List ℤ → List ℤ → ℕ → ℤ
eight_in a b c d t = (pair_in a t +ℤ pair_in b t) +ℤ (pair_in c t +ℤ pair_in d t)
