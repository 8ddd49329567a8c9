-- What flows through one face.
use Rattle.std.specs.Prelude.{ℕ, Bool, ℤ, pos, negsuc, if◌then◌else◌}
use Rattle.amr_num.specs.Numbers.{carry}

-- the content of the cell that the speed comes from: the low one for a speed that is not negative, the high one for a negative one
abbrev pub donor_of : ℤ → ℤ → ℤ → ℤ
donor_of (pos n) low high = low
donor_of (negsuc n) low high = high

-- what the speed carries of the donor through a face at level l, and 0 on a closed side
unfoldable pub flux_between : ℕ → ℤ → ℤ → ℤ → Bool → ℤ
flux_between l speed low high closed = if closed then pos 0 else carry speed l (donor_of speed low high)
