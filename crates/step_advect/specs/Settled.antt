-- Which numbers no leaf cell holds.
use Rattle.std.specs.Prelude.{◌^◌, ◌<◌, ℤ, unsigned_abs}

-- the absolute value is above the greatest that a leaf stores, which is 2^40
abbrev pub IsAboveRange : ℤ → Type 0
IsAboveRange n = 2 ^ 40 < unsigned_abs n
