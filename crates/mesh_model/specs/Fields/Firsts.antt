-- The first of some things in order for which there is one.
use Rattle.std.specs.Prelude.{ℕ, zero, suc, Option, None, ℤ, if◌then◌else◌}
use Rattle.std.specs.Option.{option_or}

-- the first below n
abbrev pub first_below : {A : Type 0} → ℕ → (ℕ → Option A) → Option A
first_below zero at = None
first_below (suc n) at = option_or (first_below n at) (at n)

-- the first in a box of so many places along each axis, x fastest, then y, then z
abbrev pub first_in_places : {A : Type 0} → ℕ → ℕ → ℕ → (ℕ → ℕ → ℕ → Option A) → Option A
first_in_places x y z at = first_below z (λ k. first_below y (λ j. first_below x (λ i. at i j k)))

-- with n along each
abbrev pub first_in_box : {A : Type 0} → ℕ → (ℕ → ℕ → ℕ → Option A) → Option A
first_in_box n at = first_in_places n n n at
