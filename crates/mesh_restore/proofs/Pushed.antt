-- One number more in a list of numbers that are not too great.
use Rattle.std.proofs.Common.{◌≡◌, ℕ, zero, suc, ◌≤◌, ◌++◌, List, [], ◌∷◌, ℤ, pos, arith}
use Rattle.amr_num.specs.Numbers.{Within}
use Rattle.mesh_restore.specs.Filling.{AreWithin}

pub within_push : (most : ℕ) (xs : List ℤ) (x : ℤ) → AreWithin most xs → Within most x → AreWithin most (xs ++ x ∷ [])
within_push most [] x are small zero = small
within_push most [] x are small (suc k) = omega arith
within_push most (y ∷ xs) x are small zero = are zero
within_push most (y ∷ xs) x are small (suc k) = within_push most xs x (λ j. are (suc j)) small k
