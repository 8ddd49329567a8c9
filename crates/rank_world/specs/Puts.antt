-- Lists in which a small number is put.
use Rattle.std.specs.Prelude.{◌≡◌, ℕ, ◌⊎◌, List, length, ℤ}
use Rattle.amr_num.specs.Numbers.{Within, at}

-- each number of a list is what it was, or small
pub record IsPut (most : ℕ) (old new : List ℤ) : Type 0 where
  pub size : length new ≡ length old
  pub each : (k : ℕ) → Within most (at new k) ⊎ (at new k ≡ at old k)
