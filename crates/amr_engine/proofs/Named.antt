-- Names by their places.
use Rattle.std.proofs.Common.{◌≡◌, ℕ, zero, suc, List, [], ◌∷◌, Some, get_or}
use Rattle.std.specs.Prelude.{slice_get}

pub name_at : (names : List (List ℕ)) (v : ℕ) (name : List ℕ) → slice_get names v ≡ Some name → name ≡ get_or names v []
name_at [] v name e = cc
name_at (first ∷ names) zero name e = cc
name_at (first ∷ names) (suc v) name e = name_at names v name e
