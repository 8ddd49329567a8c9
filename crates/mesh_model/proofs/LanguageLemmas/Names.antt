-- Names by their bytes.
use Rattle.std.proofs.lemmas.Bool.{and_parts}
use Rattle.std.proofs.Common.{leb-true, ◌≡◌, ℕ, zero, suc, ◌<◌, ◌≤◌, true, List, [], ◌∷◌, length, slice_index, arith}
use Rattle.std.proofs.lemmas.Bool.Decides.{nat_tests}
use Rattle.std.specs.List.{list_all}
use Rattle.std.specs.Str.{IsAscii}
use Rattle.mesh_model.specs.Language.Words.{is_name_byte, is_name}

name_byte : (b : ℕ) → is_name_byte b ≡ true → b < 128
name_byte b h = grind (arith, nat_tests)

all_ascii : (xs : List ℕ) → list_all is_name_byte xs ≡ true → (i : ℕ) → slice_index xs i < 128
all_ascii [] h i = omega arith
all_ascii (x ∷ xs) h zero = name_byte x (and_parts _ _ h).0
all_ascii (x ∷ xs) h (suc i) = all_ascii xs (and_parts (is_name_byte x) _ h).1 i

pub name_is_ascii : (w : List ℕ) → is_name w ≡ true → IsAscii w
unfolding is_name
name_is_ascii w h = all_ascii w (and_parts _ _ (and_parts _ _ h).0).1

pub name_is_short : (w : List ℕ) → is_name w ≡ true → length w ≤ 16
unfolding is_name
name_is_short w h = leb-true (length w) 16 (and_parts _ _ (and_parts _ _ (and_parts _ _ (and_parts _ _ h).0).0).0).1
