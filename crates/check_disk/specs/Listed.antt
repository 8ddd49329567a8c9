-- A small spelling of meshes that are lists of bytes, with which checkpoints are tried in tests.
use Rattle.std.specs.Prelude.{ℕ, ◌+◌, ◌≤◌, ◌^◌, Bool, true, false, ◌&&◌, ◌==◌, nat_le, cond, List, [], ◌∷◌, length, drop, get_or, Result, Ok, Err}

-- eight bytes 65, the turn, and the mesh
unfoldable pub listed_image : List ℕ → ℕ → List ℕ
listed_image mesh turn = 65 ∷ 65 ∷ 65 ∷ 65 ∷ 65 ∷ 65 ∷ 65 ∷ 65 ∷ turn ∷ mesh

pub record FitsListed (mesh : List ℕ) : Type 0 where
  pub short : length mesh + 9 ≤ 2 ^ 29

abbrev pub same_bytes : List ℕ → List ℕ → Bool
same_bytes [] [] = true
same_bytes [] (y ∷ ys) = false
same_bytes (x ∷ xs) [] = false
same_bytes (x ∷ xs) (y ∷ ys) = (x == y) && same_bytes xs ys

-- the mesh that the bytes are the image of, if there is one
unfoldable pub read_listed : List ℕ → Result (List ℕ) (Unit {0})
read_listed bytes =
    cond (same_bytes bytes (listed_image (drop 9 bytes) (get_or bytes 8 0)) && (nat_le (get_or bytes 8 0) 2 && nat_le (length bytes) (2 ^ 29))) (Ok (drop 9 bytes)) (Err tt)
