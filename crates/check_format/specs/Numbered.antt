-- Bytes in pieces that have numbers.
use Rattle.std.specs.Prelude.{◌≡◌, ℕ, ◌+◌, ◌*◌, ◌-◌, ◌/◌, ◌%◌, nat_lt, if◌then◌else◌, List, [], ◌++◌, length, drop, flat_map}
use Rattle.std.specs.List.{range_with_len}

-- so many pieces, and the bytes of each
pub record Pieces : Type 0 where
  pub count : ℕ
  pub piece : ℕ → List ℕ

-- all bytes of the pieces from one on
abbrev pub from_piece : Pieces → ℕ → List ℕ
from_piece p k = flat_map p.piece (range_with_len k (p.count - k))

-- those of all pieces
abbrev pub whole : Pieces → List ℕ
whole p = from_piece p 0

-- no piece, and one
abbrev pub no_piece : Pieces
no_piece = record { count = 0; piece = λ k. [] }

abbrev pub one_piece : List ℕ → Pieces
one_piece bytes = record { count = 1; piece = λ k. bytes }

-- some, and then others
infixr 20 ◌then◌
abbrev pub ◌then◌ : Pieces → Pieces → Pieces
p then q = record { count = p.count + q.count; piece = λ k. if nat_lt k p.count then p.piece k else q.piece (k - p.count) }

-- c pieces for each of n things
abbrev pub for_each : ℕ → ℕ → (ℕ → ℕ → List ℕ) → Pieces
for_each n c f = record { count = n * c; piece = λ k. f (k / c) (k % c) }

-- bytes stand at the front of a buffer, behind which it is as it was
pub record IsPut (bytes : List ℕ) (size : ℕ) (old new : List ℕ) : Type 0 where
  pub many : size ≡ length bytes
  pub front : new ≡ bytes ++ drop (length bytes) old
