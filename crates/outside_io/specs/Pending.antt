-- What is pending in an area since its last sync, and what a crash may leave of it.
use Rattle.std.specs.Prelude.{◌≡◌, ℕ, ◌+◌, ◌≤◌, ◌<◌, Bool, false, ◌&&◌, nat_le, nat_lt, min, max, List, [], ◌∷◌, ◌++◌, length, get_or}
use Rattle.std.specs.List.{list_any}
use Rattle.outside_io.specs.declared.pending.Span.{Span}

-- the bytes at the last sync, the ranges written since, and the least and the greatest length since
pub record Pending : Type 0 where
  pub synced : List ℕ
  pub spans : List Span
  pub least : ℕ
  pub greatest : ℕ

-- the place is in the range
abbrev pub is_in : ℕ → Span → Bool
is_in k span = nat_le span.place k && nat_lt k (span.place + span.count)

abbrev pub nothing_pending : List ℕ → Pending
nothing_pending bytes = record { synced = bytes; spans = []; least = length bytes; greatest = length bytes }

abbrev pub with_write : ℕ → ℕ → Pending → Pending
with_write place n p = record { synced = p.synced; spans = p.spans ++ (record { place = place; count = n }) ∷ []; least = p.least; greatest = max p.greatest (place + n) }

abbrev pub with_cut : ℕ → Pending → Pending
with_cut most p = record { synced = p.synced; spans = p.spans; least = min most p.least; greatest = p.greatest }

-- any bytes in the ranges and past the old end, the same elsewhere, and any length between
pub record IsOutcome (p : Pending) (c : List ℕ) : Type 0 where
  pub no_shorter : p.least ≤ length c
  pub no_longer : length c ≤ p.greatest
  pub outside : (k : ℕ) → k < length c → k < length p.synced → list_any (is_in k) p.spans ≡ false → get_or c k 0 ≡ get_or p.synced k 0
