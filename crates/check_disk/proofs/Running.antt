-- What a crash leaves over the calls of each step.
use Rattle.std.proofs.Common.{◌≡◌, ◌⊎◌, inl, ℕ, ◌≤◌, length, take, get_or, slice_get, Option, sym, ap, subst, ◌∙◌}
use Rattle.std.specs.Option.{unwrap_or}
use Rattle.std.proofs.lemmas.Option.{unwrap_or-slice_get}
use Rattle.outside_io.specs.declared.disk.Area.{Area}
use Rattle.outside_io.specs.Areas.{Areas, bytes_of, other_area}
use Rattle.outside_io.specs.Crash.{Torn, Shortened, InArea, Follows, Elapses, LeavesOnly, Reads, Rests}
use Rattle.outside_io.proofs.Moments.{started, goes_on, weaker, joined, still_rests}
use Rattle.check_disk.specs.Steps.{IsShut, IsBehind, KeepsGate}
use Rattle.check_disk.proofs.Gates.{after_cut, kept_behind, must_close, while_closing}

module _ {D : Type 0} (holds : D → Option Areas) (may_leave : D → Areas → Type 0) (moment : D → ℕ) (left_since : D → ℕ → Areas → Type 0) where
  -- the gate was looked at, found open or missing, and put
  pub closing : (old looked put : D) (area : Area) (areas : Areas) (gate : Option ℕ) → Reads holds may_leave moment left_since old looked → Rests holds may_leave old areas
      → gate ≡ slice_get (bytes_of areas area) 0 → unwrap_or gate 1 ≡ 1
      → ((a : Areas) → Rests holds may_leave looked a → LeavesOnly moment left_since looked put (InArea area (Torn 0 1) a))
      → LeavesOnly moment left_since old put (λ c. (c ≡ areas) ⊎ IsBehind area areas c)
  closing old looked put area areas gate reads rests byte one moments =
      let P = λ (c : Areas). (c ≡ areas) ⊎ IsBehind area areas c in
      let first : get_or (bytes_of areas area) 0 1 ≡ 1 = sym (unwrap_or-slice_get (bytes_of areas area) 0 1) ∙ ap (λ o. unwrap_or o 1) (sym byte) ∙ one in
      joined moment left_since old looked put P
      (weaker moment left_since old looked (may_leave old) P (λ c left. inl (rests.only c left)) reads.run)
      (weaker moment left_since looked put (InArea area (Torn 0 1) areas) P (λ c step. while_closing area areas c (must_close (bytes_of areas area) first) step)
      (moments areas (still_rests holds may_leave moment left_since old looked areas reads rests)))

  -- the area was cut to its gate, and an image was put behind it
  pub writing : (old cut put : D) (area : Area) (areas : Areas) → Rests holds may_leave old areas → IsShut (bytes_of areas area)
      → ((c : Areas) → left_since old (moment old) c → may_leave old c) → Follows (InArea area (Shortened 1)) (may_leave old) (may_leave cut)
      → Elapses (moment old) (moment cut) (left_since old) (left_since cut) (may_leave cut)
      → ((base : Areas) → ((c : Areas) → may_leave cut c → KeepsGate area base c) → LeavesOnly moment left_since cut put (KeepsGate area base))
      → LeavesOnly moment left_since old put (IsBehind area areas)
  writing old cut put area areas rests shut only_now follows time moments =
      let keeps = after_cut area areas (may_leave old) (may_leave cut) shut rests.only follows in
      let same : (c : Areas) → left_since old (moment old) c → KeepsGate area areas c = λ c left. start c (rests.only c (only_now c left)) in
      weaker moment left_since old put (KeepsGate area areas) (IsBehind area areas) (λ c k. kept_behind area areas c shut k)
      (joined moment left_since old cut put (KeepsGate area areas)
      (goes_on moment left_since old old cut (KeepsGate area areas) (may_leave cut) (started moment left_since old (KeepsGate area areas) same) time keeps)
      (moments areas keeps))
    where
      start : (c : Areas) → c ≡ areas → KeepsGate area areas c
      start c same = record { there = ap (λ (x : Areas). bytes_of x (other_area area)) same; long = subst (λ (x : Areas). 1 ≤ length (bytes_of x area)) (sym same) shut.long; gate = ap (λ (x : Areas). take 1 (bytes_of x area)) same }

  -- and the area was synced
  pub syncing : (old cut put synced : D) (area : Area) (areas : Areas) → IsShut (bytes_of areas area) → LeavesOnly moment left_since old put (IsBehind area areas)
      → ((c : Areas) → may_leave cut c → KeepsGate area areas c)
      → ((base : Areas) → ((c : Areas) → may_leave cut c → KeepsGate area base c) → (c : Areas) → may_leave put c → KeepsGate area base c)
      → ((c : Areas) → may_leave synced c → may_leave put c) → Elapses (moment put) (moment synced) (left_since put) (left_since synced) (may_leave synced)
      → LeavesOnly moment left_since old synced (IsBehind area areas)
  syncing old cut put synced area areas shut so_far keeps crash less time =
      goes_on moment left_since old put synced (IsBehind area areas) (may_leave synced) so_far time
      (λ c left. kept_behind area areas c shut (crash areas keeps c (less c left)))
