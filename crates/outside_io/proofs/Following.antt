-- What the ranges and lengths say is what the calls' steps say, one after another.
use Rattle.std.proofs.Common.{◌≡◌, inl, inr, ℕ, ◌+◌, ◌-◌, ◌≤◌, ◌<◌, min, max, true, false, ◌||◌, nat_le, nat_lt, cond, List, [], ◌∷◌, ◌++◌, length, take, drop, get_or, map, refl, sym, ap, ◌∙◌, arith, length-append}
use Rattle.std.specs.List.{list_any, range_with_len}
use Rattle.std.proofs.lemmas.Bool.{cases_Bool, cases_lt, both_ways, and_from, le-leb, or_from, or_parts, and_left, and_right, cond-true, cond-false, lt-leb, le-ltb, lt-ltb}
use Rattle.std.proofs.lemmas.List.{drop_all, length-take, length-drop, get_or-take, get_or-drop, take_at, drop_at, take_min, append_assoc}
use Rattle.std.proofs.lemmas.Grind.{same_number_lists}
use Rattle.std.proofs.lemmas.List.FromFn.{get_or-map-range_with_len, length-map-range_with_len}
use Rattle.std.proofs.lemmas.List.Folds.{list_any-append}
use Rattle.outside_io.specs.declared.pending.Span.{Span}
use Rattle.outside_io.specs.Areas.{overwritten}
use Rattle.outside_io.specs.Crash.{Torn, Shortened}
use Rattle.outside_io.specs.Pending.{Pending, is_in, with_write, with_cut, IsOutcome}

-- the list with those elements
listed : ℕ → (ℕ → ℕ) → List ℕ
listed n f = map f (range_with_len 0 n)

length-listed : (n : ℕ) (f : ℕ → ℕ) → length (listed n f) ≡ n
unfolding listed
length-listed n f = length-map-range_with_len f 0 n

get_or-listed : (n : ℕ) (f : ℕ → ℕ) (k : ℕ) → k < n → get_or (listed n f) k 0 ≡ f k
unfolding listed
get_or-listed n f k lt = get_or-map-range_with_len f 0 n k k 0 lt (omega arith)

take_same : (n : ℕ) (xs ys : List ℕ) → min n (length xs) ≡ min n (length ys) → ((k : ℕ) → k < n → k < length xs → get_or xs k 0 ≡ get_or ys k 0) → take n xs ≡ take n ys
take_same n xs ys lengths each =
    let long = length-take n xs in
    same_number_lists (take n xs) (take n ys) (long ∙ lengths ∙ sym (length-take n ys))
    (λ k lt. get_or-take n xs k 0 (omega arith) ∙ each k (omega arith) (omega arith) ∙ sym (get_or-take n ys k 0 (omega arith)))

drop_same : (n : ℕ) (xs ys : List ℕ) → length xs ≡ length ys → ((k : ℕ) → n ≤ k → k < length xs → get_or xs k 0 ≡ get_or ys k 0) → drop n xs ≡ drop n ys
drop_same n xs ys lengths each =
    let long = length-drop n xs in
    same_number_lists (drop n xs) (drop n ys) (long ∙ ap (λ l. l - n) lengths ∙ sym (length-drop n ys))
    (λ k lt. get_or-drop n xs k 0 ∙ each (n + k) (omega arith) (omega arith) ∙ sym (get_or-drop n ys k 0))

abbrev span : ℕ → ℕ → Span
span place n = record { place = place; count = n }

low : (place n k : ℕ) → k < place → is_in k (span place n) ≡ false
low place n k lt = and_left (nat_le place k) (nat_lt k (place + n)) (lt-leb place k lt)

high : (place n k : ℕ) → place + n ≤ k → is_in k (span place n) ≡ false
high place n k le = and_right (nat_le place k) (nat_lt k (place + n)) (le-ltb k (place + n) le)

-- outside one range more
off_more : (place n k : ℕ) (spans : List Span) → is_in k (span place n) ≡ false → list_any (is_in k) spans ≡ false → list_any (is_in k) (spans ++ span place n ∷ []) ≡ false
off_more place n k spans without out = list_any-append (is_in k) spans (span place n ∷ []) ∙ or_from (list_any (is_in k) spans) (is_in k (span place n) || false) out (or_from (is_in k (span place n)) false without refl)

off_each : (place n k : ℕ) (spans : List Span) → list_any (is_in k) (spans ++ span place n ∷ []) ≡ false → (is_in k (span place n) ≡ false) × (list_any (is_in k) spans ≡ false)
off_each place n k spans out =
    let parts = or_parts (list_any (is_in k) spans) (is_in k (span place n) || false) (sym (list_any-append (is_in k) spans (span place n ∷ [])) ∙ out) in
    ((or_parts (is_in k (span place n)) false parts.1).0, parts.0)

-- before a write
before_write : ℕ → ℕ → List ℕ → List ℕ → ℕ → ℕ
before_write place n synced c k = cond (is_in k (span place n)) (get_or synced k 0) (get_or c k 0)

at_range : (place n : ℕ) (synced c : List ℕ) (k : ℕ) → is_in k (span place n) ≡ true → before_write place n synced c k ≡ get_or synced k 0
unfolding before_write
at_range place n synced c k is = cond-true (is_in k (span place n)) _ _ is

off_range : (place n : ℕ) (synced c : List ℕ) (k : ℕ) → is_in k (span place n) ≡ false → before_write place n synced c k ≡ get_or c k 0
unfolding before_write
off_range place n synced c k is = cond-false (is_in k (span place n)) _ _ is

pub write_follows : (place n : ℕ) (p : Pending) (c : List ℕ) → p.least ≤ p.greatest → place ≤ p.greatest → IsOutcome (with_write place n p) c → (d : List ℕ) × IsOutcome p d × Torn place n d c
write_follows place n p c order reach is =
    let m = min (length c) p.greatest in
    let f = before_write place n p.synced c in
    let d = listed m f in
    let long : length d ≡ m = length-listed m f in
    let short = is.no_shorter in
    let longest = is.no_longer in
    let off : (k : ℕ) → k < m → is_in k (span place n) ≡ false → get_or c k 0 ≡ get_or d k 0 = λ k lt out. sym (get_or-listed m f k lt ∙ off_range place n p.synced c k out) in (
      d,
      record {
        no_shorter = omega arith;
        no_longer = omega arith;
        outside = λ k lt in_synced out. elim (cases_Bool (is_in k (span place n))) [
          | inl within ↦ get_or-listed m f k (omega arith) ∙ at_range place n p.synced c k within
          | inr without ↦ sym (off k (omega arith) without) ∙ is.outside k (omega arith) in_synced (off_more place n k p.spans without out)
        ];
      },
      record {
        before = take_same place c d (omega arith) (λ k lt lt'. off k (omega arith) (low place n k lt));
        after = elim (cases_lt p.greatest (length c)) [
          | inl past ↦ drop_all (place + n) c (omega arith) ∙ sym (drop_all (place + n) d (omega arith))
          | inr within ↦ drop_same (place + n) c d (omega arith) (λ k le lt. off k (omega arith) (high place n k le))
        ];
        no_shorter = omega arith;
        no_longer = omega arith;
      },
    )

pub write_allows : (place n : ℕ) (p : Pending) (d c : List ℕ) → IsOutcome p d → Torn place n d c → IsOutcome (with_write place n p) c
write_allows place n p d c is torn =
    let short = is.no_shorter in
    let longest = is.no_longer in
    let more = torn.no_shorter in
    let fewer = torn.no_longer in
    record {
      no_shorter = omega arith;
      no_longer = omega arith;
      outside = λ k lt in_synced out.
          let parts = off_each place n k p.spans out in
          elim (cases_lt k place) [
            | inl below ↦
                let lengths : min place (length c) ≡ min place (length d) = sym (length-take place c) ∙ ap (λ (l : List ℕ). length l) torn.before ∙ length-take place d in
                sym (get_or-take place c k 0 below) ∙ ap (λ (l : List ℕ). get_or l k 0) torn.before ∙ get_or-take place d k 0 below ∙ is.outside k (omega arith) in_synced parts.1
            | inr above ↦ elim (cases_lt k (place + n)) [
              | inl within ↦ absurd (inside place n k above within parts.0)
              | inr past ↦
                  let j = k - (place + n) in
                  let k_is : (place + n) + j ≡ k = omega arith in
                  let lengths : length c - (place + n) ≡ length d - (place + n) = sym (length-drop (place + n) c) ∙ ap (λ (l : List ℕ). length l) torn.after ∙ length-drop (place + n) d in
                  sym (ap (λ q. get_or c q 0) k_is) ∙ sym (get_or-drop (place + n) c j 0) ∙ ap (λ (l : List ℕ). get_or l j 0) torn.after ∙ get_or-drop (place + n) d j 0 ∙ ap (λ q. get_or d q 0) k_is ∙ is.outside k (omega arith) in_synced parts.1
            ]
          ];
    }
  where
    inside : (place n k : ℕ) → place ≤ k → k < place + n → is_in k (span place n) ≡ false → ⊥
    inside place n k above within out = both_ways (is_in k (span place n)) out (and_from (nat_le place k) (nat_lt k (place + n)) (le-leb place k above) (lt-ltb k (place + n) within))

-- before a cut
before_cut : List ℕ → List ℕ → ℕ → ℕ
before_cut synced c k = cond (nat_lt k (length c)) (get_or c k 0) (get_or synced k 0)

kept_part : (synced c : List ℕ) (k : ℕ) → k < length c → before_cut synced c k ≡ get_or c k 0
unfolding before_cut
kept_part synced c k lt = cond-true (nat_lt k (length c)) _ _ (lt-ltb k (length c) lt)

lost_part : (synced c : List ℕ) (k : ℕ) → length c ≤ k → before_cut synced c k ≡ get_or synced k 0
unfolding before_cut
lost_part synced c k le = cond-false (nat_lt k (length c)) _ _ (le-ltb k (length c) le)

pub cut_follows : (most : ℕ) (p : Pending) (c : List ℕ) → p.least ≤ p.greatest → IsOutcome (with_cut most p) c → (d : List ℕ) × IsOutcome p d × Shortened most d c
cut_follows most p c order is =
    let m = max (length c) p.least in
    let f = before_cut p.synced c in
    let d = listed m f in
    let long : length d ≡ m = length-listed m f in
    let short = is.no_shorter in
    let longest = is.no_longer in
    let taken = length-take (length c) d in (
      d,
      record {
        no_shorter = omega arith;
        no_longer = omega arith;
        outside = λ k lt in_synced out. elim (cases_lt k (length c)) [
          | inl below ↦ get_or-listed m f k (omega arith) ∙ kept_part p.synced c k below ∙ is.outside k below in_synced out
          | inr above ↦ get_or-listed m f k (omega arith) ∙ lost_part p.synced c k above
        ];
      },
      record {
        no_shorter = omega arith;
        front = same_number_lists c (take (length c) d) (omega arith) (λ k lt. sym (get_or-take (length c) d k 0 lt ∙ get_or-listed m f k (omega arith) ∙ kept_part p.synced c k lt));
      },
    )

pub cut_allows : (most : ℕ) (p : Pending) (d c : List ℕ) → IsOutcome p d → Shortened most d c → IsOutcome (with_cut most p) c
cut_allows most p d c is cut =
    let short = is.no_shorter in
    let longest = is.no_longer in
    let more = cut.no_shorter in
    let taken : length c ≡ min (length c) (length d) = ap (λ (l : List ℕ). length l) cut.front ∙ length-take (length c) d in
    record {
      no_shorter = omega arith;
      no_longer = omega arith;
      outside = λ k lt in_synced out. ap (λ (l : List ℕ). get_or l k 0) cut.front ∙ get_or-take (length c) d k 0 lt ∙ is.outside k (omega arith) in_synced out;
    }

-- what a read gives after a write and after a cut
pub torn_whole : (place : ℕ) (piece bytes : List ℕ) → place ≤ length bytes → Torn place (length piece) bytes (overwritten place piece bytes)
torn_whole place piece bytes fits =
    let front = take place bytes in
    let back = drop (place + length piece) bytes in
    let long : length front ≡ place = (let l = length-take place bytes in omega arith) in
    let total : length (front ++ piece ++ back) ≡ place + length piece + length back = (let l = length-append (front ++ piece) back in let m = length-append front piece in omega arith) in
    let left = length-drop (place + length piece) bytes in
    record {
      before = ap (λ (l : List ℕ). take place l) (append_assoc front piece back) ∙ take_at front (piece ++ back) place long;
      after = drop_at (front ++ piece) back (place + length piece) (let m = length-append front piece in omega arith);
      no_shorter = omega arith;
      no_longer = omega arith;
    }

pub shortened_whole : (most : ℕ) (bytes : List ℕ) → Shortened most bytes (take most bytes)
shortened_whole most bytes =
    let long = length-take most bytes in
    record { no_shorter = omega arith; front = sym (ap (λ q. take q bytes) long ∙ take_min most bytes) }
