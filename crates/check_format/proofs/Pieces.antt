-- Lists over ranges of numbers, and the bytes of pieces one after another.
use Rattle.std.proofs.Common.{◌≡◌, ℕ, zero, suc, ◌+◌, ◌-◌, ◌*◌, ◌/◌, ◌%◌, ◌<◌, ◌≤◌, ◌⊎◌, Bool, true, false, ◌&&◌, if◌then◌else◌, nat_lt, inl, inr, List, [], ◌∷◌, ◌++◌, map, flat_map, filter, refl, sym, ap, ap₂, ◌∙◌, arith, append-nil, add-sub_of_le, zero-mul, suc-mul, mod-lt, div-lt_iff_lt-mul, lt-ltb, le-ltb}
use Rattle.std.specs.List.{range_with_len}
use Rattle.std.proofs.Math.Bool.{and-false, and-true}
use Rattle.std.proofs.lemmas.Bool.{cases_Bool, cases_lt}
use Rattle.std.proofs.lemmas.Grind.{flat_map-append}
use Rattle.std.proofs.lemmas.List.Folds.{flat_map-map}
use Rattle.std.proofs.lemmas.Nat.{div-mul-add, mod-mul-add}
use Rattle.block_tree.proofs.ByNumber.{flat_next, range_apart}
use Rattle.mesh_model.specs.Geometry.Places.{box_list}
use Rattle.mesh_model.proofs.FieldLemmas.Walking.{Member}
use Rattle.check_format.specs.Numbered.{Pieces, from_piece, whole, one_piece, ◌then◌, for_each}
use Rattle.check_format.specs.Written.{if_declared}
use Rattle.std.proofs.Common.{Option, Some, None, is_some}
use Rattle.check_format.proofs.InOrder.{spread_flat}

-- ---- what is made of lists

-- by two functions that agree on its items
pub flat_same : {A B : Type 0} (f g : A → List B) (xs : List A) → ((a : A) → Member a xs → f a ≡ g a) → flat_map f xs ≡ flat_map g xs
flat_same f g [] same = refl
flat_same f g (x ∷ xs) same = ap₂ (λ u w. u ++ w) (same x (inl refl)) (flat_same f g xs (λ a i. same a (inr i)))

-- of the items that pass
pub flat_passed : {A B : Type 0} (p : A → Bool) (f : A → List B) (xs : List A) → flat_map f (filter p xs) ≡ flat_map (λ x. if p x then f x else []) xs
flat_passed p f [] = refl
flat_passed p f (x ∷ xs) = elim (cases_Bool (p x)) [
  | inl t ↦ rw t (ap (λ s. f x ++ s) (flat_passed p f xs))
  | inr fails ↦ rw fails (flat_passed p f xs)
]

-- under a test that is not of the items
pub flat_tested : {A B : Type 0} (t : Bool) (f : A → List B) (xs : List A) → flat_map (λ x. if t then f x else []) xs ≡ (if t then flat_map f xs else [])
flat_tested true f xs = refl
flat_tested false f [] = refl
flat_tested false f (x ∷ xs) = flat_tested false f xs

-- of the places of a box
pub flat_box : {A B : Type 0} (h : A → List B) (a b c : ℕ) (at : ℕ → ℕ → ℕ → A) → flat_map h (box_list a b c at) ≡ flat_map (λ k. flat_map (λ j. flat_map (λ i. h (at i j k)) (range_with_len 0 a)) (range_with_len 0 b)) (range_with_len 0 c)
flat_box h a b c at =
    spread_flat (flat_map h) refl (flat_map-append h) (λ k. flat_map (λ j. map (λ i. at i j k) (range_with_len 0 a)) (range_with_len 0 b)) (range_with_len 0 c)
    ∙ ap (λ f. flat_map f (range_with_len 0 c)) (λ t k. (
    spread_flat (flat_map h) refl (flat_map-append h) (λ j. map (λ i. at i j k) (range_with_len 0 a)) (range_with_len 0 b)
    ∙ ap (λ f. flat_map f (range_with_len 0 b)) (λ u j. flat_map-map h (λ i. at i j k) (range_with_len 0 a) u)) t)

-- ---- of ranges

pub range_same : {A : Type 0} (f g : ℕ → List A) (a n : ℕ) → ((k : ℕ) → a ≤ k → k < a + n → f k ≡ g k) → flat_map f (range_with_len a n) ≡ flat_map g (range_with_len a n)
range_same f g a zero same = refl
range_same f g a (suc n) same = ap₂ (λ u w. u ++ w) (same a (omega arith) (omega arith)) (range_same f g (a + 1) n (λ k low high. same k (omega arith) (omega arith)))

range_none : {A : Type 0} (f : ℕ → List A) (a n : ℕ) → ((k : ℕ) → a ≤ k → k < a + n → f k ≡ []) → flat_map f (range_with_len a n) ≡ []
range_none f a zero none = refl
range_none f a (suc n) none = ap₂ (λ u w. u ++ w) (none a (omega arith) (omega arith)) (range_none f (a + 1) n (λ k low high. none k (omega arith) (omega arith)))

range_moved : {A : Type 0} (f : ℕ → List A) (a b n : ℕ) → flat_map f (range_with_len (a + b) n) ≡ flat_map (λ k. f (a + k)) (range_with_len b n)
range_moved f a b zero = refl
range_moved f a b (suc n) =
    let next : a + b + 1 ≡ a + (b + 1) = omega arith in
    ap (λ t. f (a + b) ++ t) (ap (λ c. flat_map f (range_with_len c n)) next ∙ range_moved f a (b + 1) n)

-- the first m and the next n
pub range_parts : {A : Type 0} (f : ℕ → List A) (m n : ℕ) → flat_map f (range_with_len 0 (m + n)) ≡ flat_map f (range_with_len 0 m) ++ flat_map (λ k. f (m + k)) (range_with_len 0 n)
range_parts f m n =
    let start : 0 + m ≡ m + 0 = omega arith in
    ap (flat_map f) (range_apart 0 m n)
    ∙ flat_map-append f (range_with_len 0 m) (range_with_len (0 + m) n)
    ∙ ap (λ t. flat_map f (range_with_len 0 m) ++ t) (ap (λ a. flat_map f (range_with_len a n)) start ∙ range_moved f m 0 n)

-- n rows of c numbers each
pub range_rows : {A : Type 0} (f : ℕ → ℕ → List A) (n c : ℕ) → flat_map (λ k. f (k / c) (k % c)) (range_with_len 0 (n * c)) ≡ flat_map (λ i. flat_map (f i) (range_with_len 0 c)) (range_with_len 0 n)
range_rows f zero c = ap (λ m. flat_map (λ k. f (k / c) (k % c)) (range_with_len 0 m)) (zero-mul c)
range_rows f (suc n) c =
    let next : suc n ≡ n + 1 = omega arith in
    ap (λ m. flat_map (λ k. f (k / c) (k % c)) (range_with_len 0 m)) (suc-mul n c)
    ∙ range_parts (λ k. f (k / c) (k % c)) (n * c) c
    ∙ ap₂ (λ u w. u ++ w) (range_rows f n c) (range_same (λ k. f ((n * c + k) / c) ((n * c + k) % c)) (f n) 0 c (λ k low high. ap₂ f (div-mul-add n c k (omega arith)) (mod-mul-add n c k (omega arith))))
    ∙ sym (ap (λ m. flat_map (λ i. flat_map (f i) (range_with_len 0 c)) (range_with_len 0 m)) next ∙ flat_next (λ i. flat_map (f i) (range_with_len 0 c)) n)

-- those below m alone
pub range_below : {A : Type 0} (f : ℕ → List A) (m n : ℕ) → m ≤ n → flat_map (λ j. if nat_lt j m then f j else []) (range_with_len 0 n) ≡ flat_map f (range_with_len 0 m)
range_below f m n few =
    ap (λ s. flat_map (λ j. if nat_lt j m then f j else []) (range_with_len 0 s)) (sym (add-sub_of_le few))
    ∙ range_parts (λ j. if nat_lt j m then f j else []) m (n - m)
    ∙ ap₂ (λ u w. u ++ w) (range_same (λ j. if nat_lt j m then f j else []) f 0 m (λ k low high. ap (λ t. if t then f k else []) (lt-ltb k m (omega arith)))) (range_none (λ k. if nat_lt (m + k) m then f (m + k) else []) 0 (n - m) (λ k low high. ap (λ t. if t then f (m + k) else []) (le-ltb (m + k) m (omega arith))))
    ∙ append-nil (flat_map f (range_with_len 0 m))

-- those below m, under a test that is not of them
pub range_below_tested : {A : Type 0} (f : ℕ → List A) (m n : ℕ) (t : Bool) → m ≤ n → flat_map (λ j. if nat_lt j m && t then f j else []) (range_with_len 0 n) ≡ (if t then flat_map f (range_with_len 0 m) else [])
range_below_tested f m n true few = ap (λ h. flat_map h (range_with_len 0 n)) (λ i j. if and-true (nat_lt j m) i then f j else []) ∙ range_below f m n few
range_below_tested f m n false few = range_none (λ j. if nat_lt j m && false then f j else []) 0 n (λ j low high. ap (λ t. if t then f j else []) (and-false (nat_lt j m)))

-- ---- pieces

-- the bytes of all
abbrev pub all : Pieces → List ℕ
all p = flat_map p.piece (range_with_len 0 p.count)

pub whole_is : (p : Pieces) → whole p ≡ all p
whole_is p =
    let count : p.count - 0 ≡ p.count = omega arith in
    ap (λ n. flat_map p.piece (range_with_len 0 n)) count

pub in_first : (p q : Pieces) (k : ℕ) → k < p.count → (p then q).piece k ≡ p.piece k
in_first p q k low = ap (λ t. if t then p.piece k else q.piece (k - p.count)) (lt-ltb k p.count low)

pub in_second : (p q : Pieces) (k : ℕ) → p.count ≤ k → (p then q).piece k ≡ q.piece (k - p.count)
in_second p q k high = ap (λ t. if t then p.piece k else q.piece (k - p.count)) (le-ltb k p.count high)

pub all_one : (bytes : List ℕ) → all (one_piece bytes) ≡ bytes
all_one bytes = append-nil bytes

pub all_then : (p q : Pieces) → all (p then q) ≡ all p ++ all q
all_then p q =
    range_parts (p then q).piece p.count q.count
    ∙ ap₂ (λ u w. u ++ w) (range_same (p then q).piece p.piece 0 p.count (λ k low high. in_first p q k (omega arith))) (range_same (λ k. (p then q).piece (p.count + k)) q.piece 0 q.count (λ k low high. behind k))
  where
    behind : (k : ℕ) → (p then q).piece (p.count + k) ≡ q.piece k
    behind k =
        let back : p.count + k - p.count ≡ k = omega arith in
        in_second p q (p.count + k) (omega arith) ∙ ap q.piece back

pub all_each : (n c : ℕ) (f : ℕ → ℕ → List ℕ) → all (for_each n c f) ≡ flat_map (λ i. flat_map (f i) (range_with_len 0 c)) (range_with_len 0 n)
all_each n c f = range_rows f n c

-- ---- pieces that agree

-- there are as many of both, and each has the same bytes
pub record Agree (p q : Pieces) : Type 0 where
  pub count : p.count ≡ q.count
  pub piece : (k : ℕ) → k < p.count → p.piece k ≡ q.piece k

pub agree_self : (p : Pieces) → Agree p p
agree_self p = record { count = refl; piece = λ k h. refl }

pub agree_then : (p p' q q' : Pieces) → Agree p p' → Agree q q' → Agree (p then q) (p' then q')
agree_then p p' q q' first second = record {
  count = ap₂ (λ m n. m + n) first.count second.count;
  piece = λ k h. at k h (cases_lt k p.count);
}
  where
    at : (k : ℕ) → k < p.count + q.count → (k < p.count) ⊎ (p.count ≤ k) → (p then q).piece k ≡ (p' then q').piece k
    at k h (inl low) =
        let same = first.count in
        in_first p q k low ∙ first.piece k low ∙ sym (in_first p' q' k (omega arith))
    at k h (inr high) =
        let same = first.count in
        in_second p q k high ∙ second.piece (k - p.count) (omega arith) ∙ ap (λ m. q'.piece (k - m)) same ∙ sym (in_second p' q' k (omega arith))

pub agree_each : (n c : ℕ) (f g : ℕ → ℕ → List ℕ) → 0 < c → ((i j : ℕ) → i < n → j < c → f i j ≡ g i j) → Agree (for_each n c f) (for_each n c g)
agree_each n c f g some same = record { count = refl; piece = λ k h. same (k / c) (k % c) ((div-lt_iff_lt-mul some).1 h) (mod-lt k some) }

-- the bytes from one on are the same
pub agree_from : (p q : Pieces) (k : ℕ) → Agree p q → from_piece p k ≡ from_piece q k
agree_from p q k agree =
    range_same p.piece q.piece k (p.count - k) (λ i low high. agree.piece i (omega arith))
    ∙ ap (λ n. flat_map q.piece (range_with_len k (n - k))) agree.count

-- pieces of a variable that is declared
pub declared : (name : Option (List ℕ)) (p : Pieces) (k : ℕ) → k < (if_declared name p).count → (is_some name ≡ true) × (k < p.count) × ((if_declared name p).piece k ≡ p.piece k)
declared None p k low = absurd (omega arith)
declared (Some name) p k low = (refl, low, refl)
