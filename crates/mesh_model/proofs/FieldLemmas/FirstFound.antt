-- The first of some things, as a list gives it.
use Rattle.std.proofs.lemmas.List.{append-nil, append_assoc}
use Rattle.std.proofs.Common.{◌≡◌, ℕ, zero, suc, ◌+◌, ◌<◌, ◌≤◌, ◌⊎◌, Bool, true, false, cond, List, [], ◌∷◌, ◌++◌, map, Option, Some, None, refl, sym, ap, ap₂, subst, ◌∙◌, arith, inl, inr}
use Rattle.std.specs.Prelude.{if◌then◌else◌, flat_map, find}
use Rattle.std.specs.List.{range_with_len}
use Rattle.std.specs.Option.{option_or, option_map}
use Rattle.std.proofs.lemmas.Bool.{cases_Bool, cases_lt}
use Rattle.std.proofs.lemmas.List.Folds.{find-append}
use Rattle.mesh_model.specs.Fields.Firsts.{first_below, first_in_box, first_in_places}
use Rattle.mesh_model.specs.Geometry.Places.{box_list}

-- nothing found so far, one more is looked at
pub one_more_none : {A : Type 0} (n : ℕ) (at : ℕ → Option A) → first_below n at ≡ None → at n ≡ None → first_below (n + 1) at ≡ None
one_more_none n at before here =
    let next : n + 1 ≡ suc n = omega arith in
    ap (λ m. first_below m at) next ∙ ap₂ (λ p q. option_or p q) before here

-- the first is found
pub found_first : {A : Type 0} (n m : ℕ) (at : ℕ → Option A) (x : A) → first_below m at ≡ None → at m ≡ Some x → m < n → first_below n at ≡ Some x
found_first zero m at x before here h = absurd (omega arith)
found_first (suc n) m at x before here h = elim (cases_lt m n) [
  | inl less ↦ ap (λ p. option_or p (at n)) (found_first n m at x before here less)
  | inr last ↦ (let same : n ≡ m = omega arith in ap₂ (λ p q. option_or p q) (ap (λ k. first_below k at) same ∙ before) (ap at same ∙ here))
]

-- the same where all are the same
pub first_same : {A : Type 0} (n : ℕ) (at to : ℕ → Option A) → ((i : ℕ) → i < n → at i ≡ to i) → first_below n at ≡ first_below n to
first_same zero at to same = refl
first_same (suc n) at to same = ap₂ (λ p q. option_or p q) (first_same n at to (λ i h. same i (omega arith))) (same n (omega arith))

-- ---- lists

range_more : (a n : ℕ) → range_with_len a (suc n) ≡ range_with_len a n ++ (a + n) ∷ []
range_more a zero = ap (λ m. m ∷ []) (omega arith)
range_more a (suc n) = ap (λ xs. a ∷ xs) (range_more (a + 1) n ∙ ap (λ m. range_with_len (a + 1) n ++ m ∷ []) (omega arith))

flat_append : {A B : Type 0} (f : A → List B) (xs ys : List A) → flat_map f (xs ++ ys) ≡ flat_map f xs ++ flat_map f ys
flat_append f [] ys = refl
flat_append f (x ∷ xs) ys = ap (λ zs. f x ++ zs) (flat_append f xs ys) ∙ sym (append_assoc (f x) (flat_map f xs) (flat_map f ys))

map_append : {A B : Type 0} (f : A → B) (xs ys : List A) → map f (xs ++ ys) ≡ map f xs ++ map f ys
map_append f [] ys = refl
map_append f (x ∷ xs) ys = ap (λ zs. f x ∷ zs) (map_append f xs ys)

one_found : {A : Type 0} (p : A → Bool) (x : A) → find p (x ∷ []) ≡ (if p x then Some x else None)
one_found p x = refl

-- what is found in a list that is made of parts is the first that is found in a part
pub found_in_flat : {B : Type 0} (p : B → Bool) (f : ℕ → List B) (n : ℕ) → find p (flat_map f (range_with_len 0 n)) ≡ first_below n (λ k. find p (f k))
found_in_flat p f zero = refl
found_in_flat p f (suc n) =
    ap (λ xs. find p (flat_map f xs)) (range_more 0 n) ∙ ap (find p) (flat_append f (range_with_len 0 n) ((0 + n) ∷ []))
    ∙ find-append p (flat_map f (range_with_len 0 n)) (flat_map f ((0 + n) ∷ []))
    ∙ ap₂ (λ a b. option_or a b) (found_in_flat p f n) (ap (find p) (append-nil (f (0 + n))) ∙ ap (λ m. find p (f m)) (omega arith))

pub found_in_map : {B : Type 0} (p : B → Bool) (f : ℕ → B) (n : ℕ) → find p (map f (range_with_len 0 n)) ≡ first_below n (λ k. if p (f k) then Some (f k) else None)
found_in_map p f zero = refl
found_in_map p f (suc n) =
    ap (λ xs. find p (map f xs)) (range_more 0 n) ∙ ap (find p) (map_append f (range_with_len 0 n) ((0 + n) ∷ []))
    ∙ find-append p (map f (range_with_len 0 n)) (f (0 + n) ∷ [])
    ∙ ap₂ (λ a b. option_or a b) (found_in_map p f n) (ap (λ m. find p (f m ∷ [])) (omega arith) ∙ one_found p (f n))

-- in a box
pub found_in_places : {B : Type 0} (p : B → Bool) (f : ℕ → ℕ → ℕ → B) (x y z : ℕ) → find p (box_list x y z f) ≡ first_in_places x y z (λ i j k. if p (f i j k) then Some (f i j k) else None)
found_in_places p f x y z =
    found_in_flat p (λ k. flat_map (λ j. map (λ i. f i j k) (range_with_len 0 x)) (range_with_len 0 y)) z
    ∙ first_same z (λ k. find p (flat_map (λ j. map (λ i. f i j k) (range_with_len 0 x)) (range_with_len 0 y)))
    (λ k. first_below y (λ j. first_below x (λ i. if p (f i j k) then Some (f i j k) else None)))
    (λ k h.
    found_in_flat p (λ j. map (λ i. f i j k) (range_with_len 0 x)) y
    ∙ first_same y (λ j. find p (map (λ i. f i j k) (range_with_len 0 x))) (λ j. first_below x (λ i. if p (f i j k) then Some (f i j k) else None))
    (λ j l. found_in_map p (λ i. f i j k) x))

pub found_in_box : {B : Type 0} (p : B → Bool) (f : ℕ → ℕ → ℕ → B) (n : ℕ) → find p (box_list n n n f) ≡ first_in_box n (λ i j k. if p (f i j k) then Some (f i j k) else None)
found_in_box p f n = found_in_places p f n n n

-- what is found among mapped things
pub first_mapped : {A B : Type 0} (g : A → B) (n : ℕ) (at : ℕ → Option A) → option_map g (first_below n at) ≡ first_below n (λ k. option_map g (at k))
first_mapped g zero at = refl
first_mapped g (suc n) at = or_mapped g (first_below n at) (at n) ∙ ap (λ p. option_or p (option_map g (at n))) (first_mapped g n at)
  where
    or_mapped : {A B : Type 0} (g : A → B) (p q : Option A) → option_map g (option_or p q) ≡ option_or (option_map g p) (option_map g q)
    or_mapped g None q = refl
    or_mapped g (Some x) q = refl

pub places_mapped : {A B : Type 0} (g : A → B) (x y z : ℕ) (at : ℕ → ℕ → ℕ → Option A) → option_map g (first_in_places x y z at) ≡ first_in_places x y z (λ i j k. option_map g (at i j k))
places_mapped g x y z at =
    first_mapped g z (λ k. first_below y (λ j. first_below x (λ i. at i j k)))
    ∙ first_same z (λ k. option_map g (first_below y (λ j. first_below x (λ i. at i j k)))) (λ k. first_below y (λ j. first_below x (λ i. option_map g (at i j k))))
    (λ k h.
    first_mapped g y (λ j. first_below x (λ i. at i j k))
    ∙ first_same y (λ j. option_map g (first_below x (λ i. at i j k))) (λ j. first_below x (λ i. option_map g (at i j k))) (λ j l. first_mapped g x (λ i. at i j k)))

pub box_mapped : {A B : Type 0} (g : A → B) (n : ℕ) (at : ℕ → ℕ → ℕ → Option A) → option_map g (first_in_box n at) ≡ first_in_box n (λ i j k. option_map g (at i j k))
box_mapped g n at = places_mapped g n n n at

pub places_same : {A : Type 0} (x y z : ℕ) (at to : ℕ → ℕ → ℕ → Option A) → ((i j k : ℕ) → i < x → j < y → k < z → at i j k ≡ to i j k) → first_in_places x y z at ≡ first_in_places x y z to
places_same x y z at to same =
    first_same z (λ k. first_below y (λ j. first_below x (λ i. at i j k))) (λ k. first_below y (λ j. first_below x (λ i. to i j k)))
    (λ k hk. first_same y (λ j. first_below x (λ i. at i j k)) (λ j. first_below x (λ i. to i j k)) (λ j hj. first_same x (λ i. at i j k) (λ i. to i j k) (λ i hi. same i j k hi hj hk)))

pub box_same : {A : Type 0} (n : ℕ) (at to : ℕ → ℕ → ℕ → Option A) → ((i j k : ℕ) → i < n → j < n → k < n → at i j k ≡ to i j k) → first_in_box n at ≡ first_in_box n to
box_same n at to same = places_same n n n at to same
