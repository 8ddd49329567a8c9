-- Places that stand once, and the numbers at them.
use Rattle.std.proofs.Common.{◌≡◌, ℕ, zero, suc, ◌+◌, ◌<◌, ◌≤◌, ◌⊎◌, Bool, true, false, cond, if◌then◌else◌, refl, sym, ap, ap₂, subst, ◌∙◌, arith, inl, inr, List, [], ◌∷◌, ◌++◌, map, length, filter, ℤ, pos, ◌||◌}
use Rattle.std.specs.Prelude.{flat_map}
use Rattle.std.specs.List.{list_any, range_with_len, AllByRecursion}
use Rattle.std.proofs.lemmas.Bool.{cases_Bool}
use Rattle.amr_num.specs.Numbers.{Within}
use Rattle.mesh_model.proofs.TreeLemmas.Tests.{both_false}
use Rattle.mesh_model.proofs.FieldLemmas.Walking.{Member}
use Rattle.mesh_model.specs.Geometry.Places.{box_list}
use Rattle.mesh_model.specs.Images.Keyed.{fresh, value_at}

-- each stands once
abbrev pub Once : {A : Type 0} → List A → Type 0
Once [] = Unit
Once (a ∷ ks) = (Member a ks → ⊥) × Once ks

-- ---- the places that pass

pub member_filter : {A : Type 0} (p : A → Bool) (a : A) (ks : List A) → Member a ks → p a ≡ true → Member a (filter p ks)
member_filter p a [] i h = absurd i
member_filter p a (b ∷ ks) (inl e) h = subst (λ u. Member a u) (sym (ap (λ t. cond t (b ∷ filter p ks) (filter p ks)) (ap p e ∙ h))) (inl e)
member_filter p a (b ∷ ks) (inr i) h =
    let rest = member_filter p a ks i h in
    elim (cases_Bool (p b)) [
      | inl t ↦ subst (λ u. Member a u) (sym (ap (λ t. cond t (b ∷ filter p ks) (filter p ks)) t)) (inr rest)
      | inr f ↦ subst (λ u. Member a u) (sym (ap (λ t. cond t (b ∷ filter p ks) (filter p ks)) f)) rest
    ]

pub from_filter : {A : Type 0} (p : A → Bool) (a : A) (ks : List A) → Member a (filter p ks) → p a ≡ true
from_filter p a [] i = absurd i
from_filter p a (b ∷ ks) i = elim (cases_Bool (p b)) [
  | inl t ↦ elim (subst (λ u. Member a u) (ap (λ t. cond t (b ∷ filter p ks) (filter p ks)) t) i) [
    | inl e ↦ subst (λ u. p u ≡ true) e t
    | inr j ↦ from_filter p a ks j
  ]
  | inr f ↦ from_filter p a ks (subst (λ u. Member a u) (ap (λ t. cond t (b ∷ filter p ks) (filter p ks)) f) i)
]

module _ (A : Type 0) (same : A → A → Bool) (says : (a b : A) → same a b ≡ true → a ≡ b) (shows : (a : A) → same a a ≡ true) where
  fresh_old : (seen : List A) (a : A) (ks : List A) → list_any (λ b. same b a) seen ≡ true → fresh same seen (a ∷ ks) ≡ fresh same (a ∷ seen) ks
  fresh_old seen a ks t = ap (λ u. if u then fresh same (a ∷ seen) ks else a ∷ fresh same (a ∷ seen) ks) t

  fresh_new : (seen : List A) (a : A) (ks : List A) → list_any (λ b. same b a) seen ≡ false → fresh same seen (a ∷ ks) ≡ a ∷ fresh same (a ∷ seen) ks
  fresh_new seen a ks t = ap (λ u. if u then fresh same (a ∷ seen) ks else a ∷ fresh same (a ∷ seen) ks) t

  not_seen : (seen : List A) (ks : List A) (a : A) → Member a (fresh same seen ks) → list_any (λ b. same b a) seen ≡ false
  not_seen seen [] a i = absurd i
  not_seen seen (c ∷ ks) a i = elim (cases_Bool (list_any (λ b. same b c) seen)) [
    | inl t ↦ (both_false (same c a) (list_any (λ b. same b a) seen) (not_seen (c ∷ seen) ks a (subst (λ u. Member a u) (fresh_old seen c ks t) i))).1
    | inr f ↦ elim (subst (λ u. Member a u) (fresh_new seen c ks f) i) [
      | inl e ↦ subst (λ u. list_any (λ b. same b u) seen ≡ false) e f
      | inr j ↦ (both_false (same c a) (list_any (λ b. same b a) seen) (not_seen (c ∷ seen) ks a j)).1
    ]
  ]

  pub fresh_once : (seen ks : List A) → Once (fresh same seen ks)
  fresh_once seen [] = tt
  fresh_once seen (a ∷ ks) = elim (cases_Bool (list_any (λ b. same b a) seen)) [
    | inl t ↦ subst (λ u. Once u) (sym (fresh_old seen a ks t)) (fresh_once (a ∷ seen) ks)
    | inr f ↦ subst (λ u. Once u) (sym (fresh_new seen a ks f)) (
      λ i. let no = (both_false (same a a) (list_any (λ b. same b a) seen) (not_seen (a ∷ seen) ks a i)).0 in let yes_it = shows a in cc,
      fresh_once (a ∷ seen) ks,
    )
  ]

  pub fresh_from : (seen ks : List A) (a : A) → Member a (fresh same seen ks) → Member a ks
  fresh_from seen [] a i = i
  fresh_from seen (c ∷ ks) a i = elim (cases_Bool (list_any (λ b. same b c) seen)) [
    | inl t ↦ inr (fresh_from (c ∷ seen) ks a (subst (λ u. Member a u) (fresh_old seen c ks t) i))
    | inr f ↦ elim (subst (λ u. Member a u) (fresh_new seen c ks f) i) [
      | inl e ↦ inl e
      | inr j ↦ inr (fresh_from (c ∷ seen) ks a j)
    ]
  ]

  kept_head : (seen : List A) (c : A) (ks : List A) (a : A) → Member a (fresh same (c ∷ seen) ks) → Member a (fresh same seen (c ∷ ks))
  kept_head seen c ks a i = elim (cases_Bool (list_any (λ b. same b c) seen)) [
    | inl t ↦ subst (λ u. Member a u) (sym (fresh_old seen c ks t)) i
    | inr f ↦ subst (λ u. Member a u) (sym (fresh_new seen c ks f)) (inr i)
  ]

  pub fresh_has : (seen ks : List A) (a : A) → list_any (λ b. same b a) seen ≡ false → Member a ks → Member a (fresh same seen ks)
  fresh_has seen [] a n i = i
  fresh_has seen (c ∷ ks) a n (inl e) = subst (λ u. Member a u) (sym (fresh_new seen c ks (subst (λ u. list_any (λ b. same b u) seen ≡ false) (sym e) n))) (inl e)
  fresh_has seen (c ∷ ks) a n (inr i) = elim (cases_Bool (same c a)) [
    | inl t ↦ let e = says c a t in subst (λ u. Member a u) (sym (fresh_new seen c ks (subst (λ u. list_any (λ b. same b u) seen ≡ false) (sym e) n))) (inl e)
    | inr f ↦ kept_head seen c ks a (fresh_has (c ∷ seen) ks a (ap₂ (λ u w. u || w) f n) i)
  ]

  -- ---- numbers at places

  at_hit : (b : A) (bs : List A) (v : ℤ) (vs : List ℤ) (a : A) → same b a ≡ true → value_at same (b ∷ bs) (v ∷ vs) a ≡ v
  at_hit b bs v vs a t = ap (λ u. if u then v else value_at same bs vs a) t

  at_miss : (b : A) (bs : List A) (v : ℤ) (vs : List ℤ) (a : A) → same b a ≡ false → value_at same (b ∷ bs) (v ∷ vs) a ≡ value_at same bs vs a
  at_miss b bs v vs a t = ap (λ u. if u then v else value_at same bs vs a) t

  -- a field that is 0 elsewhere is that of its numbers
  pub field_again : (ks : List A) (f : A → ℤ) (a : A) → ((Member a ks → ⊥) → f a ≡ pos 0) → value_at same ks (map f ks) a ≡ f a
  field_again [] f a h = sym (h (λ i. i))
  field_again (b ∷ ks) f a h = elim (cases_Bool (same b a)) [
    | inl t ↦ at_hit b ks (f b) (map f ks) a t ∙ ap f (says b a t)
    | inr n ↦ at_miss b ks (f b) (map f ks) a n ∙ field_again ks f a (λ out. h (λ i. elim i [
      | inl e ↦ let yes_it = ap (same b) (sym e) ∙ shows b in absurd cc
      | inr j ↦ out j
    ]))
  ]

  same_on : (f g : A → ℤ) (ks : List A) → ((a : A) → Member a ks → f a ≡ g a) → map f ks ≡ map g ks
  same_on f g [] h = refl
  same_on f g (a ∷ ks) h = ap₂ (λ u w. u ∷ w) (h a (inl refl)) (same_on f g ks (λ b i. h b (inr i)))

  -- numbers at places that stand once are those of their field
  pub numbers_again : (ks : List A) (vs : List ℤ) → Once ks → length vs ≡ length ks → map (value_at same ks vs) ks ≡ vs
  numbers_again [] [] once e = refl
  numbers_again [] (v ∷ vs) once e = absurd (omega arith)
  numbers_again (a ∷ ks) [] once e = absurd (omega arith)
  numbers_again (a ∷ ks) (v ∷ vs) once e =
      ap₂ (λ u w. u ∷ w) (at_hit a ks v vs a (shows a))
      (same_on (value_at same (a ∷ ks) (v ∷ vs)) (value_at same ks vs) ks (λ b i. at_miss a ks v vs b (miss b i))
      ∙ numbers_again ks vs once.1 (omega arith))
    where
      miss : (b : A) → Member b ks → same a b ≡ false
      miss b i = elim (cases_Bool (same a b)) [
        | inl t ↦ absurd (once.0 (subst (λ u. Member u ks) (sym (says a b t)) i))
        | inr f ↦ f
      ]

  -- it is 0 elsewhere, and in the numbers' range
  pub field_off : (ks : List A) (vs : List ℤ) (a : A) → (Member a ks → ⊥) → value_at same ks vs a ≡ pos 0
  field_off [] vs a h = refl
  field_off (b ∷ ks) [] a h = refl
  field_off (b ∷ ks) (v ∷ vs) a h = elim (cases_Bool (same b a)) [
    | inl t ↦ absurd (h (inl (says b a t)))
    | inr n ↦ at_miss b ks v vs a n ∙ field_off ks vs a (λ i. h (inr i))
  ]

  pub field_within : (most : ℕ) (ks : List A) (vs : List ℤ) (a : A) → AllByRecursion (Within most) vs → Within most (value_at same ks vs a)
  field_within most [] vs a h = omega arith
  field_within most (b ∷ ks) [] a h = omega arith
  field_within most (b ∷ ks) (v ∷ vs) a h = elim (cases_Bool (same b a)) [
    | inl t ↦ subst (λ u. Within most u) (sym (at_hit b ks v vs a t)) h.0
    | inr n ↦ subst (λ u. Within most u) (sym (at_miss b ks v vs a n)) (field_within most ks vs a h.1)
  ]

-- ---- lists in which each stands once

pub once_append : {A : Type 0} (xs ys : List A) → Once xs → Once ys → ((a : A) → Member a xs → Member a ys → ⊥) → Once (xs ++ ys)
once_append [] ys ox oy h = oy
once_append (x ∷ xs) ys ox oy h = (
  λ i. elim (member_either x xs ys i) [ inl j ↦ ox.0 j | inr j ↦ h x (inl refl) j ],
  once_append xs ys ox.1 oy (λ a i j. h a (inr i) j),
)
  where
    member_either : {A : Type 0} (a : A) (xs ys : List A) → Member a (xs ++ ys) → Member a xs ⊎ Member a ys
    member_either a [] ys i = inr i
    member_either a (x ∷ xs) ys (inl e) = inl (inl e)
    member_either a (x ∷ xs) ys (inr i) = elim (member_either a xs ys i) [ inl j ↦ inl (inr j) | inr j ↦ inr j ]

pub member_parts : {A : Type 0} (a : A) (xs ys : List A) → Member a (xs ++ ys) → Member a xs ⊎ Member a ys
member_parts a [] ys i = inr i
member_parts a (x ∷ xs) ys (inl e) = inl (inl e)
member_parts a (x ∷ xs) ys (inr i) = elim (member_parts a xs ys i) [ inl j ↦ inl (inr j) | inr j ↦ inr j ]

pub from_flat_map : {A B : Type 0} (f : A → List B) (b : B) (ks : List A) → Member b (flat_map f ks) → (a : A) × Member a ks × Member b (f a)
from_flat_map f b [] i = absurd i
from_flat_map f b (a ∷ ks) i = elim (member_parts b (f a) (flat_map f ks) i) [
  | inl j ↦ (a, inl refl, j)
  | inr j ↦ let rest = from_flat_map f b ks j in (rest.0, inr rest.1, rest.2)
]

pub from_map : {A B : Type 0} (f : A → B) (b : B) (ks : List A) → Member b (map f ks) → (a : A) × Member a ks × (f a ≡ b)
from_map f b [] i = absurd i
from_map f b (a ∷ ks) (inl e) = (a, inl refl, e)
from_map f b (a ∷ ks) (inr i) = let rest = from_map f b ks i in (rest.0, inr rest.1, rest.2)

pub from_range : (a n m : ℕ) → Member m (range_with_len a n) → (a ≤ m) × (m < a + n)
from_range a zero m i = absurd i
from_range a (suc n) m (inl e) = (omega arith, omega arith)
from_range a (suc n) m (inr i) = let rest = from_range (a + 1) n m i in let low = rest.0 in let high = rest.1 in (omega arith, omega arith)

pub once_flat : {A B : Type 0} (f : A → List B) (label : B → A) (ks : List A) → ((a : A) → Member a ks → (b : B) → Member b (f a) → label b ≡ a) → ((a : A) → Member a ks → Once (f a)) → Once ks → Once (flat_map f ks)
once_flat f label [] h each once = tt
once_flat f label (a ∷ ks) h each once =
    once_append (f a) (flat_map f ks) (each a (inl refl)) (once_flat f label ks (λ b i. h b (inr i)) (λ b i. each b (inr i)) once.1)
    (λ b i j.
    let from = from_flat_map f b ks j in
    let same : from.0 ≡ a = sym (h from.0 (inr from.1) b from.2) ∙ h a (inl refl) b i in
    once.0 (subst (λ u. Member u ks) same from.1))

pub once_map : {A B : Type 0} (f : A → B) (label : B → A) (ks : List A) → ((a : A) → Member a ks → label (f a) ≡ a) → Once ks → Once (map f ks)
once_map f label [] h once = tt
once_map f label (a ∷ ks) h once = (
  λ i. let from = from_map f (f a) ks i in
      let same : from.0 ≡ a = sym (h from.0 (inr from.1)) ∙ ap label from.2 ∙ h a (inl refl) in
      once.0 (subst (λ u. Member u ks) same from.1),
  once_map f label ks (λ b i. h b (inr i)) once.1,
)

pub once_range : (a n : ℕ) → Once (range_with_len a n)
once_range a zero = tt
once_range a (suc n) = (λ i. let low = (from_range (a + 1) n a i).0 in absurd (omega arith), once_range (a + 1) n)

pub from_box : {A : Type 0} (a b c : ℕ) (at : ℕ → ℕ → ℕ → A) (x : A) → Member x (box_list a b c at) → (i : ℕ) × (j : ℕ) × (k : ℕ) × (i < a) × (j < b) × (k < c) × (at i j k ≡ x)
from_box a b c at x i =
    let one = from_flat_map (λ k. flat_map (λ j. map (λ i. at i j k) (range_with_len 0 a)) (range_with_len 0 b)) x (range_with_len 0 c) i in
    let two = from_flat_map (λ j. map (λ i. at i j one.0) (range_with_len 0 a)) x (range_with_len 0 b) one.2 in
    let three = from_map (λ i. at i two.0 one.0) x (range_with_len 0 a) two.2 in
    let rk = (from_range 0 c one.0 one.1).1 in
    let rj = (from_range 0 b two.0 two.1).1 in
    let ri = (from_range 0 a three.0 three.1).1 in
    (three.0, two.0, one.0, omega arith, omega arith, omega arith, three.2)

-- a box stands once where a place tells its three numbers
pub once_box : {A : Type 0} (a b c : ℕ) (at : ℕ → ℕ → ℕ → A) (li lj lk : A → ℕ) → ((i j k : ℕ) → li (at i j k) ≡ i) → ((i j k : ℕ) → lj (at i j k) ≡ j) → ((i j k : ℕ) → lk (at i j k) ≡ k) → Once (box_list a b c at)
once_box a b c at li lj lk hi hj hk =
    once_flat (λ k. flat_map (λ j. map (λ i. at i j k) (range_with_len 0 a)) (range_with_len 0 b)) lk (range_with_len 0 c)
    (λ k m x i.
    let two = from_flat_map (λ j. map (λ i. at i j k) (range_with_len 0 a)) x (range_with_len 0 b) i in
    let three = from_map (λ i. at i two.0 k) x (range_with_len 0 a) two.2 in
    ap lk (sym three.2) ∙ hk three.0 two.0 k)
    (λ k m. once_flat (λ j. map (λ i. at i j k) (range_with_len 0 a)) lj (range_with_len 0 b)
    (λ j m x i. let three = from_map (λ i. at i j k) x (range_with_len 0 a) i in ap lj (sym three.2) ∙ hj three.0 j k)
    (λ j m. once_map (λ i. at i j k) li (range_with_len 0 a) (λ i m. hi i j k) (once_range 0 a))
    (once_range 0 b))
    (once_range 0 c)
