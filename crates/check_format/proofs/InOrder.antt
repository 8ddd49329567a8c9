-- Lists in which each comes before those behind it, and names of which the first place that has one keeps it.
use Rattle.std.proofs.Common.{◌≡◌, ℕ, zero, suc, ◌+◌, ◌<◌, ◌⊎◌, Bool, true, false, cond, ◌||◌, refl, sym, ap, ap₂, subst, ◌∙◌, arith, inl, inr, List, [], ◌∷◌, ◌++◌, map, filter}
use Rattle.std.specs.Prelude.{flat_map, if◌then◌else◌}
use Rattle.std.specs.List.{list_any, range_with_len}
use Rattle.std.proofs.lemmas.Bool.{cases_Bool}
use Rattle.std.proofs.lemmas.List.{map-append}
use Rattle.std.proofs.lemmas.List.Elements.{filter-append}
use Rattle.mesh_model.specs.Geometry.Places.{box_list}
use Rattle.mesh_model.specs.Images.Keyed.{fresh}
use Rattle.mesh_model.proofs.FieldLemmas.Walking.{Member}
use Rattle.mesh_model.proofs.TreeLemmas.Tests.{or_left, or_right, refuted}
use Rattle.check_format.proofs.Keys.{from_flat_map, from_map, from_range, member_parts}

-- ---- lists in order

abbrev pub InOrder : {A : Type 0} → (A → A → Type 0) → List A → Type 0
InOrder Before [] = Unit
InOrder Before (a ∷ ks) = ((c : _) → Member c ks → Before a c) × InOrder Before ks

order_append : {A : Type 0} (Before : A → A → Type 0) (xs ys : List A) → InOrder Before xs → InOrder Before ys → ((a c : A) → Member a xs → Member c ys → Before a c) → InOrder Before (xs ++ ys)
order_append Before [] ys ox oy h = oy
order_append Before (x ∷ xs) ys ox oy h = (
  λ c i. elim (member_parts c xs ys i) [ inl j ↦ ox.0 c j | inr j ↦ h x c (inl refl) j ],
  order_append Before xs ys ox.1 oy (λ a c i j. h a c (inr i) j),
)

module _ (A B : Type 0) (First : A → A → Type 0) (Before : B → B → Type 0) where
  pub order_flat : (f : A → List B) (ks : List A) → InOrder First ks → ((a : A) → Member a ks → InOrder Before (f a)) → ((a c : A) → Member a ks → Member c ks → First a c → (x y : B) → Member x (f a) → Member y (f c) → Before x y) → InOrder Before (flat_map f ks)
  order_flat f [] o each across = tt
  order_flat f (a ∷ ks) o each across =
      order_append Before (f a) (flat_map f ks) (each a (inl refl)) (order_flat f ks o.1 (λ c i. each c (inr i)) (λ c d i j. across c d (inr i) (inr j)))
      (λ x y i j. let from = from_flat_map f y ks j in across a from.0 (inl refl) (inr from.1) (o.0 from.0 from.1) x y i from.2)

  pub order_map : (f : A → B) (ks : List A) → InOrder First ks → ((a c : A) → Member a ks → Member c ks → First a c → Before (f a) (f c)) → InOrder Before (map f ks)
  order_map f [] o h = tt
  order_map f (a ∷ ks) o h = (
    λ y i. let from = from_map f y ks i in subst (λ u. Before (f a) u) from.2 (h a from.0 (inl refl) (inr from.1) (o.0 from.0 from.1)),
    order_map f ks o.1 (λ c d i j. h c d (inr i) (inr j)),
  )

abbrev pub Less : ℕ → ℕ → Type 0
Less m n = m < n

pub order_range : (a n : ℕ) → InOrder Less (range_with_len a n)
order_range a zero = tt
order_range a (suc n) = (λ m i. let low = (from_range (a + 1) n m i).0 in omega arith, order_range (a + 1) n)

-- a box is in order where the place with the greater last number comes later, of two with the same one that with the greater second, and so on
module _ (A : Type 0) (Before : A → A → Type 0) (a b c : ℕ) (at : ℕ → ℕ → ℕ → A)
    (by_third : (i j k i' j' k' : ℕ) → i < a → j < b → i' < a → j' < b → k < k' → Before (at i j k) (at i' j' k'))
    (by_second : (i j k i' j' : ℕ) → i < a → i' < a → j < j' → Before (at i j k) (at i' j' k))
    (by_first : (i j k i' : ℕ) → i < i' → Before (at i j k) (at i' j k)) where
  row : ℕ → ℕ → List A
  row k j = map (λ i. at i j k) (range_with_len 0 a)

  layer : ℕ → List A
  layer k = flat_map (row k) (range_with_len 0 b)

  in_row : (k j : ℕ) (x : A) → Member x (row k j) → (i : ℕ) × (i < a) × (at i j k ≡ x)
  unfolding row
  in_row k j x i = let from = from_map (λ i. at i j k) x (range_with_len 0 a) i in let few = (from_range 0 a from.0 from.1).1 in (from.0, omega arith, from.2)

  in_layer : (k : ℕ) (x : A) → Member x (layer k) → (i : ℕ) × (j : ℕ) × (i < a) × (j < b) × (at i j k ≡ x)
  unfolding layer
  in_layer k x i =
      let from = from_flat_map (row k) x (range_with_len 0 b) i in
      let few = (from_range 0 b from.0 from.1).1 in
      let on = in_row k from.0 x from.2 in
      (on.0, from.0, on.1, omega arith, on.2)

  row_order : (k j : ℕ) → InOrder Before (row k j)
  unfolding row
  row_order k j = order_map ℕ A Less Before (λ i. at i j k) (range_with_len 0 a) (order_range 0 a) (λ i i' m m' less. by_first i j k i' less)

  layer_order : (k : ℕ) → InOrder Before (layer k)
  unfolding layer
  layer_order k = order_flat ℕ A Less Before (row k) (range_with_len 0 b) (order_range 0 b) (λ j m. row_order k j)
      (λ j j' m m' less x y ix iy.
      let p = in_row k j x ix in
      let q = in_row k j' y iy in
      subst (λ u. Before u y) p.2 (subst (λ u. Before (at p.0 j k) u) q.2 (by_second p.0 j k q.0 j' p.1 q.1 less)))

  pub order_box : InOrder Before (box_list a b c at)
  unfolding layer row
  order_box = order_flat ℕ A Less Before layer (range_with_len 0 c) (order_range 0 c) (λ k m. layer_order k)
      (λ k k' m m' less x y ix iy.
      let p = in_layer k x ix in
      let q = in_layer k' y iy in
      subst (λ u. Before u y) p.4 (subst (λ u. Before (at p.0 p.1 k) u) q.4 (by_third p.0 p.1 k q.0 q.1 k' p.2 p.3 q.2 q.3 less)))

-- ---- what goes through appended lists goes through all of a walk

pub spread_flat : {A B C : Type 0} (h : List B → List C) → (h [] ≡ []) → ((xs ys : List B) → h (xs ++ ys) ≡ h xs ++ h ys) → (f : A → List B) (ks : List A) → h (flat_map f ks) ≡ flat_map (λ a. h (f a)) ks
spread_flat h none both f [] = none
spread_flat h none both f (a ∷ ks) = both (f a) (flat_map f ks) ∙ ap (λ u. h (f a) ++ u) (spread_flat h none both f ks)

pub map_flat : {A B C : Type 0} (g : B → C) (f : A → List B) (ks : List A) → map g (flat_map f ks) ≡ flat_map (λ a. map g (f a)) ks
map_flat g f ks = spread_flat (map g) refl (map-append g) f ks

pub map_twice : {A B C : Type 0} (g : B → C) (f : A → B) (ks : List A) → map g (map f ks) ≡ map (λ a. g (f a)) ks
map_twice g f [] = refl
map_twice g f (a ∷ ks) = ap (λ u. g (f a) ∷ u) (map_twice g f ks)

pub map_box : {A B : Type 0} (g : A → B) (a b c : ℕ) (at : ℕ → ℕ → ℕ → A) → map g (box_list a b c at) ≡ box_list a b c (λ i j k. g (at i j k))
map_box g a b c at =
    map_flat g (λ k. flat_map (λ j. map (λ i. at i j k) (range_with_len 0 a)) (range_with_len 0 b)) (range_with_len 0 c)
    ∙ ap (λ f. flat_map f (range_with_len 0 c)) (λ t k. (
    map_flat g (λ j. map (λ i. at i j k) (range_with_len 0 a)) (range_with_len 0 b)
    ∙ ap (λ f. flat_map f (range_with_len 0 b)) (λ u j. map_twice g (λ i. at i j k) (range_with_len 0 a) u)) t)

-- the names of the places that pass
abbrev pub passed : {A B : Type 0} → (A → Bool) → (A → B) → List A → List B
passed own name ks = map name (filter own ks)

pub passed_flat : {A B C : Type 0} (own : B → Bool) (name : B → C) (f : A → List B) (ks : List A) → passed own name (flat_map f ks) ≡ flat_map (λ a. passed own name (f a)) ks
passed_flat own name f ks = spread_flat (passed own name) refl (λ xs ys. ap (map name) (filter-append own xs ys) ∙ map-append name (filter own xs) (filter own ys)) f ks

pub passed_map : {A B C : Type 0} (own : B → Bool) (name : B → C) (f : A → B) (ks : List A) → passed own name (map f ks) ≡ passed (λ a. own (f a)) (λ a. name (f a)) ks
passed_map own name f [] = refl
passed_map own name f (a ∷ ks) = elim (cases_Bool (own (f a))) [
  | inl t ↦
      ap (λ u. map name (cond u (f a ∷ filter own (map f ks)) (filter own (map f ks)))) t
      ∙ ap (λ u. name (f a) ∷ u) (passed_map own name f ks)
      ∙ ap (λ u. map (λ c. name (f c)) (cond u (a ∷ filter (λ c. own (f c)) ks) (filter (λ c. own (f c)) ks))) (sym t)
  | inr n ↦
      ap (λ u. map name (cond u (f a ∷ filter own (map f ks)) (filter own (map f ks)))) n
      ∙ passed_map own name f ks
      ∙ ap (λ u. map (λ c. name (f c)) (cond u (a ∷ filter (λ c. own (f c)) ks) (filter (λ c. own (f c)) ks))) (sym n)
]

-- ---- the first place with a name

module _ (A K : Type 0) (same : A → A → Bool) (says : (a b : A) → same a b ≡ true → a ≡ b) (shows : (a : A) → same a a ≡ true) (leaf : A → Bool) (name : K → A) (own : K → Bool)
    (Before : K → K → Type 0) (one_way : (c k : K) → Before c k → Before k c → ⊥) where
  -- names that pass are those of own places, each of which is the first one with its name; all others with such names come later
  pub record Firsts (seen : List A) (ks : List K) : Type 0 where
    pub leaves : (k : K) → Member k ks → own k ≡ true → leaf (name k) ≡ true
    pub fresh : (k : K) → Member k ks → own k ≡ true → list_any (λ b. same b (name k)) seen ≡ false
    pub first : (k c : K) → Member k ks → Member c ks → own k ≡ true → Before c k → name c ≡ name k → ⊥
    pub others : (k : K) → Member k ks → own k ≡ false → leaf (name k) ≡ true → (list_any (λ b. same b (name k)) seen ≡ true) ⊎ ((c : K) × Member c ks × Before c k × (name c ≡ name k))

  kept : (k : K) (ks : List K) (u : Bool) → leaf (name k) ≡ u → filter leaf (map name (k ∷ ks)) ≡ cond u (name k ∷ filter leaf (map name ks)) (filter leaf (map name ks))
  kept k ks u e = ap (λ v. cond v (name k ∷ filter leaf (map name ks)) (filter leaf (map name ks))) e

  taken : (k : K) (ks : List K) (u : Bool) → own k ≡ u → map name (filter own (k ∷ ks)) ≡ map name (cond u (k ∷ filter own ks) (filter own ks))
  taken k ks u e = ap (λ v. map name (cond v (k ∷ filter own ks) (filter own ks))) e

  one : (seen : List A) (a : A) (rest : List A) (u : Bool) → list_any (λ b. same b a) seen ≡ u → fresh same seen (a ∷ rest) ≡ (if u then fresh same (a ∷ seen) rest else a ∷ fresh same (a ∷ seen) rest)
  one seen a rest u e = ap (λ v. if v then fresh same (a ∷ seen) rest else a ∷ fresh same (a ∷ seen) rest) e

  module _ (seen : List A) (k : K) (ks : List K) (o : InOrder Before (k ∷ ks)) (h : Firsts seen (k ∷ ks)) where
    -- with the first one's name seen
    after_seen : Firsts (name k ∷ seen) ks
    after_seen = record {
      leaves = λ c i t. h.leaves c (inr i) t;
      fresh = λ c i t. ap₂ (λ u v. u || v) (refuted _ (λ s. h.first c k (inr i) (inl refl) t (o.0 c i) (says (name k) (name c) s))) (h.fresh c (inr i) t);
      first = λ c d i j. h.first c d (inr i) (inr j);
      others = λ c i t l. elim (h.others c (inr i) t l) [
        | inl old ↦ inl (or_right (same (name k) (name c)) _ old)
        | inr from ↦ elim from.1 [
          | inl e ↦ inl (or_left (same (name k) (name c)) _ (ap (λ u. same u (name c)) (ap name e ∙ from.3) ∙ shows (name c)))
          | inr j ↦ inr (from.0, j, from.2, from.3)
        ]
      ];
    }

    -- with the first one passed over, whose name does not pass
    after_none : leaf (name k) ≡ false → Firsts seen ks
    after_none none = record {
      leaves = λ c i t. h.leaves c (inr i) t;
      fresh = λ c i t. h.fresh c (inr i) t;
      first = λ c d i j. h.first c d (inr i) (inr j);
      others = λ c i t l. elim (h.others c (inr i) t l) [
        | inl old ↦ inl old
        | inr from ↦ elim from.1 [
          | inl e ↦ let is = ap leaf (ap name e ∙ from.3) ∙ l in absurd cc
          | inr j ↦ inr (from.0, j, from.2, from.3)
        ]
      ];
    }

    old_name : own k ≡ false → leaf (name k) ≡ true → list_any (λ b. same b (name k)) seen ≡ true
    old_name t l = elim (h.others k (inl refl) t l) [
      | inl old ↦ old
      | inr from ↦ elim from.1 [
        | inl e ↦ absurd (one_way k k (subst (λ u. Before u k) (sym e) from.2) (subst (λ u. Before u k) (sym e) from.2))
        | inr j ↦ absurd (one_way from.0 k from.2 (o.0 from.0 j))
      ]
    ]

  pub firsts_are : (seen : List A) (ks : List K) → InOrder Before ks → Firsts seen ks → fresh same seen (filter leaf (map name ks)) ≡ passed own name ks
  firsts_are seen [] o h = refl
  firsts_are seen (k ∷ ks) o h = elim (cases_Bool (own k)) [
    | inl t ↦
        ap (fresh same seen) (kept k ks true (h.leaves k (inl refl) t))
        ∙ one seen (name k) (filter leaf (map name ks)) false (h.fresh k (inl refl) t)
        ∙ ap (λ u. name k ∷ u) (firsts_are (name k ∷ seen) ks o.1 (after_seen seen k ks o h))
        ∙ sym (taken k ks true t)
    | inr n ↦ elim (cases_Bool (leaf (name k))) [
      | inl l ↦
          ap (fresh same seen) (kept k ks true l)
          ∙ one seen (name k) (filter leaf (map name ks)) true (old_name seen k ks o h n l)
          ∙ firsts_are (name k ∷ seen) ks o.1 (after_seen seen k ks o h)
          ∙ sym (taken k ks false n)
      | inr f ↦
          ap (fresh same seen) (kept k ks false f)
          ∙ firsts_are seen ks o.1 (after_none seen k ks o h f)
          ∙ sym (taken k ks false n)
    ]
  ]
