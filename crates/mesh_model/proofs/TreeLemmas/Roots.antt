-- The roots in Morton order: each once, by rising key, and where they stand in a row.
use Rattle.std.proofs.Common.{◌≡◌, ℕ, zero, suc, ◌+◌, ◌*◌, ◌/◌, ◌^◌, ◌<◌, ◌≤◌, Bool, true, ◌&&◌, ◌==◌, if◌then◌else◌, refl, sym, ap, ◌∙◌, arith, subst, inl, inr, List, [], ◌∷◌, ◌++◌, map, length, eqb-true}
use Rattle.std.specs.Prelude.{flat_map, nat_lt}
use Rattle.std.specs.List.{range_with_len, list_all}
use Rattle.std.proofs.lemmas.Bool.{cases_Bool, cases_lt, lt-ltb, ltb-true}
use Rattle.amr_num.specs.declared.BlockAt.{BlockAt}
use Rattle.mesh_model.specs.declared.geometry.Shape.{Shape}
use Rattle.mesh_model.specs.Geometry.Limits.{IsShape, most_nodes}
use Rattle.mesh_model.specs.Tree.Order.{IsIn, Sorted, interleave, morton, key, begun_at, nodes}
use Rattle.mesh_model.specs.Geometry.Touch.{low_end}
use Rattle.mesh_model.specs.Tree.Start.{every_third, root_at, is_root, root_there, start_leaves}
use Rattle.mesh_model.specs.Geometry.Blocks.{InDomain}
use Rattle.mesh_model.proofs.TreeLemmas.Tests.{and_left, and_right, and_both, all_three}

-- what passes at all numbers of a row passes at each
all_below : (p : ℕ → Bool) (a n : ℕ) → list_all p (range_with_len a n) ≡ true → (m : ℕ) → a ≤ m → m < a + n → p m ≡ true
all_below p a zero h m low high = absurd (omega arith)
all_below p a (suc n) h m low high = elim (cases_lt a m) [
  | inl lt ↦ all_below p (a + 1) n (and_right (p a) (list_all p (range_with_len (a + 1) n)) h) m (omega arith) (omega arith)
  | inr le ↦ let same : a ≡ m = omega arith in ap p (sym same) ∙ and_left (p a) (list_all p (range_with_len (a + 1) n)) h
]

-- ---- keys

keys_test : list_all (λ m. key (root_at m) == 17179869184 * m) (range_with_len 0 512) ≡ true
unfolding key morton interleave low_end
keys_test = refl

key_of_root : (m : ℕ) → m < 512 → key (root_at m) ≡ 17179869184 * m
key_of_root m h = eqb-true _ _ (all_below (λ k. key (root_at k) == 17179869184 * k) 0 512 keys_test m (omega arith) (omega arith))

rising : (m k : ℕ) → m < k → k < 512 → key (root_at m) < key (root_at k)
rising m k lt h = let one = key_of_root m (omega arith) in let two = key_of_root k h in omega arith

-- ---- each root has its place

abbrev found_at : ℕ → ℕ → ℕ → Bool
found_at x y z = let m = interleave 3 x y z in nat_lt m 512 && (every_third m == x) && ((every_third (m / 2) == y) && (every_third (m / 4) == z))

places_test : list_all (λ x. list_all (λ y. list_all (λ z. found_at x y z) (range_with_len 0 8)) (range_with_len 0 8)) (range_with_len 0 8) ≡ true
unfolding interleave
places_test = refl

place_of : (x y z : ℕ) → x < 8 → y < 8 → z < 8 → found_at x y z ≡ true
place_of x y z hx hy hz =
    let row = all_below (λ u. list_all (λ v. list_all (λ w. found_at u v w) (range_with_len 0 8)) (range_with_len 0 8)) 0 8 places_test x (omega arith) (omega arith) in
    let column = all_below (λ v. list_all (λ w. found_at x v w) (range_with_len 0 8)) 0 8 row y (omega arith) (omega arith) in
    all_below (λ w. found_at x y w) 0 8 column z (omega arith) (omega arith)

-- ---- the roots of the domain

module _ (s : Shape) where
  abbrev roots_from : ℕ → ℕ → List BlockAt
  roots_from a n = flat_map (λ m. root_there s (root_at m)) (range_with_len a n)

  -- how a root of a row of numbers comes about
  pub record From (a n : ℕ) (b : BlockAt) : Type 0 where
    pub place : ℕ
    pub low : a ≤ place
    pub high : place < a + n
    pub root : root_at place ≡ b
    pub there : is_root s (root_at place) ≡ true

  comes_from : (a n : ℕ) (b : BlockAt) → IsIn b (roots_from a n) → From a n b
  comes_from a zero b i = absurd i
  comes_from a (suc n) b i = elim (cases_Bool (is_root s (root_at a))) [
    | inl t ↦
        elim (subst (λ (l : List BlockAt). IsIn b (l ++ roots_from (a + 1) n)) (ap (λ u. if u then root_at a ∷ [] else []) t) i) [
          | inl e ↦ record { place = a; low = omega arith; high = omega arith; root = e; there = t }
          | inr j ↦ later a n b (comes_from (a + 1) n b j)
        ]
    | inr f ↦ later a n b (comes_from (a + 1) n b (subst (λ (l : List BlockAt). IsIn b (l ++ roots_from (a + 1) n)) (ap (λ u. if u then root_at a ∷ [] else []) f) i))
  ]
    where
      later : (a n : ℕ) (b : BlockAt) → From (a + 1) n b → From a (suc n) b
      later a n b f = let low = f.low in let high = f.high in record { place = f.place; low = omega arith; high = omega arith; root = f.root; there = f.there }

  is_there : (a n m : ℕ) → a ≤ m → m < a + n → is_root s (root_at m) ≡ true → IsIn (root_at m) (roots_from a n)
  is_there a zero m low high t = absurd (omega arith)
  is_there a (suc n) m low high t = elim (cases_lt a m) [
    | inl lt ↦ elim (cases_Bool (is_root s (root_at a))) [
      | inl h ↦ subst (λ (l : List BlockAt). IsIn (root_at m) (l ++ roots_from (a + 1) n)) (sym (ap (λ u. if u then root_at a ∷ [] else []) h)) (inr (is_there (a + 1) n m (omega arith) (omega arith) t))
      | inr f ↦ subst (λ (l : List BlockAt). IsIn (root_at m) (l ++ roots_from (a + 1) n)) (sym (ap (λ u. if u then root_at a ∷ [] else []) f)) (is_there (a + 1) n m (omega arith) (omega arith) t)
    ]
    | inr le ↦
        let same : a ≡ m = omega arith in
        subst (λ (l : List BlockAt). IsIn (root_at m) (l ++ roots_from (a + 1) n)) (sym (ap (λ u. if u then root_at a ∷ [] else []) (ap (λ k. is_root s (root_at k)) same ∙ t))) (inl (ap root_at same))
  ]

  sorted_from : (a n : ℕ) → a + n ≤ 512 → Sorted (roots_from a n)
  sorted_from a zero h = tt
  sorted_from a (suc n) h =
      let rest = sorted_from (a + 1) n (omega arith) in
      elim (cases_Bool (is_root s (root_at a))) [
        | inl t ↦ subst (λ (l : List BlockAt). Sorted (l ++ roots_from (a + 1) n)) (sym (ap (λ u. if u then root_at a ∷ [] else []) t)) (
          λ c i. let from = comes_from (a + 1) n c i in let low = from.low in let high = from.high in subst (λ u. key (root_at a) < key u) from.root (rising a from.place (omega arith) (omega arith)),
          rest,
        )
        | inr f ↦ subst (λ (l : List BlockAt). Sorted (l ++ roots_from (a + 1) n)) (sym (ap (λ u. if u then root_at a ∷ [] else []) f)) rest
      ]

  few_from : (a n : ℕ) → length (nodes (roots_from a n)) ≤ n
  unfolding nodes begun_at
  few_from a zero = omega arith
  few_from a (suc n) =
      let rest = few_from (a + 1) n in
      elim (cases_Bool (is_root s (root_at a))) [
        | inl t ↦ subst (λ (l : List BlockAt). length (nodes (l ++ roots_from (a + 1) n)) ≤ suc n) (sym (ap (λ u. if u then root_at a ∷ [] else []) t)) (omega arith)
        | inr f ↦ subst (λ (l : List BlockAt). length (nodes (l ++ roots_from (a + 1) n)) ≤ suc n) (sym (ap (λ u. if u then root_at a ∷ [] else []) f)) (omega arith)
      ]

  pub start_sorted : Sorted (start_leaves s)
  unfolding start_leaves
  start_sorted = sorted_from 0 512 (omega arith)

  pub start_few : length (nodes (start_leaves s)) ≤ most_nodes s
  unfolding start_leaves
  start_few = let few = few_from 0 512 in elim (cases_Bool (s.g == 4)) [
    | inl t ↦ rw t (omega arith)
    | inr f ↦ rw f (omega arith)
  ]

  pub start_root : (b : BlockAt) → IsIn b (start_leaves s) → InDomain s b × (b.level ≡ 0)
  unfolding start_leaves
  start_root b i =
      let from = comes_from 0 512 b i in
      let three = all_three (nat_lt (root_at from.place).x s.rx) (nat_lt (root_at from.place).y s.ry) (nat_lt (root_at from.place).z s.rz) from.there in
      let x = ltb-true _ _ three.0 in
      let y = ltb-true _ _ three.1 in
      let z = ltb-true _ _ three.2 in
      let domain : InDomain s (root_at from.place) = record { level = omega arith; x = omega arith; y = omega arith; z = omega arith } in
      (subst (λ u. InDomain s u) from.root domain, ap (λ (u : BlockAt). u.level) (sym from.root))

  pub start_every : IsShape s → (b : BlockAt) → InDomain s b → b.level ≡ 0 → IsIn b (start_leaves s)
  unfolding start_leaves
  start_every shape b d level =
      let one : 2 ^ b.level ≡ 1 = ap (λ k. 2 ^ k) level in
      let few_x = shape.few_x in
      let few_y = shape.few_y in
      let few_z = shape.few_z in
      let xl : b.x < s.rx = below s.rx b.level b.x level d.x in
      let yl : b.y < s.ry = below s.ry b.level b.y level d.y in
      let zl : b.z < s.rz = below s.rz b.level b.z level d.z in
      let m = interleave 3 b.x b.y b.z in
      let found = place_of b.x b.y b.z (omega arith) (omega arith) (omega arith) in
      let first = all_three (nat_lt m 512) (every_third m == b.x) ((every_third (m / 2) == b.y) && (every_third (m / 4) == b.z)) found in
      let x = eqb-true _ _ first.1 in
      let y = eqb-true _ _ (and_left (every_third (m / 2) == b.y) (every_third (m / 4) == b.z) first.2) in
      let z = eqb-true _ _ (and_right (every_third (m / 2) == b.y) (every_third (m / 4) == b.z) first.2) in
      let same : root_at m ≡ b = λ i. record { level = sym level i; x = x i; y = y i; z = z i } in
      let there : is_root s b ≡ true = and_both (nat_lt b.x s.rx && nat_lt b.y s.ry) (nat_lt b.z s.rz) (and_both (nat_lt b.x s.rx) (nat_lt b.y s.ry) (lt-ltb _ _ xl) (lt-ltb _ _ yl)) (lt-ltb _ _ zl) in
      subst (λ u. IsIn u (roots_from 0 512)) same (is_there 0 512 m (omega arith) (ltb-true _ _ first.0) (subst (λ u. is_root s u ≡ true) (sym same) there))
    where
      below : (r l x : ℕ) → l ≡ 0 → x < r * 2 ^ l → x < r
      below r l x e h = let one : 2 ^ l ≡ 1 = ap (λ k. 2 ^ k) e in let h1 = subst (λ p. x < r * p) one h in omega arith

-- ---- a row of roots

-- the root at x of a row along the first axis
abbrev pub root_of_row : ℕ → BlockAt
root_of_row x = record { level = 0; x = x; y = 0; z = 0 }

roots_in : ℕ → ℕ → ℕ → List BlockAt
roots_in rx ry rz = flat_map (λ m. if nat_lt (root_at m).x rx && nat_lt (root_at m).y ry && nat_lt (root_at m).z rz then root_at m ∷ [] else []) (range_with_len 0 512)

row_of : (rx : ℕ) → 0 < rx → rx ≤ 8 → roots_in rx 1 1 ≡ map root_of_row (range_with_len 0 rx)
unfolding roots_in
row_of zero l h = absurd (omega arith)
row_of (suc zero) l h = refl
row_of (suc (suc zero)) l h = refl
row_of (suc (suc (suc zero))) l h = refl
row_of (suc (suc (suc (suc zero)))) l h = refl
row_of (suc (suc (suc (suc (suc zero))))) l h = refl
row_of (suc (suc (suc (suc (suc (suc zero)))))) l h = refl
row_of (suc (suc (suc (suc (suc (suc (suc zero))))))) l h = refl
row_of (suc (suc (suc (suc (suc (suc (suc (suc zero)))))))) l h = refl
row_of (suc (suc (suc (suc (suc (suc (suc (suc (suc n))))))))) l h = absurd (omega arith)
