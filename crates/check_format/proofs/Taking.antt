-- Which blocks take what lies on the parts of a leaf's boundary.
use Rattle.std.proofs.Common.{◌≡◌, ℕ, ◌+◌, ◌^◌, ◌<◌, ◌⊎◌, Bool, true, false, not, ◌||◌, ◌&&◌, nat_lt, refl, sym, ap, ap₂, subst, ◌∙◌, arith, inl, inr, List, [], ◌∷◌, Option, Some, None, ltb-true, lt-ltb}
use Rattle.std.specs.Prelude.{if◌then◌else◌}
use Rattle.std.specs.List.{list_any}
use Rattle.std.proofs.lemmas.Bool.{cases_Bool, cases_lt}
use Rattle.amr_num.specs.declared.BlockAt.{BlockAt}
use Rattle.block_tree.specs.Directions.{block_toward, direction_of, lies_toward, passes}
use Rattle.block_tree.specs.declared.directions.Direction.{Direction}
use Rattle.block_tree.proofs.Equal.{equal_says, equal_shows, equal_test}
use Rattle.block_tree.proofs.Flags.{same_says, same_shows}
use Rattle.block_tree.proofs.Leaves.{split_leaf}
use Rattle.block_tree.proofs.Parts.{next_bit}
use Rattle.mesh_model.specs.Fields.FaceSplits.{direction, is_kept}
use Rattle.mesh_model.specs.Geometry.Blocks.{is_same_block}
use Rattle.mesh_model.specs.Tree.Kinds.{Grid, is_leaf_block, is_split_block}
use Rattle.mesh_model.specs.Tree.Order.{IsIn, key}
use Rattle.mesh_model.specs.Tree.ValidGrid.{Valid}
use Rattle.mesh_model.proofs.FieldLemmas.Walking.{Member}
use Rattle.mesh_model.proofs.TreeLemmas.Tests.{and_both, and_left, and_right, either_true, or_left, or_right, refuted}
use Rattle.mesh_model.proofs.TreeLemmas.Tiling.{leaf_shows}
use Rattle.check_format.specs.Own.{AreBits, AreTaken, choices, goes_to, goes_up, is_free, is_own, is_taken}
use Rattle.check_format.proofs.Sharing.{Choice, Chosen}

-- ---- tests of lists

any_found : {A : Type 0} (test : A → Bool) (xs : List A) → list_any test xs ≡ true → (a : A) × Member a xs × (test a ≡ true)
any_found test [] h = cc
any_found test (x ∷ xs) h = elim (cases_Bool (test x)) [
  | inl t ↦ (x, inl refl, t)
  | inr f ↦ let rest = any_found test xs (sym (ap (λ u. u || list_any test xs) f) ∙ h) in (rest.0, inr rest.1, rest.2)
]

any_there : {A : Type 0} (test : A → Bool) (a : A) (xs : List A) → Member a xs → test a ≡ true → list_any test xs ≡ true
any_there test a [] i h = absurd i
any_there test a (x ∷ xs) (inl e) h = or_left (test x) (list_any test xs) (ap test e ∙ h)
any_there test a (x ∷ xs) (inr i) h = or_right (test x) (list_any test xs) (any_there test a xs i h)

-- ---- the choices of a direction

direction_is : (d e : Direction) → d.x ≡ e.x → d.y ≡ e.y → d.z ≡ e.z → d ≡ e
direction_is d e x y z = λ i. record { x = x i; y = y i; z = z i }

pub chosen_in : (d t : Direction) → Chosen d t → Member d (choices t)
chosen_in d t c = go c.x c.y c.z
  where
    go : Choice d.x t.x → Choice d.y t.y → Choice d.z t.z → Member d (choices t)
    go (inr x) (inr y) (inr z) = inl (direction_is t d (sym x) (sym y) (sym z))
    go (inl x) (inr y) (inr z) = inr (inl (direction_is _ d (sym x) (sym y) (sym z)))
    go (inr x) (inl y) (inr z) = inr (inr (inl (direction_is _ d (sym x) (sym y) (sym z))))
    go (inr x) (inr y) (inl z) = inr (inr (inr (inl (direction_is _ d (sym x) (sym y) (sym z)))))
    go (inr x) (inl y) (inl z) = inr (inr (inr (inr (inl (direction_is _ d (sym x) (sym y) (sym z))))))
    go (inl x) (inr y) (inl z) = inr (inr (inr (inr (inr (inl (direction_is _ d (sym x) (sym y) (sym z)))))))
    go (inl x) (inl y) (inr z) = inr (inr (inr (inr (inr (inr (inl (direction_is _ d (sym x) (sym y) (sym z))))))))
    go (inl x) (inl y) (inl z) = inr (inr (inr (inr (inr (inr (inr (inl (direction_is _ d (sym x) (sym y) (sym z)))))))))

pub in_chosen : (d t : Direction) → Member d (choices t) → Chosen d t
in_chosen d t (inl e) = subst (λ u. Chosen u t) e (record { x = inr refl; y = inr refl; z = inr refl })
in_chosen d t (inr (inl e)) = subst (λ u. Chosen u t) e (record { x = inl refl; y = inr refl; z = inr refl })
in_chosen d t (inr (inr (inl e))) = subst (λ u. Chosen u t) e (record { x = inr refl; y = inl refl; z = inr refl })
in_chosen d t (inr (inr (inr (inl e)))) = subst (λ u. Chosen u t) e (record { x = inr refl; y = inr refl; z = inl refl })
in_chosen d t (inr (inr (inr (inr (inl e))))) = subst (λ u. Chosen u t) e (record { x = inr refl; y = inl refl; z = inl refl })
in_chosen d t (inr (inr (inr (inr (inr (inl e)))))) = subst (λ u. Chosen u t) e (record { x = inl refl; y = inr refl; z = inl refl })
in_chosen d t (inr (inr (inr (inr (inr (inr (inl e))))))) = subst (λ u. Chosen u t) e (record { x = inl refl; y = inl refl; z = inr refl })
in_chosen d t (inr (inr (inr (inr (inr (inr (inr (inl e)))))))) = subst (λ u. Chosen u t) e (record { x = inl refl; y = inl refl; z = inl refl })
in_chosen d t (inr (inr (inr (inr (inr (inr (inr (inr none)))))))) = absurd none

-- ---- blocks that take

passes_some : (test : BlockAt → Bool) (o : Option BlockAt) → passes test o ≡ true → (c : BlockAt) × (o ≡ Some c) × (test c ≡ true)
passes_some test None h = cc
passes_some test (Some c) h = (c, refl, h)

-- why another block, or the leaf itself, takes what lies towards it
abbrev pub Takes : Grid → BlockAt → Direction → BlockAt → Type 0
Takes g b d c = ((c ≡ b) × (goes_up d ≡ true)) ⊎ ((is_split_block g c ≡ true) ⊎ ((is_leaf_block g c ≡ true) × (key c < key b)))

module _ (g : Grid) (valid : Valid g) (b : BlockAt) (i : IsIn b g.leaves) where
  pub leaf_whole : is_split_block g b ≡ false
  leaf_whole = refuted _ (λ s. let none = split_leaf g valid b s in let leaf = leaf_shows g b i in cc)

  others_take : BlockAt → Bool
  others_take c = is_split_block g c || (is_leaf_block g c && nat_lt (key c) (key b))

  test_is : (d : Direction) (c : BlockAt) (u : Bool) → is_same_block c b ≡ u → goes_to g b d c ≡ (if u then goes_up d else others_take c)
  unfolding goes_to others_take
  test_is d c u e = ap (λ v. if v then goes_up d else others_take c) e

  takes_says : (d : Direction) (c : BlockAt) → goes_to g b d c ≡ true → Takes g b d c
  unfolding others_take
  takes_says d c h = elim (cases_Bool (is_same_block c b)) [
    | inl t ↦ inl (same_says c b t, sym (test_is d c true t) ∙ h)
    | inr f ↦ elim (either_true (is_split_block g c) (is_leaf_block g c && nat_lt (key c) (key b)) (sym (test_is d c false f) ∙ h)) [
      | inl s ↦ inr (inl s)
      | inr l ↦ inr (inr (and_left (is_leaf_block g c) (nat_lt (key c) (key b)) l, ltb-true (key c) (key b) (and_right (is_leaf_block g c) (nat_lt (key c) (key b)) l)))
    ]
  ]

  takes_shows : (d : Direction) (c : BlockAt) → Takes g b d c → goes_to g b d c ≡ true
  unfolding others_take
  takes_shows d c (inl self) = test_is d c true (same_shows c b self.0) ∙ self.1
  takes_shows d c (inr (inl split)) =
      test_is d c false (refuted _ (λ t. let whole = ap (is_split_block g) (same_says c b t) ∙ leaf_whole in absurd cc))
      ∙ or_left (is_split_block g c) (is_leaf_block g c && nat_lt (key c) (key b)) split
  takes_shows d c (inr (inr early)) =
      test_is d c false (refuted _ (λ t. let same = ap key (same_says c b t) in let less = early.1 in absurd (omega arith)))
      ∙ or_right (is_split_block g c) (is_leaf_block g c && nat_lt (key c) (key b)) (and_both (is_leaf_block g c) (nat_lt (key c) (key b)) early.0 (lt-ltb (key c) (key b) early.1))

  -- a part of the boundary is not the leaf's own exactly where in some choice of its direction a block takes it
  pub other_says : (t : Direction) → is_own g b t ≡ false → (d : Direction) × (c : BlockAt) × Chosen d t × (block_toward g.shape d b ≡ Some c) × Takes g b d c
  unfolding is_own is_taken
  other_says t h =
      let found = any_found (is_taken g b) (choices t) (untrue _ h) in
      let there = passes_some (goes_to g b found.0) (block_toward g.shape found.0 b) found.2 in
      (found.0, there.0, in_chosen found.0 t found.1, there.1, takes_says found.0 there.0 there.2)
    where
      untrue : (a : Bool) → not a ≡ false → a ≡ true
      untrue true e = refl
      untrue false e = cc

  pub own_says : (t : Direction) → is_own g b t ≡ true → (d : Direction) (c : BlockAt) → Chosen d t → block_toward g.shape d b ≡ Some c → Takes g b d c → ⊥
  unfolding is_own is_taken
  own_says t h d c chosen toward takes =
      let here : is_taken g b d ≡ true = ap (passes (goes_to g b d)) toward ∙ takes_shows d c takes in
      let some = any_there (is_taken g b) d (choices t) (chosen_in d t chosen) here in
      let none : not true ≡ true = ap not (sym some) ∙ h in
      cc

  -- no split block lies in a choice of an own part
  pub own_calm : (t : Direction) → is_own g b t ≡ true → (d : Direction) → Chosen d t → lies_toward g false b d ≡ false
  unfolding lies_toward
  own_calm t h d chosen = refuted _ (λ s. let there = passes_some (is_split_block g) (block_toward g.shape d b) s in own_says t h d there.0 chosen there.1 (inr (inl there.2)))

-- ---- the test by what is found of another block

module _ (g : Grid) (b : BlockAt) (d : Direction) (c : BlockAt) where
  by_same : (u : Bool) → is_same_block c b ≡ u → goes_to g b d c ≡ (if u then goes_up d else (is_split_block g c || (is_leaf_block g c && nat_lt (key c) (key b))))
  unfolding goes_to
  by_same u e = ap (λ v. if v then goes_up d else (is_split_block g c || (is_leaf_block g c && nat_lt (key c) (key b)))) e

  pub goes_self : equal_test c b ≡ true → goes_to g b d c ≡ goes_up d
  goes_self t = by_same true (same_shows c b (equal_says c b t))

  module _ (f : equal_test c b ≡ false) where
    by_kind : (split leaf : Bool) → is_split_block g c ≡ split → is_leaf_block g c ≡ leaf → goes_to g b d c ≡ (split || (leaf && nat_lt (key c) (key b)))
    by_kind split leaf s l =
        by_same false (refuted _ (λ t. let same = equal_shows c b (same_says c b t) in absurd cc))
        ∙ ap₂ (λ u v. u || (v && nat_lt (key c) (key b))) s l

    pub goes_nowhere : is_split_block g c ≡ false → is_leaf_block g c ≡ false → goes_to g b d c ≡ false
    goes_nowhere s l = by_kind false false s l

    pub goes_split : is_split_block g c ≡ true → goes_to g b d c ≡ true
    goes_split s = by_kind true (is_leaf_block g c) s refl

    pub goes_before : is_split_block g c ≡ false → is_leaf_block g c ≡ true → goes_to g b d c ≡ nat_lt (key c) (key b)
    goes_before s l = by_kind false true s l

-- ---- bits

pub next_bits : (test : ℕ → Bool) (bits d bit : ℕ) (t : Bool) → AreBits test d bits → bits < 2 ^ d → bit ≡ (if t then 2 ^ d else 0) → t ≡ test d → AreBits test (d + 1) (bits + bit)
next_bits test bits d bit t before few is stands =
    let next = next_bit bits d t few in
    record {
      each = λ e h. ap (λ m. is_kept (bits + m) e) is ∙ elim (cases_lt e d) [
        | inl less ↦ next.1 e less ∙ before.each e less
        | inr more ↦
            let last : e ≡ d = omega (arith, more, h) in
            ap (λ m. is_kept (bits + (if t then 2 ^ d else 0)) m) last ∙ next.0 ∙ stands ∙ ap test (sym last)
      ];
    }

any_same : {A : Type 0} (p q : A → Bool) (xs : List A) → ((a : A) → Member a xs → p a ≡ q a) → list_any p xs ≡ list_any q xs
any_same p q [] h = refl
any_same p q (x ∷ xs) h = ap₂ (λ u v. u || v) (h x (inl refl)) (any_same p q xs (λ a i. h a (inr i)))

-- a direction by its number
pub numbered : (d : Direction) → d.x < 3 → d.y < 3 → d.z < 3 → direction_of (direction d.x d.y d.z) ≡ d
numbered d hx hy hz = direction_is _ d (omega arith) (omega arith) (omega arith)

chosen_few : (s t : ℕ) → t < 3 → Choice s t → s < 3
chosen_few s t h (inl one) = omega arith
chosen_few s t h (inr is) = omega arith

-- the free parts are the leaf's own
pub free_is_own : (g : Grid) (b : BlockAt) (taken : ℕ) → AreTaken g b taken → (t : Direction) → t.x < 3 → t.y < 3 → t.z < 3 → is_free taken t ≡ is_own g b t
unfolding is_free is_own
free_is_own g b taken bits t hx hy hz = ap not (any_same (λ c. is_kept taken (direction c.x c.y c.z)) (is_taken g b) (choices t) (λ c i.
    let chosen = in_chosen c t i in
    let x = chosen_few c.x t.x hx chosen.x in
    let y = chosen_few c.y t.y hy chosen.y in
    let z = chosen_few c.z t.z hz chosen.z in
    bits.each (direction c.x c.y c.z) (omega arith) ∙ ap (is_taken g b) (numbered c x y z)))
