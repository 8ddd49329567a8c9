-- Lists of blocks: members, places and order.
use Rattle.std.proofs.Common.{◌≡◌, ℕ, zero, suc, ◌<◌, Bool, true, false, cond, refl, ap, ap₂, ◌∙◌, arith, inl, inr, List, [], ◌∷◌, ◌++◌, length, filter}
use Rattle.std.specs.Prelude.{flat_map}
use Rattle.std.proofs.lemmas.Bool.{cases_lt}
use Rattle.std.proofs.lemmas.List.Elements.{filter-append}
use Rattle.amr_num.specs.declared.BlockAt.{BlockAt}
use Rattle.mesh_model.specs.Tree.Order.{IsIn, Sorted, key}
use Rattle.block_tree.specs.Numbered.{block_in}

-- ---- places

pub in_at : (all : List BlockAt) (i : ℕ) → i < length all → IsIn (block_in all i) all
in_at [] i h = absurd (omega arith)
in_at (b ∷ bs) zero h = inl refl
in_at (b ∷ bs) (suc i) h = inr (in_at bs i (omega arith))

pub at_in : (b : BlockAt) (all : List BlockAt) → IsIn b all → (i : ℕ) × (i < length all) × (block_in all i ≡ b)
at_in b [] h = absurd h
at_in b (c ∷ cs) (inl e) = (0, omega arith, e)
at_in b (c ∷ cs) (inr h) = let rest = at_in b cs h in (suc rest.0, omega arith, rest.2)

pub sorted_at : (all : List BlockAt) → Sorted all → (i j : ℕ) → i < j → j < length all → key (block_in all i) < key (block_in all j)
sorted_at [] s i j h l = absurd (omega arith)
sorted_at (b ∷ bs) s i zero h l = absurd (omega arith)
sorted_at (b ∷ bs) s zero (suc j) h l = s.0 (block_in bs j) (in_at bs j (omega arith))
sorted_at (b ∷ bs) s (suc i) (suc j) h l = sorted_at bs s.1 i j (omega arith) (omega arith)

-- in a sorted list each block stands once
pub one_place : (all : List BlockAt) → Sorted all → (i j : ℕ) → i < length all → j < length all → key (block_in all i) ≡ key (block_in all j) → i ≡ j
one_place all s i j h l e = elim (cases_lt i j) [
  | inl lt ↦ let k = sorted_at all s i j lt l in absurd (omega arith)
  | inr le ↦ elim (cases_lt j i) [
    | inl lt ↦ let k = sorted_at all s j i lt h in absurd (omega arith)
    | inr ge ↦ omega arith
  ]
]

-- smaller keys stand at smaller places
pub before_at : (all : List BlockAt) → Sorted all → (i j : ℕ) → i < length all → j < length all → key (block_in all i) < key (block_in all j) → i < j
before_at all s i j h l lt = elim (cases_lt i j) [
  | inl before ↦ before
  | inr after ↦ elim (cases_lt j i) [
    | inl less ↦ let k = sorted_at all s j i less h in absurd (omega arith)
    | inr ge ↦ let same : i ≡ j = omega arith in let k = ap (λ n. key (block_in all n)) same in absurd (omega arith)
  ]
]

-- ---- filters

pub filter_flat : (p : BlockAt → Bool) (f : BlockAt → List BlockAt) (bs : List BlockAt) → ((b : BlockAt) → IsIn b bs → filter p (f b) ≡ b ∷ []) → filter p (flat_map f bs) ≡ bs
filter_flat p f [] h = refl
filter_flat p f (b ∷ bs) h =
    filter-append p (f b) (flat_map f bs)
    ∙ ap₂ (λ u w. u ++ w) (h b (inl refl)) (filter_flat p f bs (λ c i. h c (inr i)))

pub filter_none : (p : BlockAt → Bool) (bs : List BlockAt) → ((b : BlockAt) → IsIn b bs → p b ≡ false) → filter p bs ≡ []
filter_none p [] h = refl
filter_none p (b ∷ bs) h = ap (λ t. cond t (b ∷ filter p bs) (filter p bs)) (h b (inl refl)) ∙ filter_none p bs (λ c i. h c (inr i))

pub filter_one : (p : BlockAt → Bool) (b : BlockAt) → p b ≡ true → filter p (b ∷ []) ≡ b ∷ []
filter_one p b h = ap (λ t. cond t (b ∷ []) []) h
