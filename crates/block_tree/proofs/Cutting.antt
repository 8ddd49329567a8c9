-- The steps of a search by halves.
use Rattle.std.proofs.Common.{◌≡◌, ℕ, ◌+◌, ◌<◌, ◌≤◌, inl, inr, arith, true, false, List, length, subst, sym, ap, ◌∙◌}
use Rattle.std.proofs.lemmas.Bool.{cases_lt}
use Rattle.std.specs.Cmp.{nat_cmp_is}
use Rattle.std.specs.Ordering.{is_lt, nat_cmp}
use Rattle.std.specs.declared.cmp.Ordering.TheVariants.{Less, Equal, Greater}
use Rattle.amr_num.specs.declared.BlockAt.{BlockAt}
use Rattle.mesh_model.specs.Tree.Order.{IsIn, Sorted, key}
use Rattle.block_tree.specs.Numbered.{block_in}
use Rattle.block_tree.specs.Searching.{IsCut}
use Rattle.block_tree.proofs.Members.{at_in, sorted_at}

pub cut_whole : (all : List BlockAt) (k : ℕ) → IsCut all k 0 (length all)
cut_whole all k = record { order = omega arith; within = omega arith; before = λ i h. absurd (omega arith); after = λ i h l. absurd (omega arith) }

module _ (all : List BlockAt) (sorted : Sorted all) (k low high middle : ℕ) (cut : IsCut all k low high) where
  pub cut_above : low ≤ middle → middle < high → key (block_in all middle) < k → IsCut all k (middle + 1) high
  cut_above from to less = record {
    order = omega arith;
    within = cut.within;
    before = λ i h. let room = cut.within in elim (cases_lt i middle) [
      | inl lt ↦ let up = sorted_at all sorted i middle lt (omega arith) in omega arith
      | inr le ↦ let same : middle ≡ i = omega arith in subst (λ n. key (block_in all n) < k) same less
    ];
    after = cut.after;
  }

  pub cut_below : low ≤ middle → middle < high → k ≤ key (block_in all middle) → IsCut all k low middle
  cut_below from to more = record {
    order = from;
    within = let room = cut.within in omega arith;
    before = cut.before;
    after = λ i h l. elim (cases_lt middle i) [
      | inl lt ↦ let up = sorted_at all sorted middle i lt l in omega arith
      | inr le ↦ let same : middle ≡ i = omega arith in subst (λ n. k ≤ key (block_in all n)) same more
    ];
  }

-- a block with the key stands at the cut
pub at_cut : (all : List BlockAt) (place : ℕ) (b : BlockAt) → IsCut all (key b) place place → IsIn b all → Sorted all → (place < length all) × (block_in all place ≡ b)
at_cut all place b cut i sorted =
    let at = at_in b all i in
    let same = ap key at.2 in
    elim (cases_lt at.0 place) [
      | inl lt ↦ let less = cut.before at.0 lt in absurd (omega arith)
      | inr le ↦ elim (cases_lt place at.0) [
        | inl lt ↦
            let up = sorted_at all sorted place at.0 lt at.1 in
            let more = cut.after place (omega arith) (omega arith) in
            absurd (omega arith)
        | inr ge ↦ let here : at.0 ≡ place = omega arith in (omega arith, ap (block_in all) (sym here) ∙ at.2)
      ]
    ]

-- ---- comparisons

pub less_says : (x y : ℕ) → is_lt (nat_cmp x y) ≡ true → x < y
less_says x y h = elim (cases_lt x y) [
  | inl lt ↦ lt
  | inr le ↦ elim (cases_lt y x) [
    | inl more ↦ let e = ap is_lt (nat_cmp_is x y Greater more) in cc
    | inr ge ↦ let same : x ≡ y = omega arith in let e = ap is_lt (nat_cmp_is x y Equal same) in cc
  ]
]

pub more_says : (x y : ℕ) → is_lt (nat_cmp x y) ≡ false → y ≤ x
more_says x y h = elim (cases_lt x y) [
  | inl lt ↦ let e = ap is_lt (nat_cmp_is x y Less lt) in cc
  | inr le ↦ le
]
