-- The first content of a block that is out of range.
use Rattle.std.proofs.Common.{◌≡◌, ℕ, zero, suc, ◌<◌, ◌^◌, Bool, true, false, ℤ, Option, Some, None, inl, inr, refl, sym, ap, subst, ◌∙◌, arith}
use Rattle.std.specs.Prelude.{if◌then◌else◌, unsigned_abs}
use Rattle.std.specs.Option.{option_map, option_or}
use Rattle.std.proofs.lemmas.Bool.{cases_lt, le-ltb, lt-ltb}
use Rattle.amr_num.specs.Numbers.{Within, number_range}
use Rattle.amr_num.specs.declared.Axis.TheVariants.{X}
use Rattle.mesh_model.specs.Fields.Firsts.{first_below}
use Rattle.mesh_model.specs.Fields.RangeWalk.{is_above}
use Rattle.mesh_model.proofs.FieldLemmas.FirstFound.{box_mapped, box_same}
use Rattle.block_store.proofs.Aboves.{none_found}
use Rattle.block_store.specs.Above.{above_at, first_in_block}
use Rattle.block_store.specs.declared.above.Above.{Above}
use Rattle.step_advect.specs.declared.update.RangeAt.{RangeAt}
use Rattle.step_advect.specs.Applied.{AreInRange, first_out, range_at}

-- as a cell of a block is told
abbrev pub told : Above → RangeAt
told a = record { axis = X; i = a.i; j = a.j; k = a.k; value = a.value }

told_if : (p : Bool) (a : Above) → option_map told (if p then Some a else None) ≡ (if p then Some (told a) else None)
told_if true a = refl
told_if false a = refl

pub first_told : (n : ℕ) (numbers left : ℕ → ℕ → ℕ → ℤ) (found : Option Above) → found ≡ first_in_block numbers n →
    ((i j k : ℕ) → i < n → j < n → k < n → numbers i j k ≡ left i j k) → first_out n left ≡ option_map told found
first_told n numbers left found is same =
    sym (
    ap (option_map told) is ∙ box_mapped told n (above_at numbers)
    ∙ box_same n (λ i j k. option_map told (above_at numbers i j k)) (range_at left)
    (λ i j k hi hj hk.
    told_if (is_above (2 ^ 40) (numbers i j k)) (record { i = i; j = j; k = k; value = numbers i j k })
    ∙ ap (λ (v : ℤ). range_at (λ x y z. v) i j k) (same i j k hi hj hk)))

-- where none is found, none is there
or_none : {A : Type 0} (p q : Option A) → option_or p q ≡ None → (p ≡ None) × (q ≡ None)
or_none None q h = (refl, h)
or_none (Some x) q h = cc

none_below : {A : Type 0} (n : ℕ) (at : ℕ → Option A) → first_below n at ≡ None → (i : ℕ) → i < n → at i ≡ None
none_below zero at none i h = absurd (omega arith)
none_below (suc n) at none i h =
    let both = or_none (first_below n at) (at n) none in
    elim (cases_lt i n) [
      | inl less ↦ none_below n at both.0 i less
      | inr last ↦ (let same : n ≡ i = omega arith in subst (λ m. at m ≡ None) same both.1)
    ]

in_range : (cells : ℕ → ℕ → ℕ → ℤ) (i j k : ℕ) → range_at cells i j k ≡ None → Within number_range (cells i j k)
in_range cells i j k none = elim (cases_lt number_range (unsigned_abs (cells i j k))) [
  | inl above ↦ absurd (
      let some : range_at cells i j k ≡ Some (record { axis = X; i = i; j = j; k = k; value = cells i j k }) = rw (lt-ltb number_range (unsigned_abs (cells i j k)) above) refl in
      cc)
  | inr within ↦ within
]

pub all_in_range : (n : ℕ) (cells : ℕ → ℕ → ℕ → ℤ) → first_out n cells ≡ None → AreInRange n cells
all_in_range n cells none = record {
  at = λ i j k hi hj hk.
      in_range cells i j k
      (none_below n (λ x. range_at cells x j k)
      (none_below n (λ y. first_below n (λ x. range_at cells x y k)) (none_below n (λ z. first_below n (λ y. first_below n (λ x. range_at cells x y z))) none k hk) j hj) i hi);
}

-- where all are in range none is found
pub none_out : (n : ℕ) (cells : ℕ → ℕ → ℕ → ℤ) → AreInRange n cells → first_out n cells ≡ None
none_out n cells within =
    box_same n (range_at cells) (λ i j k. None) (λ i j k hi hj hk. rw (le-ltb number_range (unsigned_abs (cells i j k)) (within.at i j k hi hj hk)) refl)
    ∙ none_found n (λ k. first_below n (λ j. first_below n (λ i. None))) (λ k hk. none_found n (λ j. first_below n (λ i. None)) (λ j hj. none_found n (λ i. None) (λ i hi. refl)))
