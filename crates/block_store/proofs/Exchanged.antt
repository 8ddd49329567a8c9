-- Arrays that change places.
use Rattle.std.proofs.Common.{◌≡◌, ℕ, Bool, true, false, List, length, get_or, ℤ, refl, sym, ap, subst, ◌∙◌, arith, inl, inr}
use Rattle.std.proofs.lemmas.Bool.{cases_order}
use Rattle.mesh_model.specs.declared.fields.values.Var.{Var}
use Rattle.mesh_model.specs.Fields.Arrays.{Arrays, Counts, HasArray, array_in, array_number, var_length}
use Rattle.mesh_model.proofs.FieldLemmas.BlockArrays.{number_once}
use Rattle.block_store.specs.Held.{AreExchanged}
use Rattle.block_store.specs.Pools.{IsExchanged, IsPool}
use Rattle.block_store.proofs.Pooled.{pool_length}

-- what holds of two arrays of a slot and of all others holds of each
pub one_of_two : (P : Var → ℕ → Type 0) (slot : ℕ) (a b : Var) → P a slot → P b slot →
    ((u : Var) (at : ℕ) → (u ≡ a → at ≡ slot → ⊥) → (u ≡ b → at ≡ slot → ⊥) → P u at) → (u : Var) (at : ℕ) → P u at
one_of_two P slot a b on_a on_b else u at = elim (cases_order at slot) [
  | inr (inl less) ↦ else u at (λ e s. absurd (omega arith)) (λ e s. absurd (omega arith))
  | inr (inr more) ↦ else u at (λ e s. absurd (omega arith)) (λ e s. absurd (omega arith))
  | inl same ↦ subst (P u) (sym same) (is (λ v. P v slot) a on_a (λ no_a. is (λ v. P v slot) b on_b (λ no_b. else u slot (λ e s. no_a e) (λ e s. no_b e))))
]
  where
    is : (Q : Var → Type 0) (v : Var) → Q v → ((u ≡ v → ⊥) → Q u) → Q u
    is Q v here other = elim (cases_order (array_number u) (array_number v)) [
      | inl e ↦ subst Q (sym (number_once u v e)) here
      | inr (inl less) ↦ other (λ e. absurd (let n = ap array_number e in omega arith))
      | inr (inr more) ↦ other (λ e. absurd (let n = ap array_number e in omega arith))
    ]

-- arrays of the same length change places, and each keeps its length
pub lengths_exchanged : (old new : Arrays) (slot : ℕ) (a b : Var) → IsExchanged old new slot a b → length (array_in old a slot) ≡ length (array_in old b slot) →
    (u : Var) (at : ℕ) → length (array_in new u at) ≡ length (array_in old u at)
lengths_exchanged old new slot a b is same =
    one_of_two (λ u at. length (array_in new u at) ≡ length (array_in old u at)) slot a b
    (ap length is.first ∙ sym same) (ap length is.second ∙ same) (λ u at no_a no_b. ap length (is.others u at no_a no_b))

module _ (counts : Counts) (held : List Bool) (blocks after : List (List (List ℤ))) (slot : ℕ) (a b : Var) (done : AreExchanged blocks after slot (array_number a) (array_number b)) where
  abbrev old : Arrays
  old = record { counts = counts; held = held; blocks = blocks }

  abbrev new : Arrays
  new = record { counts = counts; held = held; blocks = after }

  pub arrays_exchanged : IsExchanged old new slot a b
  unfolding array_in
  arrays_exchanged = record {
    counts = refl;
    held = refl;
    first = done.first;
    second = done.second;
    others = λ u at no_a no_b. done.others at (array_number u) (λ s n. no_a (number_once u a n) s) (λ s n. no_b (number_once u b n) s);
  }

  pub pool_exchanged : (n g free from : ℕ) → IsPool n g old free from → HasArray old a slot → HasArray old b slot → var_length n g a ≡ var_length n g b → IsPool n g new free from
  pool_exchanged n g free from is has_a has_b same =
      let lengths = pool_length n g old free from is a slot has_a ∙ same ∙ sym (pool_length n g old free from is b slot has_b) in
      record {
        size = is.size;
        slots = done.slots ∙ is.slots;
        few = is.few;
        rooms = λ s h. done.arrays s ∙ is.rooms s h;
        whole = λ u s declared h. lengths_exchanged old new slot a b arrays_exchanged lengths u s ∙ is.whole u s declared h;
        zero = λ s h off u declared.
            let other : s ≡ slot → ⊥ = λ e. absurd (let bad : false ≡ true = sym off ∙ ap (λ k. get_or held k false) e ∙ has_a.held in cc) in
            arrays_exchanged.others u s (λ e. other) (λ e. other) ∙ is.zero s h off u declared;
        spare = is.spare;
        first = is.first;
      }
