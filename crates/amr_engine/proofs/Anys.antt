-- Tests of the places below a number.
use Rattle.std.proofs.Common.{◌≡◌, ℕ, zero, suc, ◌+◌, ◌<◌, ◌≤◌, Bool, true, false, refl, ap, ap₂, ◌∙◌, arith}
use Rattle.std.specs.Prelude.{◌||◌}
use Rattle.std.specs.List.{list_any, range_with_len}
use Rattle.std.proofs.lemmas.List.Folds.{list_any_at}
use Rattle.std.proofs.lemmas.List.FromFn.{get_or-range_with_len, length-range_with_len}
use Rattle.mesh_model.specs.Geometry.Places.{places}

-- one of them passes
pub some_place : (p : ℕ → Bool) (n i : ℕ) → i < n → p i ≡ true → list_any p (places n) ≡ true
some_place p n i h t =
    let zero : 0 + i ≡ i = omega arith in
    list_any_at p (range_with_len 0 n) i 0 (omega (arith, length-range_with_len 0 n)) (ap p (get_or-range_with_len 0 n i 0 h ∙ zero) ∙ t)

-- none does
none_from : (p : ℕ → Bool) (a n : ℕ) → ((i : ℕ) → a ≤ i → i < a + n → p i ≡ false) → list_any p (range_with_len a n) ≡ false
none_from p a zero h = refl
none_from p a (suc n) h = ap₂ (λ x y. x || y) (h a (omega arith) (omega arith)) (none_from p (a + 1) n (λ i low high. h i (omega arith) (omega arith)))

pub no_place : (p : ℕ → Bool) (n : ℕ) → ((i : ℕ) → i < n → p i ≡ false) → list_any p (places n) ≡ false
no_place p n h = none_from p 0 n (λ i low high. h i (omega arith))

-- two tests agree
same_from : (p q : ℕ → Bool) (a n : ℕ) → ((i : ℕ) → a ≤ i → i < a + n → p i ≡ q i) → list_any p (range_with_len a n) ≡ list_any q (range_with_len a n)
same_from p q a zero h = refl
same_from p q a (suc n) h = ap₂ (λ x y. x || y) (h a (omega arith) (omega arith)) (same_from p q (a + 1) n (λ i low high. h i (omega arith) (omega arith)))

pub same_places : (p q : ℕ → Bool) (n : ℕ) → ((i : ℕ) → i < n → p i ≡ q i) → list_any p (places n) ≡ list_any q (places n)
same_places p q n h = same_from p q 0 n (λ i low high. h i (omega arith))
