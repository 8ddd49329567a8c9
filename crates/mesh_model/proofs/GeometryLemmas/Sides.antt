-- The sides of a block on the sides of the domain, by the positions of its faces.
use Rattle.std.proofs.Common.{◌≡◌, ℕ, zero, suc, ◌+◌, ◌*◌, ◌<◌, ◌≤◌, Bool, true, false, ◌&&◌, ◌||◌, ◌==◌, refl, sym, ap, ap₂, ◌∙◌, arith, inl, inr, eqb-true}
use Rattle.std.proofs.Math.Nat.{mul-le-mul_left}
use Rattle.std.proofs.lemmas.Bool.{and_parts, cases_lt}
use Rattle.std.proofs.lemmas.Bool.Decides.{nat_tests}
use Rattle.mesh_model.specs.Geometry.Places.{is_on_side}

-- tests that hold together are one
same_test : (p q : Bool) → (p ≡ true → q ≡ true) → (q ≡ true → p ≡ true) → p ≡ q
same_test true q to back = sym (to refl)
same_test false true to back = back refl
same_test false false to back = refl

is_same : (m n : ℕ) → m ≡ n → (m == n) ≡ true
is_same m n same = grind (arith, nat_tests)

both : (p q : Bool) → p ≡ true → q ≡ true → (p && q) ≡ true
both p q hp hq = ap₂ (λ a b. a && b) hp hq

regroup : (p q r : Bool) → ((p && q) && r) ≡ (p && (q && r))
regroup true q r = refl
regroup false q r = refl

-- a position of a block's faces is the domain's low end, or its high one, where it is the block's and the block lies there
low_end : (n b i : ℕ) → 0 < n → (n * b + i == 0) ≡ ((i == 0) && (b == 0))
low_end n zero i some = same_test _ _ (λ t. let none = eqb-true (n * 0 + i) 0 t in both _ _ (is_same i 0 (omega arith)) (is_same 0 0 refl)) (λ t. let parts = and_parts (i == 0) (0 == 0) t in let none = eqb-true i 0 parts.0 in is_same (n * 0 + i) 0 (omega arith))
low_end n (suc b) i some = same_test _ _
    (λ t. let none = eqb-true (n * suc b + i) 0 t in let more : n * suc b ≡ n * b + n = grind arith in absurd (omega arith))
    (λ t. let parts = and_parts (i == 0) (suc b == 0) t in let never = eqb-true (suc b) 0 parts.1 in absurd (omega arith))

high_end : (n b i all : ℕ) → 0 < n → b < all → i ≤ n → (n * b + i == n * all) ≡ ((i == n) && (suc b == all))
high_end n b i all some hb hi = same_test _ _
    (λ t.
    let same = eqb-true (n * b + i) (n * all) t in
    let next : n * suc b ≡ n * b + n = grind arith in
    let last : all ≡ suc b = elim (cases_lt (suc b) all) [
      | inl more ↦ absurd (let far : n * suc (suc b) ≤ n * all = mul-le-mul_left n more in let two : n * suc (suc b) ≡ n * suc b + n = grind arith in omega arith)
      | inr end ↦ omega arith
    ] in
    let whole : n * all ≡ n * suc b = ap (λ m. n * m) last in
    both _ _ (is_same i n (omega arith)) (is_same (suc b) all (sym last)))
    (λ t.
    let parts = and_parts (i == n) (suc b == all) t in
    let side = eqb-true i n parts.0 in
    let last = eqb-true (suc b) all parts.1 in
    let next : n * suc b ≡ n * b + n = grind arith in
    let whole : n * all ≡ n * suc b = ap (λ m. n * m) (sym last) in
    is_same (n * b + i) (n * all) (omega arith))

-- so tests of the positions of a block's faces are tests of the domain's
pub on_domain_side : (n b i all : ℕ) (low high : Bool) → 0 < n → b < all → i ≤ n →
    is_on_side n ((b == 0) && low) ((suc b == all) && high) i ≡ (((n * b + i == 0) && low) || ((n * b + i == n * all) && high))
on_domain_side n b i all low high some hb hi =
    sym (
    ap₂ (λ p q. (p && low) || (q && high)) (low_end n b i some) (high_end n b i all some hb hi)
    ∙ ap₂ (λ p q. p || q) (regroup (i == 0) (b == 0) low) (regroup (i == n) (suc b == all) high))
