-- The words that numbers are written as, and the numbers that they are read as.
use Rattle.std.proofs.Common.{◌≡◌, ℕ, zero, suc, ◌+◌, ◌-◌, ◌*◌, ◌/◌, ◌%◌, ◌^◌, ◌<◌, ◌≤◌, true, false, ◌&&◌, List, [], ◌∷◌, ◌++◌, get_or, Some, ℤ, pos, negsuc, bytes_eq, codes, decimal, refl, ap₂, ◌∙◌, arith}
use Rattle.std.proofs.lemmas.Bool.{and_parts}
use Rattle.std.proofs.lemmas.Bool.Decides.{nat_tests}
use Rattle.std.proofs.lemmas.Fmt.{decimal_by_steps, decimal_digit, first_decimal}
use Rattle.std.proofs.lemmas.List.Folds.{list_all-append}
use Rattle.std.proofs.lemmas.List.Sums.{fold-append}
use Rattle.std.specs.Fmt.{signed_decimal}
use Rattle.std.specs.List.{list_all}
use lib.Signed.{mag}
use Rattle.mesh_model.specs.Language.Words.{digits_value, is_digit, is_filled, is_positive, number_of}

-- digits, one at least, of this value
pub record IsNumeral (n : ℕ) (ds : List ℕ) : Type 0 where
  pub filled : is_filled ds ≡ true
  pub all : list_all is_digit ds ≡ true
  pub value : digits_value ds ≡ n

one_digit : (n : ℕ) → n < 10 → IsNumeral n ((48 + n) ∷ [])
one_digit n h = record { filled = refl; all = grind (arith, nat_tests); value = omega arith }

filled_before : (ds es : List ℕ) → is_filled ds ≡ true → is_filled (ds ++ es) ≡ true
filled_before [] es h = absurd (cc)
filled_before (d ∷ ds) es h = refl

one_more : (n : ℕ) (ds : List ℕ) → 10 ≤ n → IsNumeral (n / 10) ds → IsNumeral n (ds ++ ((48 + n % 10) ∷ []))
one_more n ds h m =
    let last : list_all is_digit ((48 + n % 10) ∷ []) ≡ true = grind (arith, nat_tests) in
    let value : 10 * digits_value ds + (48 + n % 10 - 48) ≡ n = omega (arith, m.value) in
    record {
      filled = filled_before ds ((48 + n % 10) ∷ []) m.filled;
      all = list_all-append is_digit ds ((48 + n % 10) ∷ []) ∙ ap₂ (λ a b. a && b) m.all last;
      value = fold-append (λ v d. 10 * v + (d - 48)) 0 ds ((48 + n % 10) ∷ []) ∙ value;
    }

pub decimal_numeral : (n : ℕ) → n < 2 ^ 64 → IsNumeral n (decimal n)
decimal_numeral n h = decimal_by_steps IsNumeral one_digit one_more n h

-- digits of which the first is not 0
positive : (ds : List ℕ) → is_filled ds ≡ true → list_all is_digit ds ≡ true → 48 < get_or ds 0 0 → is_positive ds ≡ true
positive [] f h first = absurd (cc)
positive (d ∷ ds) f h first =
    let parts = and_parts (is_digit d) (list_all is_digit ds) h in
    grind (arith, nat_tests, parts.0, parts.1)

not_zero : (w : List ℕ) → 48 < get_or w 0 0 → bytes_eq w (codes "0") ≡ false
not_zero [] first = refl
not_zero (d ∷ ds) first = grind (arith, nat_tests)

decimal_positive : (n : ℕ) → 0 < n → n < 2 ^ 64 → is_positive (decimal n) ≡ true
decimal_positive n some h =
    let m = decimal_numeral n h in
    positive (decimal n) m.filled m.all (first_decimal n some h)

pub number_of_decimal : (n : ℕ) → n < 2 ^ 64 → number_of (decimal n) ≡ Some (pos n)
unfolding number_of
number_of_decimal zero h = rw (decimal_digit 0 (omega arith)) refl
number_of_decimal (suc n) h = rw (not_zero (decimal (suc n)) (first_decimal (suc n) (omega arith) h), decimal_positive (suc n) (omega arith) h, (decimal_numeral (suc n) h).value) refl

pub number_of_signed : (z : ℤ) → mag z < 2 ^ 63 → number_of (signed_decimal z) ≡ Some z
unfolding number_of
number_of_signed (pos n) h = number_of_decimal n (omega arith)
number_of_signed (negsuc n) h = rw (decimal_positive (suc n) (omega arith) (omega arith), (decimal_numeral (suc n) (omega arith)).value) refl
