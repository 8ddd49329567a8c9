-- Numbers and names by their bytes.
use Rattle.std.proofs.lemmas.Bool.{and_parts}
use Rattle.std.proofs.Common.{leb-true, ◌≡◌, ℕ, zero, suc, ◌^◌, ◌<◌, ◌≤◌, Bool, true, false, ◌&&◌, List, [], ◌∷◌, length, get_or, slice_index, Option, Some, None, Result, Ok, Err, ℤ, pos, negsuc, neg_ℤ, unsigned_abs, nat_le, int_le, bytes_eq, codes, refl, sym, ap, ◌∙◌, arith}
use Rattle.std.proofs.lemmas.Bool.Decides.{nat_tests}
use Rattle.std.specs.List.{list_all}
use Rattle.std.specs.Str.{IsAscii}
use Rattle.mesh_model.specs.declared.language.script.Reason.{Reason}
use Rattle.mesh_model.specs.declared.language.script.Reason.TheVariants.{NotNumber, OutOfRange}
use Rattle.mesh_model.specs.Language.Words.{is_digit, is_positive, is_name_byte, is_name, number_of, digits_value, after_minus}
use Rattle.mesh_model.specs.Language.Forms.{check, number, count}

same_size : (z : ℤ) → unsigned_abs (neg_ℤ z) ≡ unsigned_abs z
same_size (pos zero) = refl
same_size (pos (suc n)) = refl
same_size (negsuc n) = refl

-- what number_of says in each case
pub number_zero : (most : ℕ) (w : List ℕ) → bytes_eq w (codes "0") ≡ true → number most w ≡ Ok (pos 0)
unfolding number number_of
number_zero most w h = rw h (grind (arith, nat_tests))

pub number_positive : (most : ℕ) (w : List ℕ) → bytes_eq w (codes "0") ≡ false → is_positive w ≡ true → number most w ≡ check (nat_le (digits_value w) most) OutOfRange (pos (digits_value w))
unfolding number number_of
number_positive most w h p = rw (h, p) refl

pub number_negative : (most : ℕ) (w : List ℕ) → bytes_eq w (codes "0") ≡ false → is_positive w ≡ false → is_positive (after_minus w) ≡ true → number most w ≡ check (nat_le (digits_value (after_minus w)) most) OutOfRange (neg_ℤ (pos (digits_value (after_minus w))))
unfolding number number_of
number_negative most w h p q = rw (h, p, q, same_size (pos (digits_value (after_minus w)))) refl

pub number_none : (most : ℕ) (w : List ℕ) → bytes_eq w (codes "0") ≡ false → is_positive w ≡ false → is_positive (after_minus w) ≡ false → number most w ≡ Err NotNumber
unfolding number number_of
number_none most w h p q = rw (h, p, q) refl

-- a number in some range, by the number that the word is
abbrev within : ℕ → Option ℤ → Result ℤ Reason
within most None = Err NotNumber
within most (Some z) = check (nat_le (unsigned_abs z) most) OutOfRange z

abbrev between : ℕ → ℕ → Option ℤ → Result ℕ Reason
between low high None = Err NotNumber
between low high (Some z) = check (int_le (pos low) z && int_le z (pos high)) OutOfRange (unsigned_abs z)

check_passed : {A : Type 0} (b : Bool) (e : Reason) (x v : A) → check b e x ≡ Ok v → (b ≡ true) × (x ≡ v)
check_passed true e x v h = (refl, cc)
check_passed false e x v h = absurd (cc)

check_failed : {A : Type 0} (b : Bool) (e f : Reason) (x : A) → check b e x ≡ Err f → (b ≡ false) × (e ≡ f)
check_failed true e f x h = absurd (cc)
check_failed false e f x h = (refl, cc)

far : (low high : ℕ) (z : ℤ) → high < 2 ^ 32 → nat_le (unsigned_abs z) (2 ^ 40) ≡ false → (int_le (pos low) z && int_le z (pos high)) ≡ false
far low high (pos n) h f = grind (arith, nat_tests)
far low high (negsuc n) h f = refl

refused : (low high : ℕ) (o : Option ℤ) (e : Reason) → high < 2 ^ 32 → within (2 ^ 40) o ≡ Err e → between low high o ≡ Err e
refused low high None e h r = cc
refused low high (Some z) e h r =
    let t = check_failed _ _ e z r in
    ap (λ b. check b OutOfRange (unsigned_abs z)) (far low high z h t.0) ∙ ap Err t.1

taken : (low high : ℕ) (o : Option ℤ) (v : ℤ) → within (2 ^ 40) o ≡ Ok v → between low high o ≡ check (int_le (pos low) v && int_le v (pos high)) OutOfRange (unsigned_abs v)
taken low high None v r = absurd (cc)
taken low high (Some z) v r = ap (λ u. check (int_le (pos low) u && int_le u (pos high)) OutOfRange (unsigned_abs u)) (check_passed _ _ z v r).1

number_is : (most : ℕ) (w : List ℕ) (o : Option ℤ) → number_of w ≡ o → number most w ≡ within most o
unfolding number
number_is most w None h = rw h refl
number_is most w (Some z) h = rw h refl

count_is : (low high : ℕ) (w : List ℕ) (o : Option ℤ) → number_of w ≡ o → count low high w ≡ between low high o
unfolding count
count_is low high w None h = rw h refl
count_is low high w (Some z) h = rw h refl

pub count_refused : (low high : ℕ) (w : List ℕ) (e : Reason) → high < 2 ^ 32 → number (2 ^ 40) w ≡ Err e → count low high w ≡ Err e
count_refused low high w e h r = count_is low high w _ refl ∙ refused low high (number_of w) e h (sym (number_is (2 ^ 40) w _ refl) ∙ r)

pub count_taken : (low high : ℕ) (w : List ℕ) (v : ℤ) → number (2 ^ 40) w ≡ Ok v → count low high w ≡ check (int_le (pos low) v && int_le v (pos high)) OutOfRange (unsigned_abs v)
count_taken low high w v r = count_is low high w _ refl ∙ taken low high (number_of w) v (sym (number_is (2 ^ 40) w _ refl) ∙ r)
