-- The first number out of range, row by row and plane by plane.
use Rattle.std.proofs.Common.{◌≡◌, ℕ, zero, suc, ◌+◌, ◌<◌, ◌^◌, Bool, true, false, List, length, ℤ, Option, Some, None, is_some, refl, sym, ap, ap₂, ◌∙◌, arith}
use Rattle.std.specs.Prelude.{if◌then◌else◌, unsigned_abs}
use Rattle.std.specs.Option.{option_or}
use Rattle.std.proofs.lemmas.Bool.{le-ltb}
use Rattle.amr_num.specs.Numbers.{Within, at}
use Rattle.mesh_model.specs.Fields.Firsts.{first_below}
use Rattle.mesh_model.specs.Fields.RangeWalk.{is_above}
use Rattle.mesh_model.proofs.FieldLemmas.FirstFound.{first_same, found_first, one_more_none}
use Rattle.block_store.specs.Above.{counted_at, first_in_row, is_counted}
use Rattle.block_store.specs.declared.above.Above.{Above}
use Rattle.block_store.specs.declared.above.Counted.{Counted}

-- it is found here, or nothing is
pub found_here : {A : Type 0} (n m : ℕ) (at : ℕ → Option A) (r : Option A) → first_below m at ≡ None → r ≡ at m → is_some r ≡ true → m < n → r ≡ first_below n at
found_here n m at None before is some h = cc
found_here n m at (Some x) before is some h = sym (found_first n m at x before (sym is) h)

pub none_here : {A : Type 0} (m : ℕ) (at : ℕ → Option A) (r : Option A) → first_below m at ≡ None → r ≡ at m → is_some r ≡ false → first_below (m + 1) at ≡ None
none_here m at None before is none = one_more_none m at before (sym is)
none_here m at (Some x) before is none = cc

-- a row of a region
pub row_is : (m : ℕ) (c : Counted) (n j k : ℕ) (row : List ℤ) (numbers : ℕ → ℕ → ℕ → ℤ) → length row ≡ n → ((i : ℕ) → i < n → at row i ≡ numbers i j k) →
    first_in_row m c row j k (length row) ≡ first_below n (λ i. counted_at m c numbers i j k)
row_is m c n j k row numbers long is =
    ap (first_in_row m c row j k) long
    ∙ first_same n (λ i. counted_at m c (λ x y z. at row x) i j k) (λ i. counted_at m c numbers i j k)
    (λ i h. ap (λ (v : ℤ). if is_counted m c i j k then (if is_above (2 ^ 40) v then Some (record { i = i; j = j; k = k; value = v }) else None) else None) (is i h))

-- nothing is found where nothing is
pub none_found : {A : Type 0} (n : ℕ) (at : ℕ → Option A) → ((i : ℕ) → i < n → at i ≡ None) → first_below n at ≡ None
none_found zero at none = refl
none_found (suc n) at none = ap₂ (λ p q. option_or p q) (none_found n at (λ i h. none i (omega arith))) (none n (omega arith))

-- as where a number is in range
abbrev no_number : Option Above
no_number = None

none_anyhow : (t : Bool) → (if t then no_number else no_number) ≡ no_number
none_anyhow true = refl
none_anyhow false = refl

pub in_range_none : (n : ℕ) (c : Counted) (numbers : ℕ → ℕ → ℕ → ℤ) (i j k : ℕ) → Within (2 ^ 40) (numbers i j k) → counted_at n c numbers i j k ≡ None
in_range_none n c numbers i j k h =
    ap (λ (t : Bool). if is_counted n c i j k then (if t then Some (record { i = i; j = j; k = k; value = numbers i j k }) else None) else None) (le-ltb (2 ^ 40) (unsigned_abs (numbers i j k)) h)
    ∙ none_anyhow (is_counted n c i j k)
