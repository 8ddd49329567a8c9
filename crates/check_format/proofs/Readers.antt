-- Reading many of one kind.
use Rattle.std.proofs.Common.{◌≡◌, ℕ, zero, suc, ◌+◌, ◌-◌, ◌*◌, ◌<◌, ◌≤◌, Bool, true, false, List, [], ◌∷◌, ◌++◌, length, take, drop, Option, Some, None, refl, sym, ap, ◌∙◌, arith, append_assoc}
use Rattle.std.specs.Prelude.{nat_lt, if◌then◌else◌}
use Rattle.std.specs.Option.{option_map}
use Rattle.std.proofs.lemmas.List.{append-nil}
use Rattle.std.proofs.lemmas.Bool.{le-ltb, lt-ltb}
use Rattle.mesh_model.specs.Images.Codec.{◌>>=◌, read_times, times}
use Rattle.mesh_model.specs.Images.Reading.{any}

-- so many bytes are the first ones
pub any_times : (n : ℕ) (bytes : List ℕ) → n ≤ length bytes → (times n any).read bytes ≡ Some (take n bytes, drop n bytes)
any_times zero bytes h = refl
any_times (suc n) [] h = absurd (omega arith)
any_times (suc n) (b ∷ bytes) h = ap (λ u. u >>= λ others. Some (b ∷ others.0, others.1)) (any_times n bytes (omega arith))

pub any_wants : (n : ℕ) (bytes : List ℕ) → length bytes < n → (times n any).read bytes ≡ None
any_wants zero bytes h = absurd (omega arith)
any_wants (suc n) [] h = refl
any_wants (suc n) (b ∷ bytes) h = ap (λ u. u >>= λ others. Some (b ∷ others.0, others.1)) (any_wants n bytes (omega arith))

-- what is read with what was read before
abbrev pub told : {A : Type 0} → (List ℕ → Option (A × List ℕ)) → List A → ℕ → List ℕ → Option (List A × List ℕ)
told read xs n bytes = option_map (λ r. (xs ++ r.0, r.1)) (read_times n read bytes)

pub told_none : {A : Type 0} (read : List ℕ → Option (A × List ℕ)) (n : ℕ) (bytes : List ℕ) → told read [] n bytes ≡ read_times n read bytes
told_none read n bytes = same (read_times n read bytes)
  where
    same : {B : Type 0} (o : Option B) → option_map (λ r. r) o ≡ o
    same None = refl
    same (Some x) = refl

-- one more value, and what is read after it
abbrev joined : {A : Type 0} → A → Option (List A × List ℕ) → Option (List A × List ℕ)
joined a o = o >>= λ others. Some (a ∷ others.0, others.1)

-- the same behind values that were read before
abbrev behind : {A : Type 0} → List A → Option (List A × List ℕ) → Option (List A × List ℕ)
behind xs o = option_map (λ r. (xs ++ r.0, r.1)) o

abbrev then_times : {A : Type 0} → (List ℕ → Option (A × List ℕ)) → ℕ → Option (A × List ℕ) → Option (List A × List ℕ)
then_times read n o = o >>= λ first. joined first.0 (read_times n read first.1)

pushed : {A : Type 0} (xs : List A) (a : A) (o : Option (List A × List ℕ)) → behind (xs ++ a ∷ []) o ≡ behind xs (joined a o)
pushed xs a None = refl
pushed xs a (Some r) = ap (λ u. Some (u, r.1)) (append_assoc xs (a ∷ []) r.0)

pub told_more : {A : Type 0} (read : List ℕ → Option (A × List ℕ)) (xs : List A) (n m : ℕ) (bytes : List ℕ) (a : A) (rest : List ℕ)
    → n ≡ suc m → Some (a, rest) ≡ read bytes → told read (xs ++ a ∷ []) m rest ≡ told read xs n bytes
told_more read xs n m bytes a rest step e =
    pushed xs a (read_times m read rest) ∙ ap (λ u. behind xs (then_times read m u)) e ∙ ap (λ k. told read xs k bytes) (sym step)

pub told_fails : {A : Type 0} (read : List ℕ → Option (A × List ℕ)) (xs : List A) (n : ℕ) (bytes : List ℕ)
    → 0 < n → None ≡ read bytes → None ≡ told read xs n bytes
told_fails read xs zero bytes some e = absurd (omega arith)
told_fails read xs (suc n) bytes some e = ap (λ u. behind xs (then_times read n u)) e

pub told_all : {A : Type 0} (read : List ℕ → Option (A × List ℕ)) (xs : List A) (n : ℕ) (bytes : List ℕ) → n ≡ 0 → Some (xs, bytes) ≡ told read xs n bytes
told_all read xs zero bytes e = ap (λ u. Some (u, bytes)) (sym (append-nil xs))
told_all read xs (suc n) bytes e = absurd (omega arith)
