-- Two outcomes of one call.
use Rattle.std.proofs.Common.{◌≡◌, ℕ, Result, Ok, Err, IfOk, IsErr, OnErr, MatchResult, subst}

-- what holds of an outcome holds of another one with the same value, or an error where it is one
pub of_same : {E F : Type 0} (P : ℕ → Type 0) (Q : Type 0) (r : Result ℕ E) (s : Result ℕ F) → MatchResult r P (λ _. Q) →
    IfOk s (λ n. r ≡ Ok n) → OnErr s (IsErr r) → MatchResult s P (λ _. Q)
of_same P Q (Ok n) (Ok m) h same failed = subst (λ q. MatchResult q P (λ _. Q)) same h
of_same P Q (Ok n) (Err f) h same failed = cc
of_same P Q (Err e) (Ok m) h same failed = cc
of_same P Q (Err e) (Err f) h same failed = h
