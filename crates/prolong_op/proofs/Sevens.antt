-- Numbers that are all in range, and what is made of them.
use Rattle.std.proofs.Common.{ℕ, ◌≤◌, ◌^◌, pos, sym, subst, arith, inl, inr}
use Rattle.std.specs.Prelude.{replicate}
use Rattle.std.proofs.lemmas.Bool.{cases_lt}
use Rattle.std.proofs.lemmas.List.{get_or-replicate, get_or_past, length-replicate}
use Rattle.amr_num.specs.Numbers.{Within, at}

pub few_sevens : (m i : ℕ) → Within (2 ^ 40) (at (replicate m (pos 7)) i)
few_sevens m i = elim (cases_lt i m) [
  | inl less ↦ subst (λ v. Within (2 ^ 40) v) (sym (get_or-replicate m i (pos 7) (pos 0) less)) (omega arith)
  | inr past ↦ subst (λ v. Within (2 ^ 40) v) (sym (get_or_past (replicate m (pos 7)) i (pos 0) (subst (λ n. n ≤ i) (sym (length-replicate m (pos 7))) past))) (omega arith)
]
