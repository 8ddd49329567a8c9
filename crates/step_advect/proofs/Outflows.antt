-- Sums that grow by one number.
use Rattle.std.proofs.Common.{◌≡◌, ℕ, suc, ◌+◌, ◌*◌, ℤ, ◌+ℤ◌, ap, ap₂, subst, sym, ◌∙◌, arith}
use Rattle.amr_num.specs.Numbers.{Within, sum_below}
use Rattle.amr_num.proofs.Sizes.{within_add}

module _ (u : ℕ) (f : ℕ → ℤ) (sum more new : ℤ) (made : new ≡ sum +ℤ more) where
  pub more_sum : sum ≡ sum_below u f → more ≡ f u → new ≡ sum_below (u + 1) f
  more_sum so_far here = made ∙ ap₂ (λ p q. p +ℤ q) so_far here ∙ let next : suc u ≡ u + 1 = omega arith in ap (λ m. sum_below m f) next

  pub more_within : (each : ℕ) → Within (u * each) sum → Within each more → Within ((u + 1) * each) new
  more_within each so_far here =
      let next : u * each + each ≡ (u + 1) * each = grind arith in
      subst (Within ((u + 1) * each)) (sym made) (subst (λ b. Within b (sum +ℤ more)) next (within_add (u * each) each sum more so_far here))
