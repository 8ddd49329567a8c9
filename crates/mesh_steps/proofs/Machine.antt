-- Sums as the machine keeps them.
use Rattle.std.proofs.Common.{◌≡◌, ℕ, suc, ◌+◌, ◌^◌, ◌<◌, ℤ, ◌+ℤ◌, arith, sym, ap, ap₂, subst, ◌∙◌, to_z, of_z}
use Rattle.std.specs.Int.{w128}
use Rattle.std.proofs.lemmas.Int.{fits_signed_from_abs, to_z-of_z}
use Rattle.amr_num.specs.Numbers.{Within, sum_below}
use Rattle.amr_num.proofs.Sizes.{within_add}

abbrev pub kept_128 : ℤ → ℤ
kept_128 z = to_z w128 (of_z w128 z)

pub wide : (z : ℤ) (b : ℕ) → Within b z → b < 2 ^ 127 → kept_128 z ≡ z
wide z b h k = to_z-of_z w128 z (fits_signed_from_abs w128 z (omega arith))

-- one more number is added to a sum
module _ (s p : ℤ) (b d : ℕ) (small : Within b s) (part : Within d p) (few : b + d < 2 ^ 127) where
  pub more_is : kept_128 (s +ℤ kept_128 p) ≡ s +ℤ p
  more_is = ap (λ x. kept_128 (s +ℤ x)) (wide p d part (omega (arith, few))) ∙ wide (s +ℤ p) (b + d) (within_add b d s p small part) few

  pub more_small : Within (b + d) (kept_128 (s +ℤ kept_128 p))
  more_small = subst (λ z. Within (b + d) z) (sym more_is) (within_add b d s p small part)

  pub more_of : (f : ℕ → ℤ) (k : ℕ) → s ≡ sum_below k f → p ≡ f k → kept_128 (s +ℤ kept_128 p) ≡ sum_below (k + 1) f
  more_of f k sum_is part_is =
      let next : suc k ≡ k + 1 = omega arith in
      more_is ∙ ap₂ (λ x y. x +ℤ y) sum_is part_is ∙ ap (λ m. sum_below m f) next
