-- The net outflows of a block's cells add up to what flows through its sides.
use Rattle.std.proofs.Common.{◌≡◌, ℕ, zero, suc, ◌+◌, ◌<◌, Bool, true, false, ◌&&◌, ◌||◌, ◌==◌, ℤ, pos, ◌-ℤ◌, refl, ap, ap₂, ◌∙◌, arith}
use Rattle.std.specs.Prelude.{if◌then◌else◌}
use Rattle.std.proofs.lemmas.Int.{ints}
use Rattle.std.proofs.lemmas.Bool.Decides.{nat_tests}
use Rattle.amr_num.specs.Numbers.{sum_below}
use Rattle.amr_num.specs.declared.Axis.{Axis}
use Rattle.amr_num.specs.declared.Axis.TheVariants.{X, Y, Z}
use Rattle.amr_num.proofs.Parts.{sum_below_same}
use Rattle.mesh_model.specs.Fields.Totals.{box_sum}
use Rattle.mesh_model.proofs.FieldLemmas.Sums.{sum_below_sub, sum_below_zero}
use Rattle.step_advect.specs.Applied.{out_along, side_sum}
use Rattle.step_advect.specs.Fluxed.{along}
use Rattle.step_advect.proofs.Nets.{upper}
use Rattle.mesh_model.specs.Geometry.Places.{is_on_side}

-- what each place hands on to the next
climb : (k : ℕ) (w : ℕ → ℤ) → sum_below k (λ p. w (p + 1) -ℤ w p) ≡ w k -ℤ w 0
climb zero w = omega (arith, ints)
climb (suc k) w = let here = climb k w in let next : w (k + 1) ≡ w (suc k) = (let one : k + 1 ≡ suc k = omega arith in ap w one) in omega (arith, ints)

side_up : (n : ℕ) (a : Axis) (w : ℕ → ℕ → ℕ → ℤ) → box_sum n n n (λ i j k. upper a w i j k -ℤ w i j k) ≡ side_sum n a w n -ℤ side_sum n a w 0
unfolding box_sum
side_up n X w =
    sum_below_same n _ _ (λ k hk. sum_below_same n _ _ (λ j hj. climb n (λ i. w i j k)) ∙ sum_below_sub n (λ j. w n j k) (λ j. w 0 j k))
    ∙ sum_below_sub n (λ k. sum_below n (λ j. w n j k)) (λ k. sum_below n (λ j. w 0 j k))
side_up n Y w =
    sum_below_same n _ _ (λ k hk. sum_below_same n _ _ (λ j hj. sum_below_sub n (λ i. w i (j + 1) k) (λ i. w i j k)) ∙ climb n (λ j. sum_below n (λ i. w i j k)))
    ∙ sum_below_sub n (λ k. sum_below n (λ i. w i n k)) (λ k. sum_below n (λ i. w i 0 k))
side_up n Z w =
    sum_below_same n _ _ (λ k hk.
    sum_below_same n _ _ (λ j hj. sum_below_sub n (λ i. w i j (k + 1)) (λ i. w i j k)) ∙ sum_below_sub n (λ j. sum_below n (λ i. w i j (k + 1))) (λ j. sum_below n (λ i. w i j k)))
    ∙ climb n (λ k. sum_below n (λ j. sum_below n (λ i. w i j k)))

-- the numbers of faces on the sides that are chosen, and 0 elsewhere
abbrev pub on_sides : ℕ → Bool → Bool → Axis → (ℕ → ℕ → ℕ → ℤ) → ℕ → ℕ → ℕ → ℤ
on_sides n low high a f i j k = if is_on_side n low high (along a i j k) then f i j k else pos 0

plane_if : (n : ℕ) (t : Bool) (f : ℕ → ℕ → ℤ) → sum_below n (λ v. sum_below n (λ u. if t then f u v else pos 0)) ≡ (if t then sum_below n (λ v. sum_below n (λ u. f u v)) else pos 0)
plane_if n true f = refl
plane_if n false f = sum_below_zero n _ (λ v hv. sum_below_zero n _ (λ u hu. refl))

side_if : (n : ℕ) (low high : Bool) (a : Axis) (f : ℕ → ℕ → ℕ → ℤ) (p : ℕ) → side_sum n a (on_sides n low high a f) p ≡ (if is_on_side n low high p then side_sum n a f p else pos 0)
side_if n low high X f p = plane_if n (is_on_side n low high p) (λ u v. f p u v)
side_if n low high Y f p = plane_if n (is_on_side n low high p) (λ u v. f u p v)
side_if n low high Z f p = plane_if n (is_on_side n low high p) (λ u v. f u v p)

or_none : (p : Bool) → (p || false) ≡ p
or_none true = refl
or_none false = refl

at_low : (n : ℕ) (low high : Bool) → 0 < n → is_on_side n low high 0 ≡ low
at_low n low high some = let apart : (0 == n) ≡ false = grind (arith, nat_tests) in ap (λ t. low || (t && high)) apart ∙ or_none low

at_high : (n : ℕ) (low high : Bool) → 0 < n → is_on_side n low high n ≡ high
at_high n low high some =
    let apart : (n == 0) ≡ false = grind (arith, nat_tests) in
    let same : (n == n) ≡ true = grind (arith, nat_tests) in
    ap₂ (λ s t. (s && low) || (t && high)) apart same

-- so over a block the differences of what is on its chosen sides add up to what flows out through them
pub out_up : (n : ℕ) (low high : Bool) (a : Axis) (f : ℕ → ℕ → ℕ → ℤ) → 0 < n →
    box_sum n n n (λ i j k. upper a (on_sides n low high a f) i j k -ℤ on_sides n low high a f i j k) ≡ out_along n a f low high
out_up n low high a f some =
    side_up n a (on_sides n low high a f)
    ∙ ap₂ (λ r s. r -ℤ s) (side_if n low high a f n ∙ ap (λ t. if t then side_sum n a f n else pos 0) (at_high n low high some))
    (side_if n low high a f 0 ∙ ap (λ t. if t then side_sum n a f 0 else pos 0) (at_low n low high some))
