-- Where a cell balances, the inner rule balances each of its octants.
use Rattle.std.proofs.Common.{◌≡◌, ℕ, zero, suc, ◌+◌, ◌*◌, ◌/◌, ◌%◌, ◌<◌, ℤ, pos, ◌+ℤ◌, ◌-ℤ◌, refl, ap, ap₂, ◌∙◌, arith}
use Rattle.std.proofs.lemmas.Int.{ints}
use Rattle.amr_num.specs.Numbers.{sum_below}
use Rattle.amr_num.proofs.Parts.{spread_adds_up, sum_below_add}
use Rattle.mesh_model.specs.Fields.InnerRule.{Outer, middle_x, x_at, middle_y, y_at, middle_z, z_at, octant_out, cell_out}

middle_x_sum : (o : Outer) → sum_below 4 (middle_x o) ≡ sum_below 4 o.x_low -ℤ sum_below 2 (λ k. o.y_high (2 * k) -ℤ o.y_low (2 * k)) -ℤ sum_below 2 (λ j. o.z_high (2 * j) -ℤ o.z_low (2 * j))
unfolding middle_x
middle_x_sum o = spread_adds_up 4 _ _ (omega arith)

middle_y_sum : (o : Outer) (i : ℕ) → sum_below 2 (middle_y o i) ≡ sum_below 2 (λ k. o.y_low (i + 2 * k)) -ℤ sum_below 2 (λ k. x_at o (suc i) (2 * k) -ℤ x_at o i (2 * k)) -ℤ (o.z_high i -ℤ o.z_low i)
unfolding middle_y
middle_y_sum o i = spread_adds_up 2 _ _ (omega arith)

-- what flows out along one axis
x_out : Outer → ℕ → ℕ → ℕ → ℤ
x_out o i j k = x_at o (suc i) (j + 2 * k) -ℤ x_at o i (j + 2 * k)

y_out : Outer → ℕ → ℕ → ℕ → ℤ
y_out o i j k = y_at o (suc j) i k -ℤ y_at o j i k

z_out : Outer → ℕ → ℕ → ℕ → ℤ
z_out o i j k = z_at o (suc k) i j -ℤ z_at o k i j

octant_is : (o : Outer) (i j k : ℕ) → octant_out o i j k ≡ x_out o i j k +ℤ y_out o i j k +ℤ z_out o i j k
unfolding x_out y_out z_out
octant_is o i j k = refl

low_octant_00 : (o : Outer) → x_out o 0 0 0 +ℤ y_out o 0 0 0 +ℤ z_out o 0 0 0 ≡ pos 0
unfolding x_out y_out z_out middle_z
low_octant_00 o = omega (arith, ints)

low_octant_01 : (o : Outer) → x_out o 0 1 0 +ℤ y_out o 0 1 0 +ℤ z_out o 0 1 0 ≡ pos 0
unfolding x_out y_out z_out middle_z
low_octant_01 o = omega (arith, ints)

low_octant_10 : (o : Outer) → x_out o 1 0 0 +ℤ y_out o 1 0 0 +ℤ z_out o 1 0 0 ≡ pos 0
unfolding x_out y_out z_out middle_z
low_octant_10 o = omega (arith, ints)

low_octant_11 : (o : Outer) → x_out o 1 1 0 +ℤ y_out o 1 1 0 +ℤ z_out o 1 1 0 ≡ pos 0
unfolding x_out y_out z_out middle_z
low_octant_11 o = omega (arith, ints)

low_quarter_0 : (o : Outer) → x_out o 0 0 1 +ℤ y_out o 0 0 1 +ℤ z_out o 0 0 1 ≡ pos 0
unfolding x_out y_out z_out middle_z
low_quarter_0 o = omega (arith, ints, middle_y_sum o 0)

low_quarter_1 : (o : Outer) → x_out o 1 0 1 +ℤ y_out o 1 0 1 +ℤ z_out o 1 0 1 ≡ pos 0
unfolding x_out y_out z_out middle_z
low_quarter_1 o = omega (arith, ints, middle_y_sum o 1)

low_half : (o : Outer) → x_out o 0 1 1 +ℤ y_out o 0 1 1 +ℤ z_out o 0 1 1 ≡ pos 0
unfolding x_out y_out z_out middle_z
low_half o = omega (arith, ints, middle_y_sum o 0, middle_x_sum o)

all_x : (o : Outer) → sum_below 8 (λ q. x_out o (q % 2) (q / 2 % 2) (q / 4)) ≡ sum_below 4 o.x_high -ℤ sum_below 4 o.x_low
unfolding x_out
all_x o = omega (arith, ints)

all_y : (o : Outer) → sum_below 8 (λ q. y_out o (q % 2) (q / 2 % 2) (q / 4)) ≡ sum_below 4 o.y_high -ℤ sum_below 4 o.y_low
unfolding y_out
all_y o = omega (arith, ints)

all_z : (o : Outer) → sum_below 8 (λ q. z_out o (q % 2) (q / 2 % 2) (q / 4)) ≡ sum_below 4 o.z_high -ℤ sum_below 4 o.z_low
unfolding z_out
all_z o = omega (arith, ints)

all_octants : (o : Outer) → cell_out o ≡ pos 0 → sum_below 8 (λ q. x_out o (q % 2) (q / 2 % 2) (q / 4) +ℤ y_out o (q % 2) (q / 2 % 2) (q / 4) +ℤ z_out o (q % 2) (q / 2 % 2) (q / 4)) ≡ pos 0
all_octants o h =
    let x = λ (q : ℕ). x_out o (q % 2) (q / 2 % 2) (q / 4) in
    let y = λ (q : ℕ). y_out o (q % 2) (q / 2 % 2) (q / 4) in
    let z = λ (q : ℕ). z_out o (q % 2) (q / 2 % 2) (q / 4) in
    sum_below_add 8 (λ q. x q +ℤ y q) z ∙ ap (λ a. a +ℤ sum_below 8 z) (sum_below_add 8 x y)
    ∙ ap₂ (λ a b. a +ℤ b) (ap₂ (λ a b. a +ℤ b) (all_x o) (all_y o)) (all_z o) ∙ h

high_half_from : (o : Outer) → sum_below 8 (λ q. x_out o (q % 2) (q / 2 % 2) (q / 4) +ℤ y_out o (q % 2) (q / 2 % 2) (q / 4) +ℤ z_out o (q % 2) (q / 2 % 2) (q / 4)) ≡ pos 0 → x_out o 1 1 1 +ℤ y_out o 1 1 1 +ℤ z_out o 1 1 1 ≡ pos 0
high_half_from o h = omega (arith, ints, low_octant_00 o, low_octant_10 o, low_octant_01 o, low_octant_11 o, low_quarter_0 o, low_quarter_1 o, low_half o)

high_half : (o : Outer) → cell_out o ≡ pos 0 → x_out o 1 1 1 +ℤ y_out o 1 1 1 +ℤ z_out o 1 1 1 ≡ pos 0
high_half o h = high_half_from o (all_octants o h)

-- each octant balances
pub octants_balance : (o : Outer) → cell_out o ≡ pos 0 → (i j k : ℕ) → i < 2 → j < 2 → k < 2 → octant_out o i j k ≡ pos 0
octants_balance o h zero zero zero p q r = octant_is o 0 0 0 ∙ low_octant_00 o
octants_balance o h (suc zero) zero zero p q r = octant_is o 1 0 0 ∙ low_octant_10 o
octants_balance o h zero (suc zero) zero p q r = octant_is o 0 1 0 ∙ low_octant_01 o
octants_balance o h (suc zero) (suc zero) zero p q r = octant_is o 1 1 0 ∙ low_octant_11 o
octants_balance o h zero zero (suc zero) p q r = octant_is o 0 0 1 ∙ low_quarter_0 o
octants_balance o h (suc zero) zero (suc zero) p q r = octant_is o 1 0 1 ∙ low_quarter_1 o
octants_balance o h zero (suc zero) (suc zero) p q r = octant_is o 0 1 1 ∙ low_half o
octants_balance o h (suc zero) (suc zero) (suc zero) p q r = octant_is o 1 1 1 ∙ high_half o h
octants_balance o h (suc (suc i)) j k p q r = absurd (omega arith)
octants_balance o h i (suc (suc j)) k p q r = absurd (omega arith)
octants_balance o h i j (suc (suc k)) p q r = absurd (omega arith)
