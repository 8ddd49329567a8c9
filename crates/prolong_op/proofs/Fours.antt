-- Four numbers, and what the inner rule makes of them.
use Rattle.std.proofs.Common.{◌≡◌, ℕ, zero, suc, ◌+◌, ◌*◌, ◌^◌, ◌<◌, ℤ, pos, ◌+ℤ◌, ◌-ℤ◌, arith, refl, sym, ap, ap₂, ◌∙◌, subst, List, w64, to_z, of_z, length, All}
use Rattle.std.proofs.lemmas.Int.{ints}
use Rattle.std.proofs.lemmas.List.FromFn.{get_or-map-range_with_len}
use Rattle.amr_num.specs.Numbers.{Within, at, floor_div, part, spread, spread_all, sum_below}
use Rattle.mesh_model.specs.Fields.InnerRule.{Outer, middle_x, middle_y, middle_z, x_at, y_at}
use Rattle.prolong_op.specs.Sides.{FourWithin}
use Rattle.amr_num.proofs.Machine.{kept}
use Rattle.amr_num.proofs.Parts.{sum_below_same}

-- what holds of four
pub four_cases : (P : ℕ → Type 0) → P 0 → P 1 → P 2 → P 3 → (q : ℕ) → q < 4 → P q
four_cases P a b c d zero h = a
four_cases P a b c d (suc zero) h = b
four_cases P a b c d (suc (suc zero)) h = c
four_cases P a b c d (suc (suc (suc zero))) h = d
four_cases P a b c d (suc (suc (suc (suc q)))) h = absurd (omega arith)

pub two_cases : (P : ℕ → Type 0) → P 0 → P 1 → (q : ℕ) → q < 2 → P q
two_cases P a b zero h = a
two_cases P a b (suc zero) h = b
two_cases P a b (suc (suc q)) h = absurd (omega arith)

-- a spread reads the guides below its number
pub spread_same : (k : ℕ) (s t : ℤ) (f g : ℕ → ℤ) → s ≡ t → ((q : ℕ) → q < k → f q ≡ g q) → (q : ℕ) → q < k → spread k s f q ≡ spread k t g q
unfolding spread
spread_same k s t f g e same q h = ap₂ (λ u m. u +ℤ part q m k) (same q h) (ap₂ (λ u v. u -ℤ v) e (sum_below_same k f g same))

-- a number of the machine's range keeps its bound
pub still : (most b : ℕ) (z : ℤ) → Within most z → most < 2 ^ 63 → Within b z → Within b (to_z w64 (of_z w64 z))
still most b z h few is = subst (Within b) (sym (kept z most h few)) is

-- and four of them do
pub four_still : (most b : ℕ) (xs : List ℤ) → FourWithin most xs → most < 2 ^ 63 → FourWithin b xs → (q : ℕ) → q < 4 → Within b (to_z w64 (of_z w64 (at xs q)))
four_still most b xs h few is q l = still most b (at xs q) (h q l) few (is q l)

-- a number of a spread list
pub of_spread : (k : ℕ) (total : ℤ) (guides got : List ℤ) → got ≡ spread_all k total guides → (q : ℕ) → q < k → at got q ≡ spread k total (at guides) q
of_spread k total guides got e q h = ap (λ xs. at xs q) e ∙ get_or-map-range_with_len (spread k total (at guides)) 0 k q q (pos 0) h (omega arith)

-- the middle x faces, by their total and guides
pub middle_x_of : (o : Outer) (total : ℤ) (guides got : List ℤ) → got ≡ spread_all 4 total guides →
    total ≡ (o.x_low 0 +ℤ o.x_low 1 +ℤ o.x_low 2 +ℤ o.x_low 3) -ℤ ((o.y_high 0 -ℤ o.y_low 0) +ℤ (o.y_high 2 -ℤ o.y_low 2)) -ℤ ((o.z_high 0 -ℤ o.z_low 0) +ℤ (o.z_high 2 -ℤ o.z_low 2)) →
    ((q : ℕ) → q < 4 → at guides q ≡ floor_div (o.x_low q +ℤ o.x_high q) 2) → (q : ℕ) → q < 4 → at got q ≡ middle_x o q
unfolding middle_x
middle_x_of o total guides got e is means q h =
    of_spread 4 total guides got e q h ∙ spread_same 4 total _ (at guides) (λ q. floor_div (o.x_low q +ℤ o.x_high q) 2) (is ∙ omega (arith, ints)) means q h

-- all of a list of four are within a bound, and so is each
pub four_of_all : (b : ℕ) (xs ys : List ℤ) → xs ≡ ys → length ys ≡ 4 → All (Within b) xs → FourWithin b xs
four_of_all b xs ys e four all q h = all q (pos 0) (subst (λ m. q < m) (sym (ap length e ∙ four)) h)

pub two_of_all : (b : ℕ) (xs ys : List ℤ) → xs ≡ ys → length ys ≡ 2 → All (Within b) xs → (q : ℕ) → q < 2 → Within b (at xs q)
two_of_all b xs ys e two all q h = all q (pos 0) (subst (λ m. q < m) (sym (ap length e ∙ two)) h)

-- the total of the middle y faces, as the rule has it
pub quarter_is : (low x z_high z_low : ℕ → ℤ) (i : ℕ) →
    low i +ℤ low (i + 2) -ℤ (x 0 +ℤ x 2) -ℤ (z_high i -ℤ z_low i) ≡ sum_below 2 (λ k. low (i + 2 * k)) -ℤ sum_below 2 (λ k. x (2 * k)) -ℤ (z_high i -ℤ z_low i)
quarter_is low x z_high z_low i =
    let first : i ≡ i + 2 * 0 = omega arith in
    ap (λ m. low m +ℤ low (i + 2) -ℤ (x 0 +ℤ x 2) -ℤ (z_high i -ℤ z_low i)) first ∙ omega (arith, ints)

-- the middle y faces of an x half, by what flows out of it on x
pub middle_y_of : (o : Outer) (i : ℕ) (x : ℕ → ℤ) → ((q : ℕ) → q < 4 → x q ≡ x_at o (suc i) q -ℤ x_at o i q) → (k : ℕ) → k < 2 →
    spread 2 (sum_below 2 (λ k. o.y_low (i + 2 * k)) -ℤ sum_below 2 (λ k. x (2 * k)) -ℤ (o.z_high i -ℤ o.z_low i)) (λ k. floor_div (o.y_low (i + 2 * k) +ℤ o.y_high (i + 2 * k)) 2) k
    ≡ middle_y o i k
unfolding middle_y
middle_y_of o i x is k h =
    spread_same 2 _ _ (λ k. floor_div (o.y_low (i + 2 * k) +ℤ o.y_high (i + 2 * k)) 2) (λ k. floor_div (o.y_low (i + 2 * k) +ℤ o.y_high (i + 2 * k)) 2)
    (ap (λ s. sum_below 2 (λ k. o.y_low (i + 2 * k)) -ℤ s -ℤ (o.z_high i -ℤ o.z_low i))
    (sum_below_same 2 (λ k. x (2 * k)) (λ k. x_at o (suc i) (2 * k) -ℤ x_at o i (2 * k)) (λ k l. is (2 * k) (omega arith))))
    (λ q l. refl) k h

-- a middle z face, by what flows out of the octant below it on x and on y
pub middle_z_of : (o : Outer) (i j : ℕ) (x y got : ℤ) → got ≡ o.z_low (i + 2 * j) -ℤ x -ℤ y → x ≡ x_at o (suc i) j -ℤ x_at o i j → y ≡ y_at o (suc j) i 0 -ℤ y_at o j i 0 → got ≡ middle_z o i j
unfolding middle_z
middle_z_of o i j x y got e p r = e ∙ ap₂ (λ u v. o.z_low (i + 2 * j) -ℤ u -ℤ v) p r

-- what holds of two halves on two axes
pub pair_cases : (P : ℕ → ℕ → Type 0) → P 0 0 → P 0 1 → P 1 0 → P 1 1 → (i j : ℕ) → i < 2 → j < 2 → P i j
pair_cases P a b c d i j hi hj = two_cases (λ i. P i j) (two_cases (λ j. P 0 j) a b j hj) (two_cases (λ j. P 1 j) c d j hj) i hi
