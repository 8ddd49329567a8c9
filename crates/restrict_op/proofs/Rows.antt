-- Rows of a child, by which an octant of its parent is summed.
use Rattle.std.proofs.Common.{◌≡◌, ℕ, ◌+◌, ◌*◌, ◌/◌, ◌<◌, List, ℤ, ◌+ℤ◌, pos, ap, ap₂, ◌∙◌, arith}
use Rattle.std.proofs.lemmas.Int.{ints}
use Rattle.amr_num.specs.Numbers.{at}
use Rattle.mesh_model.specs.Fields.Octants.{eight, summed}
use Rattle.mesh_model.specs.Fields.ArrayPlaces.{IsSize}
use Rattle.mesh_model.proofs.GeometryLemmas.Halves.{pair_inside}
use Rattle.restrict_op.specs.Rows.{eight_in, pair_in}

-- numbers added two by two, and one after the other
two_by_two : (a b c d e f g h : ℤ) →
    (((a +ℤ b) +ℤ (c +ℤ d)) +ℤ ((e +ℤ f) +ℤ (g +ℤ h))) ≡ (((((((pos 0 +ℤ a) +ℤ b) +ℤ c) +ℤ d) +ℤ e) +ℤ f) +ℤ g) +ℤ h
two_by_two a b c d e f g h = omega (arith, ints)

-- a row has the numbers from a place on
pair_is : (row : List ℤ) (numbers : ℕ → ℤ) (x t : ℕ) → ((u : ℕ) → u < 2 → at row (2 * t + u) ≡ numbers (x + u)) → pair_in row t ≡ numbers (x + 0) +ℤ numbers (x + 1)
unfolding pair_in
pair_is row numbers x t is =
    let first : 2 * t ≡ 2 * t + 0 = omega arith in
    ap₂ (λ u v. u +ℤ v) (ap (at row) first ∙ is 0 (omega arith)) (is 1 (omega arith))

-- four rows make the sums of eight
pub rows_make : (numbers : ℕ → ℕ → ℕ → ℤ) (a b c d : List ℤ) (x y z t : ℕ) →
    ((u : ℕ) → u < 2 → at a (2 * t + u) ≡ numbers (x + u) (y + 0) (z + 0)) → ((u : ℕ) → u < 2 → at b (2 * t + u) ≡ numbers (x + u) (y + 1) (z + 0)) →
    ((u : ℕ) → u < 2 → at c (2 * t + u) ≡ numbers (x + u) (y + 0) (z + 1)) → ((u : ℕ) → u < 2 → at d (2 * t + u) ≡ numbers (x + u) (y + 1) (z + 1)) →
    eight_in a b c d t ≡ eight numbers x y z
unfolding eight
rows_make numbers a b c d x y z t ha hb hc hd =
    ap₂ (λ u v. u +ℤ v)
    (ap₂ (λ u v. u +ℤ v) (pair_is a (λ i. numbers i (y + 0) (z + 0)) x t ha) (pair_is b (λ i. numbers i (y + 1) (z + 0)) x t hb))
    (ap₂ (λ u v. u +ℤ v) (pair_is c (λ i. numbers i (y + 0) (z + 1)) x t hc) (pair_is d (λ i. numbers i (y + 1) (z + 1)) x t hd))
    ∙ two_by_two (numbers (x + 0) (y + 0) (z + 0)) (numbers (x + 1) (y + 0) (z + 0)) (numbers (x + 0) (y + 1) (z + 0)) (numbers (x + 1) (y + 1) (z + 0))
    (numbers (x + 0) (y + 0) (z + 1)) (numbers (x + 1) (y + 0) (z + 1)) (numbers (x + 0) (y + 1) (z + 1)) (numbers (x + 1) (y + 1) (z + 1))

-- and four rows of a block's cells make the sums for its parent
module _ (n g : ℕ) (size : IsSize n g) (numbers : ℕ → ℕ → ℕ → ℤ) (j k t : ℕ) (within : t < n / 2) where
  row_at : (row : List ℤ) (v w y z : ℕ) → ((i : ℕ) → i < n → at row i ≡ numbers (g + i) (g + y) (g + z)) → g + y ≡ g + 2 * j + v → g + z ≡ g + 2 * k + w →
      (u : ℕ) → u < 2 → at row (2 * t + u) ≡ numbers (g + 2 * t + u) (g + 2 * j + v) (g + 2 * k + w)
  row_at row v w y z is ey ez u h =
      is (2 * t + u) (pair_inside n t u size.cells within h) ∙ ap (λ i. numbers i (g + y) (g + z)) (omega arith) ∙ ap₂ (λ a b. numbers (g + 2 * t + u) a b) ey ez

  pub rows_sum : (a b c d : List ℤ) → ((i : ℕ) → i < n → at a i ≡ numbers (g + i) (g + 2 * j) (g + 2 * k)) → ((i : ℕ) → i < n → at b i ≡ numbers (g + i) (g + (2 * j + 1)) (g + 2 * k)) →
      ((i : ℕ) → i < n → at c i ≡ numbers (g + i) (g + 2 * j) (g + (2 * k + 1))) → ((i : ℕ) → i < n → at d i ≡ numbers (g + i) (g + (2 * j + 1)) (g + (2 * k + 1))) →
      eight_in a b c d t ≡ summed g numbers t j k
  rows_sum a b c d ha hb hc hd =
      rows_make numbers a b c d (g + 2 * t) (g + 2 * j) (g + 2 * k) t (row_at a 0 0 (2 * j) (2 * k) ha (omega arith) (omega arith))
      (row_at b 1 0 (2 * j + 1) (2 * k) hb (omega arith) (omega arith)) (row_at c 0 1 (2 * j) (2 * k + 1) hc (omega arith) (omega arith))
      (row_at d 1 1 (2 * j + 1) (2 * k + 1) hd (omega arith) (omega arith))
