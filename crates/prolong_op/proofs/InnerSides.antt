-- The inner rule reads the 24 subfaces alone.
use Rattle.std.proofs.Common.{◌≡◌, ℕ, suc, ◌+◌, ◌*◌, ◌<◌, ℤ, ◌+ℤ◌, ◌-ℤ◌, arith, ap, ap₂, ◌∙◌, List}
use Rattle.amr_num.specs.declared.Axis.TheVariants.{X, Y, Z}
use Rattle.amr_num.specs.Numbers.{at, floor_div}
use Rattle.amr_num.proofs.Parts.{sum_below_same}
use Rattle.mesh_model.specs.Fields.InnerRule.{Outer, middle_x, middle_y, middle_z, x_at, y_at}
use Rattle.mesh_model.specs.Fields.ArrayPlaces.{Box, Extents, IsWritten, place_in}
use Rattle.mesh_model.specs.Fields.Views.{inner_face}
use Rattle.prolong_op.specs.Splitting.{AreSides, four_extents}
use Rattle.prolong_op.proofs.Fours.{spread_same, two_cases}

minus : (a b c d : ℤ) → a ≡ c → b ≡ d → a -ℤ b ≡ c -ℤ d
minus a b c d e f = ap₂ (λ u v. u -ℤ v) e f

module _ (o p : Outer) (same : AreSides o p) where
  pub middle_x_same : (q : ℕ) → q < 4 → middle_x o q ≡ middle_x p q
  unfolding middle_x
  middle_x_same q h =
      spread_same 4 _ _ (λ q. floor_div (o.x_low q +ℤ o.x_high q) 2) (λ q. floor_div (p.x_low q +ℤ p.x_high q) 2)
      (minus _ _ _ _
      (minus _ _ _ _ (sum_below_same 4 o.x_low p.x_low same.x_low)
      (sum_below_same 2 (λ k. o.y_high (2 * k) -ℤ o.y_low (2 * k)) (λ k. p.y_high (2 * k) -ℤ p.y_low (2 * k))
      (λ k l. minus _ _ _ _ (same.y_high (2 * k) (omega arith)) (same.y_low (2 * k) (omega arith)))))
      (sum_below_same 2 (λ j. o.z_high (2 * j) -ℤ o.z_low (2 * j)) (λ j. p.z_high (2 * j) -ℤ p.z_low (2 * j))
      (λ k l. minus _ _ _ _ (same.z_high (2 * k) (omega arith)) (same.z_low (2 * k) (omega arith)))))
      (λ q l. ap₂ (λ u v. floor_div (u +ℤ v) 2) (same.x_low q l) (same.x_high q l)) q h

  x_out : (i : ℕ) → i < 2 → (q : ℕ) → q < 4 → x_at o (suc i) q -ℤ x_at o i q ≡ x_at p (suc i) q -ℤ x_at p i q
  x_out = two_cases (λ i. (q : ℕ) → q < 4 → x_at o (suc i) q -ℤ x_at o i q ≡ x_at p (suc i) q -ℤ x_at p i q)
      (λ q h. minus _ _ _ _ (middle_x_same q h) (same.x_low q h)) (λ q h. minus _ _ _ _ (same.x_high q h) (middle_x_same q h))

  pub middle_y_same : (i : ℕ) → i < 2 → (k : ℕ) → k < 2 → middle_y o i k ≡ middle_y p i k
  unfolding middle_y
  middle_y_same i hi k hk =
      spread_same 2 _ _ (λ k. floor_div (o.y_low (i + 2 * k) +ℤ o.y_high (i + 2 * k)) 2) (λ k. floor_div (p.y_low (i + 2 * k) +ℤ p.y_high (i + 2 * k)) 2)
      (minus _ _ _ _
      (minus _ _ _ _ (sum_below_same 2 (λ k. o.y_low (i + 2 * k)) (λ k. p.y_low (i + 2 * k)) (λ k l. same.y_low (i + 2 * k) (omega arith)))
      (sum_below_same 2 (λ k. x_at o (suc i) (2 * k) -ℤ x_at o i (2 * k)) (λ k. x_at p (suc i) (2 * k) -ℤ x_at p i (2 * k)) (λ k l. x_out i hi (2 * k) (omega arith))))
      (minus _ _ _ _ (same.z_high i (omega arith)) (same.z_low i (omega arith))))
      (λ q l. ap₂ (λ u v. floor_div (u +ℤ v) 2) (same.y_low (i + 2 * q) (omega arith)) (same.y_high (i + 2 * q) (omega arith))) k hk

  y_out : (i : ℕ) → i < 2 → (j : ℕ) → j < 2 → y_at o (suc j) i 0 -ℤ y_at o j i 0 ≡ y_at p (suc j) i 0 -ℤ y_at p j i 0
  y_out i hi = two_cases (λ j. y_at o (suc j) i 0 -ℤ y_at o j i 0 ≡ y_at p (suc j) i 0 -ℤ y_at p j i 0)
      (minus _ _ _ _ (middle_y_same i hi 0 (omega arith)) (same.y_low (i + 2 * 0) (omega arith)))
      (minus _ _ _ _ (same.y_high (i + 2 * 0) (omega arith)) (middle_y_same i hi 0 (omega arith)))

  pub middle_z_same : (i : ℕ) → i < 2 → (j : ℕ) → j < 2 → middle_z o i j ≡ middle_z p i j
  unfolding middle_z
  middle_z_same i hi j hj = minus _ _ _ _ (minus _ _ _ _ (same.z_low (i + 2 * j) (omega arith)) (x_out i hi j (omega arith))) (y_out i hi j hj)

-- a box is written with numbers that are the same
pub written_as : (e : Extents) (b : Box) (wanted meant : ℕ → ℕ → ℕ → ℤ) (old new : List ℤ) →
    ((i j k : ℕ) → i < b.along_x → j < b.along_y → k < b.along_z → wanted i j k ≡ meant i j k) → IsWritten e b wanted old new → IsWritten e b meant old new
written_as e b wanted meant old new same is = record { size = is.size; written = λ i j k hi hj hk. is.written i j k hi hj hk ∙ same i j k hi hj hk; stays = is.stays }

-- the four faces of an axis, by quarter, are what the rule gives
pub on_x : (o : Outer) (xs : List ℤ) → ((q : ℕ) → q < 4 → at xs q ≡ middle_x o q) → (i j k : ℕ) → i < 1 → j < 2 → k < 2 → at xs (place_in (four_extents X) i j k) ≡ inner_face o X i j k
unfolding place_in
on_x o xs is i j k hi hj hk = let q : i + 1 * (j + 2 * k) ≡ j + 2 * k = omega arith in ap (at xs) q ∙ is (j + 2 * k) (omega arith)

pub on_y : (o : Outer) (xs : List ℤ) → ((i k : ℕ) → i < 2 → k < 2 → at xs (i + 2 * k) ≡ middle_y o i k) → (i j k : ℕ) → i < 2 → j < 1 → k < 2 → at xs (place_in (four_extents Y) i j k) ≡ inner_face o Y i j k
unfolding place_in
on_y o xs is i j k hi hj hk = let q : i + 2 * (j + 1 * k) ≡ i + 2 * k = omega arith in ap (at xs) q ∙ is i k hi hk

pub on_z : (o : Outer) (xs : List ℤ) → ((i j : ℕ) → i < 2 → j < 2 → at xs (i + 2 * j) ≡ middle_z o i j) → (i j k : ℕ) → i < 2 → j < 2 → k < 1 → at xs (place_in (four_extents Z) i j k) ≡ inner_face o Z i j k
unfolding place_in
on_z o xs is i j k hi hj hk = let q : i + 2 * (j + 2 * k) ≡ i + 2 * j = omega arith in ap (at xs) q ∙ is i j hi hj
