-- What is left of a row of a block's cells, from the rows of its faces.
use Rattle.std.proofs.Common.{◌≡◌, ℕ, ◌+◌, ◌<◌, List, ℤ, ◌+ℤ◌, ◌-ℤ◌, ap, ap₂, ◌∙◌, arith}
use Rattle.amr_num.specs.Numbers.{at}
use Rattle.mesh_model.specs.Fields.ArrayPlaces.{Extents, number_at}
use Rattle.step_advect.specs.Applied.{Flows, left_at, left_in}

-- a row of an array of known extents
pub row_of_known : (known e : Extents) (values row : List ℤ) (x y z many : ℕ) → e ≡ known → ((t : ℕ) → t < many → at row t ≡ number_at e values (x + t) y z) →
    (t : ℕ) → t < many → at row t ≡ number_at known values (x + t) y z
row_of_known known e values row x y z many same is t h = is t h ∙ ap (λ a. number_at a values (x + t) y z) same

-- the rows of faces round a row of cells
pub record AreRowsOf (n : ℕ) (f : Flows) (j k : ℕ) (cells x y_low y_high z_low z_high : List ℤ) : Type 0 where
  pub content : (t : ℕ) → t < n → at cells t ≡ f.content t j k
  pub along_x : (t : ℕ) → t < n + 1 → at x t ≡ f.x t j k
  pub below_y : (t : ℕ) → t < n → at y_low t ≡ f.y t j k
  pub above_y : (t : ℕ) → t < n → at y_high t ≡ f.y t (j + 1) k
  pub below_z : (t : ℕ) → t < n → at z_low t ≡ f.z t j k
  pub above_z : (t : ℕ) → t < n → at z_high t ≡ f.z t j (k + 1)

module _ (n : ℕ) (f : Flows) (j k : ℕ) (cells x y_low y_high z_low z_high : List ℤ) (rows : AreRowsOf n f j k cells x y_low y_high z_low z_high) where
  pub rows_left : (t : ℕ) → t < n → left_in cells x y_low y_high z_low z_high t ≡ left_at f t j k
  unfolding left_in
  rows_left t h =
      ap₂ (λ r s. r -ℤ s) (rows.content t h)
      (ap₂ (λ r s. r +ℤ s)
      (ap₂ (λ r s. r +ℤ s) (ap₂ (λ r s. r -ℤ s) (rows.along_x (t + 1) (omega arith)) (rows.along_x t (omega arith))) (ap₂ (λ r s. r -ℤ s) (rows.above_y t h) (rows.below_y t h)))
      (ap₂ (λ r s. r -ℤ s) (rows.above_z t h) (rows.below_z t h)))
