-- What flows out of a cell is what flows out of its sub-cells, where each side's face has the sum of its subfaces.
use Rattle.std.proofs.Common.{◌≡◌, ℕ, ℤ, ◌+ℤ◌, ◌-ℤ◌, sym, ap, ap₂, ◌∙◌, arith}
use Rattle.std.proofs.lemmas.Int.{ints}
use Rattle.amr_num.specs.declared.Axis.{Axis}
use Rattle.amr_num.specs.declared.Axis.TheVariants.{X, Y, Z}
use Rattle.amr_num.specs.declared.CellAt.{CellAt}
use Rattle.amr_num.specs.declared.FaceAt.{FaceAt}
use Rattle.amr_num.specs.Numbers.{sum_below}
use Rattle.amr_num.proofs.Parts.{sum_below_add}
use Rattle.mesh_model.specs.Geometry.Coordinates.{sub_cell, sub_face, after, face_of}
use Rattle.mesh_model.specs.Tree.Kinds.{Grid}
use Rattle.mesh_model.specs.Fields.Circulation.{net_flux}
use Rattle.mesh_model.proofs.FieldLemmas.Circling.{first, second}

additive_x : (g : Grid) (at : FaceAt → ℤ) (c : CellAt) → at (face_of X c) ≡ sum_below 4 (λ r. at (sub_face (face_of X c) r)) → at (face_of X (after g.shape X c)) ≡ sum_below 4 (λ r. at (sub_face (face_of X (after g.shape X c)) r)) → sum_below 8 (λ q. at (face_of X (after g.shape X (sub_cell c q))) -ℤ at (face_of X (sub_cell c q))) ≡ at (face_of X (after g.shape X c)) -ℤ at (face_of X c)
additive_x g at c low high = rw (first g.shape X c.level c.x, second g.shape X c.level c.x) (omega (arith, ints, low, high))

additive_y : (g : Grid) (at : FaceAt → ℤ) (c : CellAt) → at (face_of Y c) ≡ sum_below 4 (λ r. at (sub_face (face_of Y c) r)) → at (face_of Y (after g.shape Y c)) ≡ sum_below 4 (λ r. at (sub_face (face_of Y (after g.shape Y c)) r)) → sum_below 8 (λ q. at (face_of Y (after g.shape Y (sub_cell c q))) -ℤ at (face_of Y (sub_cell c q))) ≡ at (face_of Y (after g.shape Y c)) -ℤ at (face_of Y c)
additive_y g at c low high = rw (first g.shape Y c.level c.y, second g.shape Y c.level c.y) (omega (arith, ints, low, high))

additive_z : (g : Grid) (at : FaceAt → ℤ) (c : CellAt) → at (face_of Z c) ≡ sum_below 4 (λ r. at (sub_face (face_of Z c) r)) → at (face_of Z (after g.shape Z c)) ≡ sum_below 4 (λ r. at (sub_face (face_of Z (after g.shape Z c)) r)) → sum_below 8 (λ q. at (face_of Z (after g.shape Z (sub_cell c q))) -ℤ at (face_of Z (sub_cell c q))) ≡ at (face_of Z (after g.shape Z c)) -ℤ at (face_of Z c)
additive_z g at c low high = rw (first g.shape Z c.level c.z, second g.shape Z c.level c.z) (omega (arith, ints, low, high))

-- on each side the face has the sum of its subfaces
pub record Summed (g : Grid) (at : FaceAt → ℤ) (c : CellAt) : Type 0 where
  pub low : (a : Axis) → at (face_of a c) ≡ sum_below 4 (λ r. at (sub_face (face_of a c) r))
  pub high : (a : Axis) → at (face_of a (after g.shape a c)) ≡ sum_below 4 (λ r. at (sub_face (face_of a (after g.shape a c)) r))

pub net_flux_sum : (g : Grid) (at : FaceAt → ℤ) (c : CellAt) → Summed g at c → net_flux g at c ≡ sum_below 8 (λ q. net_flux g at (sub_cell c q))
net_flux_sum g at c h =
    let x = λ (q : ℕ). at (face_of X (after g.shape X (sub_cell c q))) -ℤ at (face_of X (sub_cell c q)) in
    let y = λ (q : ℕ). at (face_of Y (after g.shape Y (sub_cell c q))) -ℤ at (face_of Y (sub_cell c q)) in
    let z = λ (q : ℕ). at (face_of Z (after g.shape Z (sub_cell c q))) -ℤ at (face_of Z (sub_cell c q)) in
    sym (sum_below_add 8 (λ q. x q +ℤ y q) z ∙ ap (λ a. a +ℤ sum_below 8 z) (sum_below_add 8 x y)
    ∙ ap₂ (λ a b. a +ℤ b) (ap₂ (λ a b. a +ℤ b) (additive_x g at c (h.low X) (h.high X)) (additive_y g at c (h.low Y) (h.high Y))) (additive_z g at c (h.low Z) (h.high Z)))
