-- The circulation round a face is that round its subfaces, and round a cell it cancels.
use Rattle.std.proofs.Common.{◌≡◌, ℕ, suc, ◌+◌, ◌*◌, Bool, true, false, ℤ, pos, refl, ap₂, ◌∙◌, arith}
use Rattle.std.proofs.lemmas.Int.{ints}
use Rattle.std.proofs.lemmas.Bool.Decides.{nat_tests}
use Rattle.amr_num.specs.declared.Axis.{Axis}
use Rattle.amr_num.specs.declared.Axis.TheVariants.{X, Y, Z}
use Rattle.amr_num.specs.declared.CellAt.{CellAt}
use Rattle.amr_num.specs.declared.FaceAt.{FaceAt}
use Rattle.amr_num.specs.declared.EdgeAt.{EdgeAt}
use Rattle.amr_num.specs.Numbers.{sum_below}
use Rattle.mesh_model.specs.declared.geometry.Shape.{Shape}
use Rattle.mesh_model.specs.Geometry.Coordinates.{sub_face, half_edge, extent, is_periodic, wrapped, after, edge_of, face_numbers}
use Rattle.mesh_model.specs.Tree.Kinds.{Grid}
use Rattle.mesh_model.specs.Fields.Circulation.{circulation, net_flux}
use Rattle.mesh_model.proofs.FieldLemmas.Slots.{extent_double}

wrapped_double : (periodic : Bool) (e p : ℕ) → wrapped periodic (2 * e) (2 * p) ≡ 2 * wrapped periodic e p
unfolding wrapped
wrapped_double false e p = refl
wrapped_double true e p = grind (arith, nat_tests)

wrapped_odd : (periodic : Bool) (e p : ℕ) → wrapped periodic (2 * e) (2 * p + 1) ≡ 2 * p + 1
unfolding wrapped
wrapped_odd false e p = refl
wrapped_odd true e p = grind (arith, nat_tests)

module _ (s : Shape) (a : Axis) (l p : ℕ) where
  pub first : wrapped (is_periodic s a) (extent s a (suc l)) (suc (2 * p + 0)) ≡ 2 * p + 1
  first =
      let odd : suc (2 * p + 0) ≡ 2 * p + 1 = omega arith in
      ap₂ (wrapped (is_periodic s a)) (extent_double s a l) odd ∙ wrapped_odd (is_periodic s a) (extent s a l) p

  pub second : wrapped (is_periodic s a) (extent s a (suc l)) (suc (2 * p + 1)) ≡ 2 * wrapped (is_periodic s a) (extent s a l) (suc p) + 0
  second =
      let even : suc (2 * p + 1) ≡ 2 * suc p = omega arith in
      ap₂ (wrapped (is_periodic s a)) (extent_double s a l) even ∙ wrapped_double (is_periodic s a) (extent s a l) (suc p) ∙ omega arith

-- each edge's number is the sum of those of its halves
abbrev pub Halves : (EdgeAt → ℤ) → Type 0
Halves at = (e : EdgeAt) → at e ≡ sum_below 2 (λ h. at (half_edge e h))

circling_x : (g : Grid) (at : EdgeAt → ℤ) → Halves at → (l x y z : ℕ) → let f : FaceAt = record { axis = X; level = l; x = x; y = y; z = z } in circulation g at f ≡ sum_below 4 (λ q. circulation g at (sub_face f q))
circling_x g at halves l x y z =
    let f : FaceAt = record { axis = X; level = l; x = x; y = y; z = z } in
    let n = face_numbers f in
    rw (first g.shape Y l y, second g.shape Y l y, first g.shape Z l z, second g.shape Z l z)
    (omega (arith, ints, halves (edge_of Y n), halves (edge_of Z n), halves (edge_of Y (after g.shape Z n)), halves (edge_of Z (after g.shape Y n))))

circling_y : (g : Grid) (at : EdgeAt → ℤ) → Halves at → (l x y z : ℕ) → let f : FaceAt = record { axis = Y; level = l; x = x; y = y; z = z } in circulation g at f ≡ sum_below 4 (λ q. circulation g at (sub_face f q))
circling_y g at halves l x y z =
    let f : FaceAt = record { axis = Y; level = l; x = x; y = y; z = z } in
    let n = face_numbers f in
    rw (first g.shape Z l z, second g.shape Z l z, first g.shape X l x, second g.shape X l x)
    (omega (arith, ints, halves (edge_of Z n), halves (edge_of X n), halves (edge_of Z (after g.shape X n)), halves (edge_of X (after g.shape Z n))))

circling_z : (g : Grid) (at : EdgeAt → ℤ) → Halves at → (l x y z : ℕ) → let f : FaceAt = record { axis = Z; level = l; x = x; y = y; z = z } in circulation g at f ≡ sum_below 4 (λ q. circulation g at (sub_face f q))
circling_z g at halves l x y z =
    let f : FaceAt = record { axis = Z; level = l; x = x; y = y; z = z } in
    let n = face_numbers f in
    rw (first g.shape X l x, second g.shape X l x, first g.shape Y l y, second g.shape Y l y)
    (omega (arith, ints, halves (edge_of X n), halves (edge_of Y n), halves (edge_of X (after g.shape Y n)), halves (edge_of Y (after g.shape X n))))

circling_at : (g : Grid) (at : EdgeAt → ℤ) → Halves at → (a : Axis) (l x y z : ℕ) → let f : FaceAt = record { axis = a; level = l; x = x; y = y; z = z } in circulation g at f ≡ sum_below 4 (λ q. circulation g at (sub_face f q))
circling_at g at halves X l x y z = circling_x g at halves l x y z
circling_at g at halves Y l x y z = circling_y g at halves l x y z
circling_at g at halves Z l x y z = circling_z g at halves l x y z

-- the circulation round a face is the sum of those round its subfaces
pub circulation_sum : (g : Grid) (at : EdgeAt → ℤ) → Halves at → (f : FaceAt) → circulation g at f ≡ sum_below 4 (λ q. circulation g at (sub_face f q))
circulation_sum g at halves f = circling_at g at halves f.axis f.level f.x f.y f.z

-- the circulations round the six faces of a cell cancel
pub circulations_cancel : (g : Grid) (at : EdgeAt → ℤ) (c : CellAt) → net_flux g (circulation g at) c ≡ pos 0
circulations_cancel g at c = omega (arith, ints)
