-- The donor of a face is the cell that stands for the coordinate upstream.
use Rattle.std.proofs.Common.{◌≡◌, ℕ, zero, suc, ◌-◌, ◌%◌, ◌<◌, ◌≤◌, Bool, true, false, ℤ, pos, negsuc, ◌-ℤ◌, refl, sym, ap, ◌∙◌, arith, inl, inr, mod-eq_of_lt}
use Rattle.std.proofs.Math.Nat.{mod_self}
use Rattle.std.proofs.lemmas.Int.{ints}
use Rattle.std.proofs.lemmas.Bool.{cases_lt, lt-ltb, le-ltb}
use Rattle.amr_num.specs.declared.Axis.{Axis}
use Rattle.amr_num.specs.declared.CellAt.{CellAt}
use Rattle.mesh_model.specs.declared.geometry.Shape.{Shape}
use Rattle.mesh_model.specs.Geometry.Coordinates.{on, with, extent, is_periodic}
use Rattle.mesh_model.specs.Geometry.Outside.{brought_in, cell_in}
use Rattle.mesh_model.specs.Geometry.Limits.{IsShape}
use Rattle.mesh_model.specs.Fields.Advect.{below_or, above_or, blown_from}
use Rattle.mesh_model.specs.Fields.Laws.{upstream}
use Rattle.mesh_model.proofs.GeometryLemmas.ShapeLimits.{extent_some}

one_less : (p : ℕ) → pos (suc p) -ℤ pos 1 ≡ pos p
one_less p = omega (arith, ints)

below_is : (periodic : Bool) (e p : ℕ) → 0 < e → p ≤ e → below_or periodic e p ≡ brought_in periodic e (e - 1) (pos p -ℤ pos 1)
below_is true e zero h le = omega arith
below_is false e zero h le = refl
below_is true e (suc p) h le = sym (ap (brought_in true e (e - 1)) (one_less p) ∙ mod-eq_of_lt (omega arith))
below_is false e (suc p) h le = sym (ap (brought_in false e (e - 1)) (one_less p) ∙ omega arith)

above_is : (periodic : Bool) (e p : ℕ) → 0 < e → p ≤ e → above_or periodic e p ≡ brought_in periodic e (e - 1) (pos p)
above_is true e p h le = elim (cases_lt p e) [
  | inl lt ↦ rw (lt-ltb p e lt) (sym (mod-eq_of_lt lt))
  | inr last ↦ let same : p ≡ e = omega arith in rw (le-ltb p e last) (sym (ap (λ u. u % e) same ∙ mod_self e))
]
above_is false e p h le = elim (cases_lt p e) [
  | inl lt ↦ rw (lt-ltb p e lt) (omega arith)
  | inr last ↦ rw (le-ltb p e last) (omega arith)
]

pub donor_inside : (s : Shape) (a : Axis) (n : ℤ) (c : CellAt) → IsShape s → on a c ≤ extent s a c.level → blown_from s a n c ≡ with a (cell_in s a c.level (upstream n (on a c))) c
donor_inside s a (pos n) c shape le = ap (λ p. with a p c) (below_is (is_periodic s a) (extent s a c.level) (on a c) (extent_some shape a c.level) le)
donor_inside s a (negsuc n) c shape le = ap (λ p. with a p c) (above_is (is_periodic s a) (extent s a c.level) (on a c) (extent_some shape a c.level) le)
