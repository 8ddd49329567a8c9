-- A face beyond a periodic side has the flux of the one that names it.
use Rattle.std.proofs.Common.{◌≡◌, ℕ, zero, suc, ◌<◌, Bool, true, false, ◌&&◌, ◌||◌, ℤ, pos, negsuc, refl, sym, ap, ap₂, subst, ◌∙◌, arith, inl, inr, eqb-true, lt-ltb, le-ltb}
use Rattle.std.specs.Prelude.{if◌then◌else◌, ◌==◌}
use Rattle.std.proofs.lemmas.Bool.{and_parts, cases_Bool}
use Rattle.amr_num.specs.declared.Axis.{Axis}
use Rattle.amr_num.specs.declared.Axis.TheVariants.{X, Y, Z}
use Rattle.amr_num.specs.declared.SideKind.{SideKind}
use Rattle.amr_num.specs.declared.SideKind.TheVariants.{Periodic, Outflow, Closed}
use Rattle.amr_num.specs.declared.CellAt.{CellAt}
use Rattle.amr_num.specs.Numbers.{carry}
use Rattle.mesh_model.specs.declared.geometry.Shape.{Shape}
use Rattle.mesh_model.specs.Geometry.Canonical.{canonical_on}
use Rattle.mesh_model.specs.Geometry.Coordinates.{extent, face_of, is_periodic, is_periodic_kind, on, side_index, side_kind, with, wrapped}
use Rattle.mesh_model.specs.Geometry.Limits.{IsShape}
use Rattle.mesh_model.specs.Tree.Kinds.{Grid}
use Rattle.mesh_model.specs.Fields.Advect.{Speeds, above_or, below_or, blown_from, is_closed_at, is_closed_kind, leaf_flux, speed}
use Rattle.mesh_model.specs.Fields.Views.{cell_view}
use Rattle.mesh_model.proofs.GeometryLemmas.OnAxes.{with_own}
use Rattle.mesh_model.proofs.GeometryLemmas.ShapeLimits.{extent_some}

open_kind : (k : SideKind) → is_periodic_kind k ≡ true → is_closed_kind k ≡ false
open_kind Periodic h = refl
open_kind Outflow h = refl
open_kind Closed h = cc

no_closed : (a b c d : Bool) → b ≡ false → d ≡ false → ((a && b) || (c && d)) ≡ false
no_closed true b true d hb hd = rw (hb, hd) refl
no_closed true b false d hb hd = rw hb refl
no_closed false b true d hb hd = hd
no_closed false b false d hb hd = refl

-- no position of a periodic axis is a closed side
seam_open : (s : Shape) (a : Axis) (l p : ℕ) → IsShape s → is_periodic s a ≡ true → is_closed_at s a l p ≡ false
seam_open s a l p shape periodic =
    no_closed (p == 0) _ (p == extent s a l) _ (open_kind (side_kind s.sides (side_index a)) periodic) (open_kind (side_kind s.sides (suc (side_index a))) (sym (shape.both a) ∙ periodic))

-- the coordinate beside a position that a speed comes from
beside : ℤ → Bool → ℕ → ℕ → ℕ
beside (pos n) periodic e p = below_or periodic e p
beside (negsuc n) periodic e p = above_or periodic e p

-- which is the same at both ends of a periodic axis
beside_seam : (m : ℤ) (e : ℕ) → 0 < e → beside m true e e ≡ beside m true e 0
unfolding beside
beside_seam (pos n) zero h = absurd (omega arith)
beside_seam (pos n) (suc q) h = omega arith
beside_seam (negsuc n) e h = rw (le-ltb e e (omega arith), lt-ltb 0 e h) refl

blown_at : (s : Shape) (a : Axis) (m : ℤ) (p : ℕ) (c : CellAt) → blown_from s a m (with a p c) ≡ with a (beside m (is_periodic s a) (extent s a c.level) p) c
unfolding beside
blown_at s X (pos n) p c = refl
blown_at s Y (pos n) p c = refl
blown_at s Z (pos n) p c = refl
blown_at s X (negsuc n) p c = refl
blown_at s Y (negsuc n) p c = refl
blown_at s Z (negsuc n) p c = refl

module _ (g : Grid) (content : CellAt → ℤ) (n : Speeds) where
  flux_to : Axis → CellAt → ℕ → ℤ
  flux_to a c p =
      if is_closed_at g.shape a c.level p then pos 0 else carry (speed n a) c.level (cell_view g content (with a (beside (speed n a) (is_periodic g.shape a) (extent g.shape a c.level) p) c))

  flux_there : (a : Axis) (c : CellAt) (p : ℕ) → leaf_flux g content n (face_of a (with a p c)) ≡ flux_to a c p
  unfolding flux_to
  flux_there X c p = ap (λ d. if is_closed_at g.shape X c.level p then pos 0 else carry n.x c.level (cell_view g content d)) (blown_at g.shape X n.x p c)
  flux_there Y c p = ap (λ d. if is_closed_at g.shape Y c.level p then pos 0 else carry n.y c.level (cell_view g content d)) (blown_at g.shape Y n.y p c)
  flux_there Z c p = ap (λ d. if is_closed_at g.shape Z c.level p then pos 0 else carry n.z c.level (cell_view g content d)) (blown_at g.shape Z n.z p c)

  module _ (a : Axis) (c : CellAt) (shape : IsShape g.shape) where
    abbrev e : ℕ
    e = extent g.shape a c.level

    seam : is_periodic g.shape a ≡ true → flux_to a c e ≡ flux_to a c 0
    unfolding flux_to
    seam periodic =
        ap₂ (λ t p. if t then pos 0 else carry (speed n a) c.level (cell_view g content (with a p c)))
        (seam_open g.shape a c.level e shape periodic ∙ sym (seam_open g.shape a c.level 0 shape periodic))
        (subst (λ t. beside (speed n a) t e e ≡ beside (speed n a) t e 0) (sym periodic) (beside_seam (speed n a) e (extent_some shape a c.level)))

    own : flux_to a c (on a c) ≡ leaf_flux g content n (face_of a c)
    own = sym (flux_there a c (on a c)) ∙ ap (λ d. leaf_flux g content n (face_of a d)) (with_own a c)

    wrapped_same : flux_to a c (on a c) ≡ flux_to a c (wrapped (is_periodic g.shape a) e (on a c))
    unfolding wrapped
    wrapped_same = elim (cases_Bool (is_periodic g.shape a && (on a c == e))) [
      | inl t ↦
          (let both = and_parts (is_periodic g.shape a) (on a c == e) t in
          ap (flux_to a c) (eqb-true (on a c) e both.1) ∙ seam both.0 ∙ ap (λ u. flux_to a c (if u then 0 else on a c)) (sym t))
      | inr f ↦ ap (λ u. flux_to a c (if u then 0 else on a c)) (sym f)
    ]

    -- the canonical name of a face is that of its flux too
    pub flux_named : leaf_flux g content n (face_of a c) ≡ leaf_flux g content n (face_of a (canonical_on g.shape a c))
    flux_named = sym own ∙ wrapped_same ∙ sym (flux_there a c (wrapped (is_periodic g.shape a) e (on a c)))
