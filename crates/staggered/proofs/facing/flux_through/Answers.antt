use Rattle.std.proofs.Common.{◌≡◌, ◌^◌, ◌*ℤ◌, ap₂, arith, of_z, pos, subst, sym, to_z, w64, ◌∙◌, FitsSigned}
use Rattle.std.proofs.lemmas.Int.{fits_signed_from_abs}
use Rattle.amr_num.specs.Numbers.{Within}
use Rattle.amr_num.proofs.Machine.{kept}
use Rattle.staggered.proofs.Uniform.{area_small, flux_small}
use Rattle.staggered.proofs.facing.flux_through.Goals as goal

pub overflow_mul-result : goal.overflow_mul-result
overflow_mul-result c =
    let d = c.args.levels in
    let a = c.args.flux in
    let area : to_z w64 (of_z w64 c.area.result) ≡ pos (4 ^ d) =
    kept c.area.result (2 ^ 20) (subst (Within (2 ^ 20)) (sym c.area.ensures) (area_small d c.requires.levels)) (omega arith) ∙ c.area.ensures in
    let same : to_z w64 (of_z w64 a) *ℤ to_z w64 (of_z w64 c.area.result) ≡ a *ℤ pos (4 ^ d) = ap₂ (λ x y. x *ℤ y) (kept a (2 ^ 40) c.requires.flux (omega arith)) area in
    let small = flux_small a d c.requires.flux c.requires.levels in
    subst (FitsSigned w64) (sym same) (fits_signed_from_abs w64 (a *ℤ pos (4 ^ d)) (omega (arith, small)))

pub returns-clause-value : goal.returns-clause-value
returns-clause-value c =
    let d = c.args.levels in
    let a = c.args.flux in
    let area : to_z w64 (of_z w64 c.area.result) ≡ pos (4 ^ d) =
    kept c.area.result (2 ^ 20) (subst (Within (2 ^ 20)) (sym c.area.ensures) (area_small d c.requires.levels)) (omega arith) ∙ c.area.ensures in
    ap₂ (λ x y. to_z w64 (of_z w64 (x *ℤ y))) (kept a (2 ^ 40) c.requires.flux (omega arith)) area
    ∙ kept (a *ℤ pos (4 ^ d)) (2 ^ 60) (flux_small a d c.requires.flux c.requires.levels) (omega arith)

pub returns-clause-small : goal.returns-clause-small
returns-clause-small c = subst (Within (2 ^ 60)) (sym (returns-clause-value c)) (flux_small c.args.flux c.args.levels c.requires.flux c.requires.levels)
