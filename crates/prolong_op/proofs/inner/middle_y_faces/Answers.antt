use Rattle.std.proofs.Common.{arith, ◌<◌, ◌≡◌, ◌+◌, ◌*◌, ◌^◌, ◌∙◌, ap, refl, ◌+ℤ◌, List, ℤ, [], ◌∷◌, to_z, of_z, w64}
use Rattle.amr_num.specs.Numbers.{at, floor_div}
use Rattle.amr_num.proofs.Machine.{kept}
use Rattle.amr_num.proofs.Spreading.{two_within}
use Rattle.prolong_op.proofs.Fours.{of_spread, quarter_is, spread_same, still, two_cases, two_of_all}
use Rattle.prolong_op.proofs.inner.middle_y_faces.Goals as goal

pub returns-clause-value : goal.returns-clause-value
returns-clause-value c k h =
    let i = c.args.i in
    let o = c.args.outer.now in
    let near : i < 4 = omega (arith, c.requires.half) in
    let far : i + 2 < 4 = omega (arith, c.requires.half) in
    let first : i ≡ i + 2 * 0 = omega arith in
    let low = kept (at c.means-guides.result i) (2 ^ 40) (c.means-guides.ensures.each i near) (omega arith) ∙ c.means-guides.ensures.value i near
    ∙ ap (λ m. floor_div (at o.y_low m +ℤ at o.y_high m) 2) first in
    let high = kept (at c.means-guides.result (i + 2)) (2 ^ 40) (c.means-guides.ensures.each (i + 2) far) (omega arith) ∙ c.means-guides.ensures.value (i + 2) far in
    let guides : List ℤ = to_z w64 (of_z w64 (at c.means-guides.result i)) ∷ to_z w64 (of_z w64 (at c.means-guides.result (i + 2))) ∷ [] in
    of_spread 2 (to_z w64 (of_z w64 c.quarter_total.result)) guides c.spread2.result c.spread2.ensures.value k h
    ∙ spread_same 2 (to_z w64 (of_z w64 c.quarter_total.result)) _ (at guides) (λ k. floor_div (at o.y_low (i + 2 * k) +ℤ at o.y_high (i + 2 * k)) 2)
    (kept c.quarter_total.result (40 * 2 ^ 40) c.quarter_total.ensures.small (omega arith) ∙ c.quarter_total.ensures.value
    ∙ quarter_is (at o.y_low) (at c.args.x) (at o.z_high) (at o.z_low) i)
    (two_cases _ low high) k h

pub returns-clause-small : goal.returns-clause-small
returns-clause-small c =
    let i = c.args.i in
    let guides = c.means-guides in
    let total = still (40 * 2 ^ 40) (40 * 2 ^ 40) c.quarter_total.result c.quarter_total.ensures.small (omega arith) c.quarter_total.ensures.small in
    let low = guides.ensures.each i (omega (arith, c.requires.half)) in
    let high = guides.ensures.each (i + 2) (omega (arith, c.requires.half)) in
    two_of_all (43 * 2 ^ 40) c.spread2.result _ c.spread2.ensures.value refl (c.spread2.ensures.size (40 * 2 ^ 40) (2 ^ 40) total
    (two_within (2 ^ 40) _ _ (still (2 ^ 40) (2 ^ 40) (at guides.result i) low (omega arith) low) (still (2 ^ 40) (2 ^ 40) (at guides.result (i + 2)) high (omega arith) high)))
