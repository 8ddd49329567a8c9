use Rattle.std.proofs.Common.{arith, ◌*◌, ◌^◌, ◌∙◌, refl}
use Rattle.amr_num.proofs.Machine.{kept}
use Rattle.prolong_op.specs.Sides.{sides_of}
use Rattle.prolong_op.proofs.Fours.{four_of_all, middle_x_of, still}
use Rattle.prolong_op.proofs.inner.middle_x_faces.Goals as goal

pub returns-clause-value : goal.returns-clause-value
returns-clause-value c =
    middle_x_of (sides_of c.args.outer.now) _ c.means-guides.result c.spread4.result c.spread4.ensures.value
    (kept c.half_total-total.result (12 * 2 ^ 40) c.half_total-total.ensures.small (omega arith) ∙ c.half_total-total.ensures.value) c.means-guides.ensures.value

pub returns-clause-small : goal.returns-clause-small
returns-clause-small c =
    let total = still (12 * 2 ^ 40) (12 * 2 ^ 40) c.half_total-total.result c.half_total-total.ensures.small (omega arith) c.half_total-total.ensures.small in
    four_of_all (17 * 2 ^ 40) c.spread4.result _ c.spread4.ensures.value refl (c.spread4.ensures.size (12 * 2 ^ 40) (2 ^ 40) total c.means-guides.ensures.small)
