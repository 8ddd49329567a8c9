use Rattle.std.proofs.Common.{◌≡◌, ◌+ℤ◌, ◌*◌, ◌^◌, ℕ, ℤ, arith, subst, to_z, of_z}
use mir.Syntax.{w128}
use Rattle.std.proofs.lemmas.Int.{ints}
use Rattle.amr_num.specs.Numbers.{Within, sum_below}
use Rattle.mesh_model.specs.Fields.ArrayPlaces.{face_extents, number_at}
use Rattle.step_advect.specs.Applied.{face_on, inner}
use Rattle.step_advect.proofs.Outflows.{more_sum, more_within}
use Rattle.step_advect.proofs.update.side_sum.Goals as goal

pub loop-v-preserved : goal.loop-v-preserved
loop-v-preserved c =
    let faces = inner c.args.g (number_at (face_extents c.args.n c.args.g c.args.axis) c.args.faces.now) in
    let f : ℕ → ℤ = λ v. sum_below c.args.n (λ u. face_on c.args.axis faces c.args.position u v) in
    let sum = to_z w128 c.loop-v.sum-bits in
    let new = to_z w128 (of_z w128 c.add-sum.result) in
    let small : Within (8 * 2 ^ 58) c.line_sum.result = omega arith in
    let made : new ≡ sum +ℤ c.line_sum.result = omega (arith, ints) in
    record {
      value = more_sum c.loop-v.v f sum c.line_sum.result new made c.loop-v.invariant.value c.line_sum.ensures.value;
      size = more_within c.loop-v.v f sum c.line_sum.result new made (8 * 2 ^ 58) c.loop-v.invariant.size small;
    }

pub returns-clause-value : goal.returns-clause-value
returns-clause-value c =
    let faces = inner c.args.g (number_at (face_extents c.args.n c.args.g c.args.axis) c.args.faces.now) in
    let last : c.loop-v.v ≡ c.args.n = omega arith in
    subst (λ m. to_z w128 c.loop-v.sum-bits ≡ sum_below m (λ v. sum_below c.args.n (λ u. face_on c.args.axis faces c.args.position u v))) last c.loop-v.invariant.value
