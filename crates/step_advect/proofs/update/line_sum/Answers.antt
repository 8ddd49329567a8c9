use Rattle.std.proofs.Common.{◌≡◌, ◌+ℤ◌, ◌^◌, ℕ, ℤ, arith, to_z, of_z}
use mir.Syntax.{w128}
use Rattle.std.proofs.lemmas.Int.{ints}
use Rattle.mesh_model.specs.Fields.ArrayPlaces.{face_extents, number_at}
use Rattle.step_advect.specs.Applied.{face_on, inner}
use Rattle.step_advect.proofs.Outflows.{more_sum, more_within}
use Rattle.step_advect.proofs.update.line_sum.Goals as goal

pub loop-u-preserved : goal.loop-u-preserved
loop-u-preserved c =
    let faces = inner c.args.g (number_at (face_extents c.args.n c.args.g c.args.axis) c.args.faces.now) in
    let f : ℕ → ℤ = λ u. face_on c.args.axis faces c.args.position u c.args.v in
    let sum = to_z w128 c.loop-u.sum-bits in
    let new = to_z w128 (of_z w128 c.add-sum.result) in
    let made : new ≡ sum +ℤ c.face_on.result = omega (arith, ints) in
    record {
      value = more_sum c.loop-u.u f sum c.face_on.result new made c.loop-u.invariant.value c.face_on.ensures.value;
      size = more_within c.loop-u.u f sum c.face_on.result new made (2 ^ 58) c.loop-u.invariant.size c.face_on.ensures.size;
    }
