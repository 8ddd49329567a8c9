use Rattle.std.proofs.Common.{◌≡◌, ◌*◌, ◌^◌}
use Rattle.amr_num.specs.Numbers.{Within, sum_below}
use Rattle.mesh_model.specs.Fields.ArrayPlaces.{face_extents, number_at}
use Rattle.step_advect.specs.Applied.{face_on, inner}
use Rattle.step_advect.proofs.update.side_sum.Given as goal

abbrev pub invariant-loop-v : goal.invariant-loop-v
invariant-loop-v l = record {
  value : l.sum ≡ sum_below l.v (λ v. sum_below l.n (λ u. face_on l.axis (inner l.g (number_at (face_extents l.n l.g l.axis) l.faces)) l.position u v));
  size : Within (l.v * (8 * 2 ^ 58)) l.sum;
}
