use Rattle.std.proofs.Common.{◌≡◌, ◌*◌, ◌^◌}
use Rattle.amr_num.specs.Numbers.{Within, sum_below}
use Rattle.mesh_model.specs.Fields.ArrayPlaces.{face_extents, number_at}
use Rattle.step_advect.specs.Applied.{face_on, inner}
use Rattle.step_advect.proofs.update.line_sum.Given as goal

abbrev pub invariant-loop-u : goal.invariant-loop-u
invariant-loop-u l = record {
  value : l.sum ≡ sum_below l.u (λ u. face_on l.axis (inner l.g (number_at (face_extents l.n l.g l.axis) l.faces)) l.position u l.v);
  size : Within (l.u * 2 ^ 58) l.sum;
}
