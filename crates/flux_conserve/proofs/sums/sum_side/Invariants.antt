use Rattle.std.proofs.Common.{ℕ, ◌+◌, ◌/◌, ◌%◌, ◌^◌, ◌<◌}
use Rattle.amr_num.specs.Numbers.{Within, at}
use Rattle.mesh_model.specs.Fields.ArrayPlaces.{IsRowWritten}
use Rattle.flux_conserve.specs.Sums.{four_at}
use Rattle.flux_conserve.proofs.sums.sum_side.Given as goal

abbrev pub invariant-loop-m : goal.invariant-loop-m
invariant-loop-m l = record {
  row : IsRowWritten l.from l.m (λ m. four_at l.faces.n l.faces.g l.faces.axis l.values l.p (m % (l.faces.n / 2)) (m / (l.faces.n / 2))) l.initial.sums l.sums;
  within : (m : ℕ) → m < l.m → Within (2 ^ 58) (at l.sums (l.from + m));
}
