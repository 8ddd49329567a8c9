use Rattle.std.proofs.Common.{ℕ, ◌+◌, ◌^◌, ◌<◌}
use Rattle.amr_num.specs.Numbers.{Within, at}
use Rattle.mesh_model.specs.Fields.ArrayPlaces.{IsRowWritten}
use Rattle.edge_average.specs.EdgeSums.{pair_at}
use Rattle.edge_average.proofs.lines.sum_line.Given as goal

abbrev pub invariant-loop-m : goal.invariant-loop-m
invariant-loop-m l = record {
  row : IsRowWritten l.from l.m (λ m. pair_at l.n l.g l.line.axis l.values m l.line.first l.line.second) l.initial.sums l.sums;
  within : (m : ℕ) → m < l.m → Within (2 ^ 58) (at l.sums (l.from + m));
}
