use Rattle.std.proofs.Common.{◌≡◌, ◌≤◌, ◌*◌, length}
use Rattle.amr_report.specs.Arrays.{at_place}
use Rattle.amr_report.proofs.Joined.{row_so_far}
use Rattle.amr_report.proofs.arrays.row_line.Given as goal

abbrev pub invariant-loop-i : goal.invariant-loop-i
invariant-loop-i g l = record {
  so_far : l.line ≡ row_so_far (λ i. at_place (g.V.BlockValues.number l.values) l.shown l.var i l.j l.k) l.i;
  short : length l.line ≤ 21 * l.i;
}
