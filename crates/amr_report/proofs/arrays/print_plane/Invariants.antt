use Rattle.std.specs.List.{range_with_len}
use Rattle.std.specs.Prelude.{flat_map}
use Rattle.amr_report.specs.Arrays.{row_text}
use Rattle.amr_report.proofs.Printed.{Printed}
use Rattle.amr_report.proofs.arrays.print_plane.Given as goal

abbrev pub invariant-loop-j : goal.invariant-loop-j
invariant-loop-j g l = Printed (g.K.Sink.taken l.fn.sink) (flat_map (row_text (g.V.BlockValues.number l.values) l.shown l.var l.k) (range_with_len 0 l.j)) (g.K.Sink.taken l.sink) (g.K.Sink.faults l.fn.sink) (g.K.Sink.faults l.sink)
