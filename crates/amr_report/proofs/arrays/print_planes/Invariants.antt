use Rattle.std.specs.List.{range_with_len}
use Rattle.std.specs.Prelude.{flat_map}
use Rattle.amr_report.specs.Arrays.{plane_text}
use Rattle.amr_report.proofs.Printed.{Printed}
use Rattle.amr_report.proofs.arrays.print_planes.Given as goal

abbrev pub invariant-loop-k : goal.invariant-loop-k
invariant-loop-k g l = Printed (g.K.Sink.taken l.fn.sink) (flat_map (plane_text (g.V.BlockValues.number l.values) l.shown l.var) (range_with_len 0 l.k)) (g.K.Sink.taken l.sink) (g.K.Sink.faults l.fn.sink) (g.K.Sink.faults l.sink)
