use Rattle.std.specs.Prelude.{flat_map, take}
use Rattle.amr_report.specs.Arrays.{axes_of, named_array}
use Rattle.amr_report.proofs.Printed.{Printed}
use Rattle.amr_report.proofs.arrays.print_group.Given as goal

abbrev pub invariant-loop-axis : goal.invariant-loop-axis
invariant-loop-axis g l = Printed (g.K.Sink.taken l.fn.sink) (flat_map (named_array (g.V.BlockValues.number l.values) l.name l.shown l.group) (take l.axis-index (axes_of l.group))) (g.K.Sink.taken l.sink) (g.K.Sink.faults l.fn.sink) (g.K.Sink.faults l.sink)
