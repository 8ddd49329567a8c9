use Rattle.std.specs.List.{range_with_len}
use Rattle.std.specs.Prelude.{flat_map}
use Rattle.block_tree.specs.GridOf.{grid_of}
use Rattle.amr_report.specs.Arrays.{leaf_text_of}
use Rattle.amr_report.proofs.Printed.{Printed}
use Rattle.amr_report.proofs.variables.print_leaves.Given as goal

abbrev pub invariant-loop-node : goal.invariant-loop-node
invariant-loop-node g l = Printed (g.K.Sink.taken l.fn.sink) (flat_map (leaf_text_of (g.V.BlockValues.number l.values) l.name (grid_of l.tree) l.group) (range_with_len 0 l.node)) (g.K.Sink.taken l.sink) (g.K.Sink.faults l.fn.sink) (g.K.Sink.faults l.sink)
