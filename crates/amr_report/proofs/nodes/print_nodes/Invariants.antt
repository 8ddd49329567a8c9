use Rattle.std.specs.List.{range_with_len}
use Rattle.std.specs.Prelude.{flat_map}
use Rattle.block_tree.specs.GridOf.{grid_of}
use Rattle.amr_report.specs.Nodes.{node_line}
use Rattle.amr_report.proofs.Printed.{Printed}
use Rattle.amr_report.proofs.nodes.print_nodes.Given as goal

abbrev pub invariant-loop-node : goal.invariant-loop-node
invariant-loop-node g l = Printed (g.K.Sink.taken l.fn.sink) (flat_map (node_line (grid_of l.tree)) (range_with_len 0 l.node)) (g.K.Sink.taken l.sink) (g.K.Sink.faults l.fn.sink) (g.K.Sink.faults l.sink)
