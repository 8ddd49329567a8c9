use Rattle.std.specs.List.{range_with_len}
use Rattle.std.specs.Prelude.{flat_map}
use Rattle.block_tree.specs.GridOf.{grid_of}
use Rattle.mesh_model.specs.Run.Texts.{leaf_text}
use Rattle.amr_report.specs.Nodes.{of_leaf}
use Rattle.amr_report.proofs.Printed.{Printed}
use Rattle.amr_report.proofs.mesh.print_leaves.Given as goal

abbrev pub invariant-loop-node : goal.invariant-loop-node
invariant-loop-node g l = Printed (g.K.Sink.taken l.fn.sink) (flat_map (of_leaf (grid_of l.tree) leaf_text) (range_with_len 0 l.node)) (g.K.Sink.taken l.sink) (g.K.Sink.faults l.fn.sink) (g.K.Sink.faults l.sink)
