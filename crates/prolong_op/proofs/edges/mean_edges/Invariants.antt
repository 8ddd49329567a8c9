use Rattle.mesh_model.specs.Fields.ArrayPlaces.{AreRowsWritten, edge_extents, number_at}
use Rattle.mesh_model.specs.Fields.EdgeSplits.{edge_box}
use Rattle.prolong_op.specs.EdgeSplitting.{mean_or_old}
use Rattle.prolong_op.proofs.edges.mean_edges.Given as goal

abbrev pub invariant-loop-m : goal.invariant-loop-m
invariant-loop-m l =
    let s = l.split in
    let e = edge_extents s.n s.g l.axis in
    AreRowsWritten l.m e (edge_box s.n s.g l.axis) (mean_or_old s.n s.g s.kept l.axis (number_at e l.initial.child)) l.initial.child l.child
