use Rattle.mesh_model.specs.Fields.ArrayPlaces.{AreRowsWritten, edge_extents}
use Rattle.mesh_model.specs.Fields.EdgeSplits.{edge_box}
use Rattle.mesh_model.specs.Fields.FaceSplits.{by_axis}
use Rattle.step_induct.specs.Forces.{flow_of, force_at}
use Rattle.step_induct.proofs.forces.edges.Given as goal

abbrev pub invariant-loop-m : goal.invariant-loop-m
invariant-loop-m l =
    let n = l.size.n in
    let g = l.size.g in
    AreRowsWritten l.m (edge_extents n g l.axis) (edge_box n g l.axis) (force_at n g l.axis (flow_of l.flow) (by_axis l.bx l.by l.bz)) l.initial.out l.out
