use Rattle.mesh_model.specs.Fields.ArrayPlaces.{AreRowsWritten, edge_extents}
use Rattle.mesh_model.specs.Fields.EdgeSplits.{edge_box}
use Rattle.staggered.specs.EdgeSetting.{edges_set}
use Rattle.staggered.proofs.edge_setting.set_rows.Given as goal

abbrev pub invariant-loop-m : goal.invariant-loop-m
invariant-loop-m l =
    let n = l.array.n in
    let g = l.array.g in
    let a = l.target.edge.axis in
    AreRowsWritten l.m (edge_extents n g a) (edge_box n g a) (edges_set n g l.shape a l.array.block l.target.edge l.target.value l.initial.values) l.initial.values l.values
