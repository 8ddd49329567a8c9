use Rattle.mesh_model.specs.Fields.FinePlaces.{array_octant, fine_summed}
use Rattle.mesh_model.specs.Fields.ArrayPlaces.{AreRowsWritten, extents_of, number_at}
use Rattle.restrict_op.proofs.fine.sum_octant.Given as goal

abbrev pub invariant-loop-m : goal.invariant-loop-m
invariant-loop-m l =
    let o = l.octant in
    let e = extents_of o.n o.g o.var in
    AreRowsWritten l.m e (array_octant o.n o.g o.var o.q) (fine_summed o.g o.var (number_at e l.child)) l.initial.parent l.parent
