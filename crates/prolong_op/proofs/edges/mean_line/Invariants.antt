use Rattle.std.proofs.Common.{◌≡◌, ◌<◌, ℕ}
use Rattle.amr_num.specs.Numbers.{at}
use Rattle.mesh_model.specs.Fields.ArrayPlaces.{edge_extents, number_at}
use Rattle.prolong_op.specs.EdgeSplitting.{mean_or_old}
use Rattle.prolong_op.proofs.edges.mean_line.Given as goal

abbrev pub invariant-loop-t : goal.invariant-loop-t
invariant-loop-t l =
    let s = l.split in
    (t : ℕ) → t < l.t → at l.out t ≡ mean_or_old s.n s.g s.kept l.row.axis (number_at (edge_extents s.n s.g l.row.axis) l.values) t l.row.j l.row.k
