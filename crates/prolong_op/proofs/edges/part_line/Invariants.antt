use Rattle.std.proofs.Common.{◌≡◌, ◌<◌, ◌+◌, ◌/◌, ℕ}
use Rattle.amr_num.specs.Numbers.{at}
use Rattle.prolong_op.specs.EdgeSplitting.{edge_given}
use Rattle.prolong_op.proofs.edges.part_line.Given as goal

abbrev pub invariant-loop-t : goal.invariant-loop-t
invariant-loop-t l = (t : ℕ) → t < l.t → at l.out t ≡ edge_given l.split.n l.split.kept l.row.axis t l.row.j l.row.k (at l.parent (l.from + t / 2)) (at l.old t)
