use Rattle.std.proofs.Common.{◌≡◌, ◌<◌, ℕ}
use Rattle.amr_num.specs.Numbers.{at}
use Rattle.step_induct.specs.Forces.{flow_of, force_from}
use Rattle.step_induct.proofs.forces.force_row.Given as goal

abbrev pub invariant-loop-t : goal.invariant-loop-t
invariant-loop-t l = (t : ℕ) → t < l.t → at l.out t ≡ force_from l.n l.axis (flow_of l.flow) (at l.faces_b t) (at l.faces_c t) t l.j l.k
