use Rattle.std.proofs.Common.{◌≡◌, ℕ, ◌<◌}
use Rattle.amr_num.specs.Numbers.{at}
use Rattle.step_advect.specs.Fluxed.{flow_of, flux_from}
use Rattle.step_advect.proofs.fluxes.flux_donors.Given as goal

abbrev pub invariant-loop-t : goal.invariant-loop-t
invariant-loop-t l = (t : ℕ) → t < l.t → at l.out t ≡ flux_from l.n l.axis (flow_of l.flow) (at l.donors t) t l.j l.k
