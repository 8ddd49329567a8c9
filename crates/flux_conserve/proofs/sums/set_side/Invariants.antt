use Rattle.amr_num.specs.Numbers.{at}
use Rattle.flux_conserve.specs.Sums.{AreFacesSet, sum_place}
use Rattle.flux_conserve.proofs.sums.set_side.Given as goal

abbrev pub invariant-loop-m : goal.invariant-loop-m
invariant-loop-m l = AreFacesSet l.m l.faces.n l.faces.g l.faces.axis l.p (λ s t. at l.sums (sum_place l.faces.n s t)) l.initial.values l.values
