use Rattle.amr_num.specs.Numbers.{at}
use Rattle.edge_average.specs.EdgeSums.{AreEdgesSet}
use Rattle.edge_average.proofs.lines.set_line.Given as goal

abbrev pub invariant-loop-p : goal.invariant-loop-p
invariant-loop-p l = AreEdgesSet l.p l.n l.g l.line.axis l.line.first l.line.second (λ p. at l.numbers p) l.initial.values l.values
