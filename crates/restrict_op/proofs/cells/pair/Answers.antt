use Rattle.std.proofs.Common.{rules}
use Rattle.restrict_op.specs.Rows.{pair_in}
use Rattle.restrict_op.proofs.cells.pair.Goals as goal

pub returns-clause-value : goal.returns-clause-value
unfolding pair_in
returns-clause-value c = search rules
