use Rattle.std.proofs.Common.{rules}
use Rattle.amr_num.proofs.Spreading.{four_within}
use Rattle.prolong_op.proofs.Fours.{four_cases}
use Rattle.prolong_op.proofs.inner.means.Goals as goal

pub returns-clause-value : goal.returns-clause-value
returns-clause-value c = four_cases _ (search rules) (search rules) (search rules) (search rules)

pub returns-clause-small : goal.returns-clause-small
returns-clause-small c = four_within _ _ _ _ _ (search rules) (search rules) (search rules) (search rules)

pub returns-clause-each : goal.returns-clause-each
returns-clause-each c = four_cases _ (search rules) (search rules) (search rules) (search rules)
