use Rattle.std.proofs.Common.{rules}
use Rattle.restrict_op.proofs.fine.sum_row.Goals as goal

pub sum_at-requires-clause-inside : goal.sum_at-requires-clause-inside
sum_at-requires-clause-inside c q h = c.requires.inside c.loop-t.t q (search rules) h

pub sum_at-requires-clause-small : goal.sum_at-requires-clause-small
sum_at-requires-clause-small c = c.requires.small c.loop-t.t (search rules)
