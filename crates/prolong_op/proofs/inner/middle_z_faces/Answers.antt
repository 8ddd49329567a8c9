use Rattle.std.proofs.Common.{rules, arith, ◌*◌, ◌^◌}
use Rattle.prolong_op.proofs.Fours.{four_cases}
use Rattle.prolong_op.proofs.inner.middle_z_faces.Goals as goal

pub left_over-requires-clause-y : goal.left_over-requires-clause-y
left_over-requires-clause-y c = c.outflow-near.ensures.size (43 * 2 ^ 40) (2 ^ 40) c.requires.y c.requires.small.y_low

pub left_over-requires-2-clause-y : goal.left_over-requires-2-clause-y
left_over-requires-2-clause-y c = c.outflow-near.ensures.size (43 * 2 ^ 40) (2 ^ 40) c.requires.y c.requires.small.y_low

pub left_over-requires-3-clause-y : goal.left_over-requires-3-clause-y
left_over-requires-3-clause-y c = c.outflow-far.ensures.size (2 ^ 40) (43 * 2 ^ 40) c.requires.small.y_high c.requires.y

pub left_over-requires-4-clause-y : goal.left_over-requires-4-clause-y
left_over-requires-4-clause-y c = c.outflow-far.ensures.size (2 ^ 40) (43 * 2 ^ 40) c.requires.small.y_high c.requires.y

pub returns-clause-first : goal.returns-clause-first
returns-clause-first c = let y = c.outflow-near.ensures.value 0 (omega arith) in search rules

pub returns-clause-second : goal.returns-clause-second
returns-clause-second c = let y = c.outflow-near.ensures.value 1 (omega arith) in search rules

pub returns-clause-third : goal.returns-clause-third
returns-clause-third c = let y = c.outflow-far.ensures.value 0 (omega arith) in search rules

pub returns-clause-fourth : goal.returns-clause-fourth
returns-clause-fourth c = let y = c.outflow-far.ensures.value 1 (omega arith) in search rules

pub returns-clause-small : goal.returns-clause-small
returns-clause-small c = four_cases _ (search rules) (search rules) (search rules) (search rules)
