use Rattle.std.proofs.Common.{rules, arith, ◌^◌}
use Rattle.prolong_op.proofs.Fours.{four_cases, four_still}
use Rattle.prolong_op.proofs.inner.outflow.Goals as goal

pub returns-clause-value : goal.returns-clause-value
returns-clause-value c = four_cases _ (search rules) (search rules) (search rules) (search rules)

pub returns-clause-size : goal.returns-clause-size
returns-clause-size c m k high low =
    let h = four_still (2 ^ 46) m c.args.high c.requires.high (omega arith) high in
    let l = four_still (2 ^ 46) k c.args.low c.requires.low (omega arith) low in
    let a = c.less.ensures.size m k (h 0 (omega arith)) (l 0 (omega arith)) in
    let b = c.less-2.ensures.size m k (h 1 (omega arith)) (l 1 (omega arith)) in
    let d = c.less-3.ensures.size m k (h 2 (omega arith)) (l 2 (omega arith)) in
    let e = c.less-4.ensures.size m k (h 3 (omega arith)) (l 3 (omega arith)) in
    four_cases _ (search rules) (search rules) (search rules) (search rules)
