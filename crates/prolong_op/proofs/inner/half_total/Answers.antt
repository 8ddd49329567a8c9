use Rattle.std.proofs.Common.{rules, arith, ◌+◌, ◌*◌, ◌^◌}
use Rattle.amr_num.specs.Numbers.{Within}
use Rattle.prolong_op.proofs.Fours.{still}
use Rattle.prolong_op.proofs.inner.half_total.Goals as goal

pub returns-clause-value : goal.returns-clause-value
returns-clause-value c =
    let a = c.outflow.ensures.value 0 (omega arith) in
    let b = c.outflow.ensures.value 2 (omega arith) in
    let d = c.outflow-2.ensures.value 0 (omega arith) in
    let e = c.outflow-2.ensures.value 2 (omega arith) in
    search rules

pub returns-clause-small : goal.returns-clause-small
returns-clause-small c =
    let most = 4 * 2 ^ 40 in
    let x : Within most c.four.result = c.four.ensures.size (2 ^ 40) c.requires.small.x_low in
    let y : Within most c.two.result = c.two.ensures.size (2 ^ 40 + 2 ^ 40) (c.outflow.ensures.size (2 ^ 40) (2 ^ 40) c.requires.small.y_high c.requires.small.y_low) in
    let z : Within most c.two-2.result = c.two-2.ensures.size (2 ^ 40 + 2 ^ 40) (c.outflow-2.ensures.size (2 ^ 40) (2 ^ 40) c.requires.small.z_high c.requires.small.z_low) in
    let all = c.less_two.ensures.size most most most (still most most c.four.result x (omega arith) x) (still most most c.two.result y (omega arith) y) (still most most c.two-2.result z (omega arith) z) in
    still (3 * most) (3 * most) c.less_two.result all (omega arith) all
