use Rattle.std.proofs.Common.{arith, ◌*◌, ◌^◌}
use Rattle.amr_num.specs.Numbers.{Within}
use Rattle.prolong_op.proofs.Fours.{four_still, still}
use Rattle.prolong_op.proofs.inner.quarter_total.Goals as goal

pub returns-clause-small : goal.returns-clause-small
returns-clause-small c =
    let small = c.requires.small in
    let y : Within (2 * 2 ^ 40) c.two.result = c.two.ensures.size (2 ^ 40) small.y_low in
    let x : Within (36 * 2 ^ 40) c.two-2.result = c.two-2.ensures.size (18 * 2 ^ 40) c.requires.x in
    let high = four_still (2 ^ 40) (2 ^ 40) _ small.z_high (omega arith) small.z_high in
    let low = four_still (2 ^ 40) (2 ^ 40) _ small.z_low (omega arith) small.z_low in
    let z : Within (2 * 2 ^ 40) c.less.result = c.less.ensures.size (2 ^ 40) (2 ^ 40) (high c.args.i (omega (arith, c.requires.half))) (low c.args.i (omega (arith, c.requires.half))) in
    let all : Within (40 * 2 ^ 40) c.less_two.result = c.less_two.ensures.size (2 * 2 ^ 40) (36 * 2 ^ 40) (2 * 2 ^ 40)
    (still (2 * 2 ^ 40) (2 * 2 ^ 40) c.two.result y (omega arith) y) (still (36 * 2 ^ 40) (36 * 2 ^ 40) c.two-2.result x (omega arith) x) (still (2 * 2 ^ 40) (2 * 2 ^ 40) c.less.result z (omega arith) z) in
    still (40 * 2 ^ 40) (40 * 2 ^ 40) c.less_two.result all (omega arith) all
