use Rattle.std.proofs.Common.{arith, ◌*◌, ◌^◌}
use Rattle.amr_num.specs.Numbers.{Within, at}
use Rattle.prolong_op.proofs.Fours.{still}
use Rattle.prolong_op.proofs.inner.left_over.Goals as goal

pub returns-clause-small : goal.returns-clause-small
returns-clause-small c =
    let in_x = c.requires.x c.args.j c.requires.places.1 in
    let in_y = c.requires.y c.args.i c.requires.places.2 in
    let in_z = c.requires.z c.args.p c.requires.places.0 in
    let all : Within (63 * 2 ^ 40) c.less_two.result = c.less_two.ensures.size (2 ^ 40) (18 * 2 ^ 40) (44 * 2 ^ 40)
    (still (2 ^ 40) (2 ^ 40) (at c.args.z c.args.p) in_z (omega arith) in_z)
    (still (18 * 2 ^ 40) (18 * 2 ^ 40) (at c.args.x c.args.j) in_x (omega arith) in_x)
    (still (44 * 2 ^ 40) (44 * 2 ^ 40) (at c.args.y c.args.i) in_y (omega arith) in_y) in
    still (63 * 2 ^ 40) (63 * 2 ^ 40) c.less_two.result all (omega arith) all
