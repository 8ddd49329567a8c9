use Rattle.std.proofs.Common.{◌≤◌, ◌<◌, ◌^◌, arith}
use Rattle.std.proofs.Math.Pow.{pow_mono}
use Rattle.std.proofs.lemmas.Nat.{pow_pos, div_below}
use Rattle.block_tree.proofs.blocks.halved.Goals as goal

pub returns-else-times-lt32 : goal.returns-else-times-lt32
returns-else-times-lt32 c =
    let long : 32 ≤ c.args.times = c.if-times-lt32.false in
    let small : c.args.x < 2 ^ 32 = omega arith in
    let more : 2 ^ 32 ≤ 2 ^ c.args.times = pow_mono {i = 32} {j = c.args.times} long in
    let none = div_below c.args.x (2 ^ c.args.times) 1 (pow_pos c.args.times) (omega arith) in
    omega arith
