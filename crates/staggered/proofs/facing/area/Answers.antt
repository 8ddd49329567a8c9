use Rattle.std.proofs.Common.{◌≡◌, ◌*◌, ◌^◌, ◌%◌, ap, arith, mod-eq_of_lt, to_z, w64, ◌∙◌}
use Rattle.std.proofs.lemmas.Int.{to_z_pos}
use Rattle.staggered.proofs.Uniform.{area_small, four_power}
use Rattle.staggered.proofs.facing.area.Goals as goal

pub returns : goal.returns
returns c =
    let d = c.args.levels in
    let small = area_small d c.requires in
    let one : 1 * 2 ^ (2 * d) ≡ 4 ^ d = omega (arith, four_power d) in
    ap (λ m. to_z w64 (m % 18446744073709551616)) one ∙ ap (to_z w64) (mod-eq_of_lt (omega (arith, small))) ∙ to_z_pos w64 (4 ^ d) (omega (arith, small))
