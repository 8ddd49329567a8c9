use Rattle.std.proofs.Common.{◌≡◌, ℕ, ◌*◌, ◌-◌, ◌^◌, ◌≤◌, ◌%◌, ◌∙◌, ap, arith, mod-eq_of_lt}
use Rattle.std.proofs.lemmas.Nat.{mul-le}
use Rattle.std.proofs.Math.Pow.{pow_mono}
use Rattle.mesh_model.specs.Geometry.Touch.{low_end}
use Rattle.amr_engine.proofs.region.begin_of.Goals as goal

shifted : (wide at level : ℕ) → wide ≡ at → at ≤ 2 ^ 20 → wide * 2 ^ (10 - level) % 18446744073709551616 ≡ at * 2 ^ (10 - level)
shifted wide at level same few =
    let unit : 2 ^ (10 - level) ≤ 2 ^ 10 = pow_mono {i = 10 - level} {j = 10} (omega arith) in
    let all : at * 2 ^ (10 - level) ≤ 2 ^ 20 * 2 ^ 10 = mul-le at (2 ^ (10 - level)) (2 ^ 20) (2 ^ 10) few unit in
    ap (λ w. w * 2 ^ (10 - level) % 18446744073709551616) same ∙ mod-eq_of_lt (omega arith)

pub returns : goal.returns
unfolding low_end
returns c = shifted c.from.result c.args.at c.args.level (omega arith) c.requires.at
