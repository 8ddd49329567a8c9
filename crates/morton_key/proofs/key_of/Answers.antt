use Rattle.std.proofs.Common.{◌≡◌, ◌∙◌, ap, arith}
use Rattle.amr_num.specs.MortonKey.{low_end, morton, key}
use Rattle.morton_key.specs.Bits.{respaced}
use Rattle.morton_key.proofs.Interleaving.{by_axes}
use Rattle.morton_key.proofs.key_of.Goals as goal

pub returns-clause-value : goal.returns-clause-value
unfolding morton key
returns-clause-value c =
    let b = c.args.b in
    let x : c.spread-x.result ≡ respaced 1 3 13 (low_end b.level b.x) = c.spread-x.ensures.value ∙ ap (respaced 1 3 13) c.beginning.ensures.value in
    let y : c.spread-y.result ≡ respaced 1 3 13 (low_end b.level b.y) = c.spread-y.ensures.value ∙ ap (respaced 1 3 13) c.beginning-2.ensures.value in
    let z : c.spread-z.result ≡ respaced 1 3 13 (low_end b.level b.z) = c.spread-z.ensures.value ∙ ap (respaced 1 3 13) c.beginning-3.ensures.value in
    let place = by_axes 13 (low_end b.level b.x) (low_end b.level b.y) (low_end b.level b.z) in
    omega arith
