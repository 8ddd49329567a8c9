use Rattle.std.proofs.Common.{◌*◌, ◌-◌, ◌%◌, ◌^◌, ◌<◌, ◌∙◌, ap, arith, subst, sym}
use Rattle.amr_num.specs.MortonKey.{low_end}
use Rattle.morton_key.proofs.Placing.{low_few}
use Rattle.morton_key.proofs.beginning.Goals as goal

pub returns-clause-value : goal.returns-clause-value
unfolding low_end
returns-clause-value c =
    let few : c.args.x * 2 ^ (10 - c.args.level) < 2 ^ 13 = low_few c.args.level c.args.x c.requires.level c.requires.place in
    ap (λ u. u * 2 ^ (10 - c.args.level) % 2 ^ 64) c.from.ensures ∙ omega arith

pub returns-clause-size : goal.returns-clause-size
returns-clause-size c = subst (λ u. u < 2 ^ 13) (sym (returns-clause-value c)) (low_few c.args.level c.args.x c.requires.level c.requires.place)
