use Rattle.std.proofs.Common.{◌+◌, ◌*◌, ◌^◌, pos, ◌-ℤ◌, ◌≡◌, arith, ◌∙◌, [], ◌∷◌}
use Rattle.amr_num.specs.Numbers.{Within, at, sum_below}
use Rattle.amr_num.proofs.Spreading.{number_of, number_size, less_two, less_size, two_missed, two_within}
use Rattle.amr_num.proofs.spread2.Goals as goal

pub returns-clause-value : goal.returns-clause-value
returns-clause-value c =
    let g0 : Within (2 ^ 56) (at c.args.guides 0) = c.requires.guides 0 (pos 0) (omega arith) in
    let g1 : Within (2 ^ 56) (at c.args.guides 1) = c.requires.guides 1 (pos 0) (omega arith) in
    let total : Within (2 ^ 56) c.args.total = c.requires.total in
    let few : Within (5 * 2 ^ 56) c.without-missed.result = let size = less_size c.args.total c.without-missed.result (2 ^ 56) total (omega arith) c.without-missed.ensures.size in omega arith in
    let is : c.without-missed.result ≡ c.args.total -ℤ sum_below 2 (at c.args.guides) = less_two c.args.total (at c.args.guides 0) (at c.args.guides 1) c.without-missed.result (omega arith) g0 g1 c.without-missed.ensures.value ∙ two_missed c.args.total c.args.guides in
    let n0 = number_of 2 c.args.total c.args.guides 0 c.corrected.result c.without-missed.result g0 is few c.corrected.ensures.size c.corrected.ensures.value in
    let n1 = number_of 2 c.args.total c.args.guides 1 c.corrected-2.result c.without-missed.result g1 is few c.corrected-2.ensures.size c.corrected-2.ensures.value in
    (λ i. n0 i ∷ n1 i ∷ [])

pub returns-clause-size : goal.returns-clause-size
returns-clause-size c most each small guides =
    let g0 : Within (2 ^ 56) (at c.args.guides 0) = c.requires.guides 0 (pos 0) (omega arith) in
    let g1 : Within (2 ^ 56) (at c.args.guides 1) = c.requires.guides 1 (pos 0) (omega arith) in
    let total : Within (2 ^ 56) c.args.total = c.requires.total in
    let few : Within (5 * 2 ^ 56) c.without-missed.result = let size = less_size c.args.total c.without-missed.result (2 ^ 56) total (omega arith) c.without-missed.ensures.size in omega arith in
    let is : c.without-missed.result ≡ c.args.total -ℤ sum_below 2 (at c.args.guides) = less_two c.args.total (at c.args.guides 0) (at c.args.guides 1) c.without-missed.result (omega arith) g0 g1 c.without-missed.ensures.value ∙ two_missed c.args.total c.args.guides in
    let n0 = number_of 2 c.args.total c.args.guides 0 c.corrected.result c.without-missed.result g0 is few c.corrected.ensures.size c.corrected.ensures.value in
    let n1 = number_of 2 c.args.total c.args.guides 1 c.corrected-2.result c.without-missed.result g1 is few c.corrected-2.ensures.size c.corrected-2.ensures.value in
    two_within (most + 3 * each) _ _ (number_size 2 most each c.args.total c.args.guides 0 _ (omega arith) (omega arith) small guides (omega arith) n0) (number_size 2 most each c.args.total c.args.guides 1 _ (omega arith) (omega arith) small guides (omega arith) n1)
