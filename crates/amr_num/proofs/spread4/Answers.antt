use Rattle.std.proofs.Common.{◌+◌, ◌*◌, ◌^◌, pos, ◌+ℤ◌, ◌-ℤ◌, ◌≡◌, arith, ap, ◌∙◌, [], ◌∷◌}
use Rattle.amr_num.specs.Numbers.{Within, at, sum_below}
use Rattle.amr_num.proofs.Spreading.{number_of, number_size, less_two, less_size, four_missed, four_within}
use Rattle.amr_num.proofs.spread4.Goals as goal

pub returns-clause-value : goal.returns-clause-value
returns-clause-value c =
    let g0 : Within (2 ^ 56) (at c.args.guides 0) = c.requires.guides 0 (pos 0) (omega arith) in
    let g1 : Within (2 ^ 56) (at c.args.guides 1) = c.requires.guides 1 (pos 0) (omega arith) in
    let g2 : Within (2 ^ 56) (at c.args.guides 2) = c.requires.guides 2 (pos 0) (omega arith) in
    let g3 : Within (2 ^ 56) (at c.args.guides 3) = c.requires.guides 3 (pos 0) (omega arith) in
    let total : Within (2 ^ 56) c.args.total = c.requires.total in
    let first = less_size c.args.total c.without.result (2 ^ 56) total (omega arith) c.without.ensures.size in
    let few : Within (5 * 2 ^ 56) c.without-missed.result = let size = less_size c.without.result c.without-missed.result (3 * 2 ^ 56) (omega arith) (omega arith) c.without-missed.ensures.size in omega arith in
    let begun : c.without.result ≡ c.args.total -ℤ (at c.args.guides 0 +ℤ at c.args.guides 1) = less_two c.args.total (at c.args.guides 0) (at c.args.guides 1) c.without.result (omega arith) g0 g1 c.without.ensures.value in
    let rest = less_two c.without.result (at c.args.guides 2) (at c.args.guides 3) c.without-missed.result (omega arith) g2 g3 c.without-missed.ensures.value in
    let is : c.without-missed.result ≡ c.args.total -ℤ sum_below 4 (at c.args.guides) = rest ∙ ap (λ t. t -ℤ (at c.args.guides 2 +ℤ at c.args.guides 3)) begun ∙ four_missed c.args.total c.args.guides in
    let n0 = number_of 4 c.args.total c.args.guides 0 c.corrected.result c.without-missed.result g0 is few c.corrected.ensures.size c.corrected.ensures.value in
    let n1 = number_of 4 c.args.total c.args.guides 1 c.corrected-2.result c.without-missed.result g1 is few c.corrected-2.ensures.size c.corrected-2.ensures.value in
    let n2 = number_of 4 c.args.total c.args.guides 2 c.corrected-3.result c.without-missed.result g2 is few c.corrected-3.ensures.size c.corrected-3.ensures.value in
    let n3 = number_of 4 c.args.total c.args.guides 3 c.corrected-4.result c.without-missed.result g3 is few c.corrected-4.ensures.size c.corrected-4.ensures.value in
    (λ i. n0 i ∷ n1 i ∷ n2 i ∷ n3 i ∷ [])

pub returns-clause-size : goal.returns-clause-size
returns-clause-size c most each small guides =
    let g0 : Within (2 ^ 56) (at c.args.guides 0) = c.requires.guides 0 (pos 0) (omega arith) in
    let g1 : Within (2 ^ 56) (at c.args.guides 1) = c.requires.guides 1 (pos 0) (omega arith) in
    let g2 : Within (2 ^ 56) (at c.args.guides 2) = c.requires.guides 2 (pos 0) (omega arith) in
    let g3 : Within (2 ^ 56) (at c.args.guides 3) = c.requires.guides 3 (pos 0) (omega arith) in
    let total : Within (2 ^ 56) c.args.total = c.requires.total in
    let first = less_size c.args.total c.without.result (2 ^ 56) total (omega arith) c.without.ensures.size in
    let few : Within (5 * 2 ^ 56) c.without-missed.result = let size = less_size c.without.result c.without-missed.result (3 * 2 ^ 56) (omega arith) (omega arith) c.without-missed.ensures.size in omega arith in
    let begun : c.without.result ≡ c.args.total -ℤ (at c.args.guides 0 +ℤ at c.args.guides 1) = less_two c.args.total (at c.args.guides 0) (at c.args.guides 1) c.without.result (omega arith) g0 g1 c.without.ensures.value in
    let rest = less_two c.without.result (at c.args.guides 2) (at c.args.guides 3) c.without-missed.result (omega arith) g2 g3 c.without-missed.ensures.value in
    let is : c.without-missed.result ≡ c.args.total -ℤ sum_below 4 (at c.args.guides) = rest ∙ ap (λ t. t -ℤ (at c.args.guides 2 +ℤ at c.args.guides 3)) begun ∙ four_missed c.args.total c.args.guides in
    let n0 = number_of 4 c.args.total c.args.guides 0 c.corrected.result c.without-missed.result g0 is few c.corrected.ensures.size c.corrected.ensures.value in
    let n1 = number_of 4 c.args.total c.args.guides 1 c.corrected-2.result c.without-missed.result g1 is few c.corrected-2.ensures.size c.corrected-2.ensures.value in
    let n2 = number_of 4 c.args.total c.args.guides 2 c.corrected-3.result c.without-missed.result g2 is few c.corrected-3.ensures.size c.corrected-3.ensures.value in
    let n3 = number_of 4 c.args.total c.args.guides 3 c.corrected-4.result c.without-missed.result g3 is few c.corrected-4.ensures.size c.corrected-4.ensures.value in
    four_within (most + 5 * each) _ _ _ _ (number_size 4 most each c.args.total c.args.guides 0 _ (omega arith) (omega arith) small guides (omega arith) n0) (number_size 4 most each c.args.total c.args.guides 1 _ (omega arith) (omega arith) small guides (omega arith) n1) (number_size 4 most each c.args.total c.args.guides 2 _ (omega arith) (omega arith) small guides (omega arith) n2) (number_size 4 most each c.args.total c.args.guides 3 _ (omega arith) (omega arith) small guides (omega arith) n3)
