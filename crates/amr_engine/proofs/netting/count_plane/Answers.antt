use Rattle.std.proofs.Common.{◌≡◌, ap, arith, ◌∙◌}
use Rattle.amr_num.specs.Numbers.{sum_below}
use Rattle.amr_engine.specs.Netting.{counted, faces_of, net_at}
use Rattle.amr_engine.proofs.Netted.{one_more}
use Rattle.amr_engine.proofs.netting.count_plane.Goals as goal

pub loop-j-preserved : goal.loop-j-preserved
loop-j-preserved c =
    let so_far = c.loop-j.invariant in
    let few = c.count_row_of-count.ensures.few in
    record {
      so_far = one_more c.loop-j.count c.count_row_of-count.result c.loop-j.j (λ j. sum_below c.args.n (λ i. counted (net_at (faces_of c.args.n c.args.g c.args.x.now c.args.y.now c.args.z.now) i j c.args.k))) so_far.so_far c.count_row_of-count.ensures.value;
      few = let before = so_far.few in omega (arith, few, before);
    }

pub returns-clause-value : goal.returns-clause-value
returns-clause-value c =
    let all : c.loop-j.j ≡ c.args.n = omega arith in
    c.loop-j.invariant.so_far ∙ ap (λ m. sum_below m (λ j. sum_below c.args.n (λ i. counted (net_at (faces_of c.args.n c.args.g c.args.x.now c.args.y.now c.args.z.now) i j c.args.k)))) all
