use Rattle.std.proofs.Common.{◌≡◌, ap, arith, ◌∙◌}
use Rattle.amr_num.specs.Numbers.{sum_below}
use Rattle.mesh_model.specs.Fields.Totals.{box_sum}
use Rattle.amr_engine.specs.Netting.{counted, faces_of, net_at}
use Rattle.amr_engine.proofs.Netted.{one_more}
use Rattle.amr_engine.proofs.netting.count_block.Goals as goal

pub loop-k-preserved : goal.loop-k-preserved
loop-k-preserved c =
    let so_far = c.loop-k.invariant in
    let few = c.count_plane-count.ensures.few in
    record {
      so_far = one_more c.loop-k.count c.count_plane-count.result c.loop-k.k (λ k. sum_below c.args.n (λ j. sum_below c.args.n (λ i. counted (net_at (faces_of c.args.n c.args.g c.args.x.now c.args.y.now c.args.z.now) i j k)))) so_far.so_far c.count_plane-count.ensures.value;
      few = let before = so_far.few in omega (arith, few, before);
    }

pub returns-clause-value : goal.returns-clause-value
unfolding box_sum
returns-clause-value c =
    let all : c.loop-k.k ≡ c.args.n = omega arith in
    c.loop-k.invariant.so_far ∙ ap (λ m. sum_below m (λ k. sum_below c.args.n (λ j. sum_below c.args.n (λ i. counted (net_at (faces_of c.args.n c.args.g c.args.x.now c.args.y.now c.args.z.now) i j k))))) all
