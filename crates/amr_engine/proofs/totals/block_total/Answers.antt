use Rattle.std.proofs.Common.{◌≡◌, ◌+◌, ◌*◌, ◌^◌, ◌<◌, ◌∙◌, ap, arith, to_z}
use Rattle.std.specs.Int.{w128}
use Rattle.amr_num.specs.Numbers.{sum_below}
use Rattle.mesh_model.specs.Fields.ArrayPlaces.{cell_extents, number_at}
use Rattle.mesh_model.specs.Fields.Totals.{box_sum}
use Rattle.mesh_steps.proofs.Machine.{more_of, more_small}
use Rattle.amr_engine.proofs.totals.block_total.Goals as goal

pub loop-k-preserved : goal.loop-k-preserved
loop-k-preserved c =
    let so_far = c.loop-k.invariant in
    let few : c.loop-k.k * 2 ^ 69 + 2 ^ 69 < 2 ^ 127 = omega (arith, c.loop-k-test.true) in
    let small = more_small (to_z w128 c.loop-k.sum-bits) c.plane_total-sum.result (c.loop-k.k * 2 ^ 69) (2 ^ 69) so_far.small c.plane_total-sum.ensures.small few in
    record {
      so_far = more_of (to_z w128 c.loop-k.sum-bits) c.plane_total-sum.result (c.loop-k.k * 2 ^ 69) (2 ^ 69) so_far.small c.plane_total-sum.ensures.small few
          (λ k. sum_below c.args.n (λ j. sum_below c.args.n (λ i. number_at (cell_extents c.args.n c.args.g) c.args.values.now (c.args.g + i) (c.args.g + j) (c.args.g + k)))) c.loop-k.k so_far.so_far c.plane_total-sum.ensures.value;
      small = omega (arith, small);
    }

pub returns-clause-value : goal.returns-clause-value
unfolding box_sum
returns-clause-value c =
    let all : c.loop-k.k ≡ c.args.n = omega arith in
    c.loop-k.invariant.so_far ∙ ap (λ m. sum_below m (λ k. sum_below c.args.n (λ j. sum_below c.args.n (λ i. number_at (cell_extents c.args.n c.args.g) c.args.values.now (c.args.g + i) (c.args.g + j) (c.args.g + k))))) all
