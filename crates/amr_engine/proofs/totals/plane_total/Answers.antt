use Rattle.std.proofs.Common.{◌≡◌, ◌+◌, ◌*◌, ◌^◌, ◌<◌, ◌∙◌, ap, arith, to_z}
use Rattle.std.specs.Int.{w128}
use Rattle.amr_num.specs.Numbers.{sum_below}
use Rattle.mesh_model.specs.Fields.ArrayPlaces.{cell_extents, number_at}
use Rattle.mesh_steps.proofs.Machine.{more_of, more_small}
use Rattle.amr_engine.proofs.totals.plane_total.Goals as goal

pub loop-j-preserved : goal.loop-j-preserved
loop-j-preserved c =
    let so_far = c.loop-j.invariant in
    let few : c.loop-j.j * 2 ^ 66 + 2 ^ 66 < 2 ^ 127 = omega (arith, c.loop-j-test.true) in
    let small = more_small (to_z w128 c.loop-j.sum-bits) c.row_total-sum.result (c.loop-j.j * 2 ^ 66) (2 ^ 66) so_far.small c.row_total-sum.ensures.small few in
    record {
      so_far = more_of (to_z w128 c.loop-j.sum-bits) c.row_total-sum.result (c.loop-j.j * 2 ^ 66) (2 ^ 66) so_far.small c.row_total-sum.ensures.small few
          (λ j. sum_below c.args.n (λ i. number_at (cell_extents c.args.n c.args.g) c.args.values.now (c.args.g + i) (c.args.g + j) (c.args.g + c.args.k))) c.loop-j.j so_far.so_far c.row_total-sum.ensures.value;
      small = omega (arith, small);
    }

pub returns-clause-value : goal.returns-clause-value
returns-clause-value c =
    let all : c.loop-j.j ≡ c.args.n = omega arith in
    c.loop-j.invariant.so_far ∙ ap (λ m. sum_below m (λ j. sum_below c.args.n (λ i. number_at (cell_extents c.args.n c.args.g) c.args.values.now (c.args.g + i) (c.args.g + j) (c.args.g + c.args.k)))) all
