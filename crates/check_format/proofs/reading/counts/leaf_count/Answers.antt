use Rattle.std.proofs.Common.{◌≡◌, ◌≤◌, ◌<◌, List, length, flat_map, Fits, w32, ap, sym, subst, ◌∙◌, arith, take_all}
use Rattle.amr_num.specs.declared.Axis.{Axis}
use Rattle.amr_num.specs.declared.Axis.TheVariants.{X}
use Rattle.block_tree.specs.GridOf.{grid_of}
use Rattle.block_tree.specs.Numbered.{block_at}
use Rattle.check_format.specs.Counts.{own_array}
use Rattle.check_format.proofs.Counting.{axes_few, axis_more}
use Rattle.check_format.proofs.reading.counts.leaf_count.Goals as goal

pub overflow_add-count : goal.overflow_add-count
overflow_add-count c =
    let all = ap (λ (u : List Axis). length u) c.axes_of-axis-items.ensures in
    let most = axes_few c.args.group in
    let before = c.loop-axis.invariant.few in
    let here = c.array_count-count.ensures.few in
    let test = c.loop-axis-test.true in
    record { fits = omega arith }

pub loop-axis-preserved : goal.loop-axis-preserved
loop-axis-preserved c =
    let g = grid_of c.args.tree.now in
    let before = c.loop-axis.invariant.few in
    let here = c.array_count-count.ensures.few in
    record {
      axes = c.loop-axis.invariant.axes;
      value = axis_more (own_array c.args.group g (block_at g c.args.node)) c.axes_of-axis-items.result.now c.loop-axis.axis-index X c.loop-axis.count c.array_count-count.result c.loop-axis-test.true c.loop-axis.invariant.value c.array_count-count.ensures.value;
      few = omega arith;
    }

pub returns-clause-value : goal.returns-clause-value
returns-clause-value c =
    let g = grid_of c.args.tree.now in
    let own = own_array c.args.group g (block_at g c.args.node) in
    c.loop-axis.invariant.value ∙ ap (λ (u : List Axis). length (flat_map own u)) (take_all c.loop-axis.axis-index c.axes_of-axis-items.result.now c.loop-axis-test.false ∙ c.axes_of-axis-items.ensures)

pub returns-clause-few : goal.returns-clause-few
returns-clause-few c =
    let all = ap (λ (u : List Axis). length u) c.axes_of-axis-items.ensures in
    let most = axes_few c.args.group in
    let before = c.loop-axis.invariant.few in
    let last = c.loop-axis.auto.axis-index-end in
    omega arith
