use Rattle.std.proofs.lemmas.Result.{err_from_is_err_and}
use Rattle.amr_num.specs.declared.Axis.TheVariants.{X}
use Rattle.amr_report.specs.Arrays.{axes_of, group_text, named_array}
use Rattle.amr_report.proofs.Printed.{item_broke, item_printed, items_printed}
use Rattle.amr_report.proofs.arrays.print_group.Goals as goal

pub returns-in_err-print_array : goal.returns-in_err-print_array
unfolding group_text
returns-in_err-print_array g c =
    let p = err_from_is_err_and c.from_residual.result c.from_residual.ensures.1 in
    rw p.1 (item_broke _ _ _ (named_array (g.V.BlockValues.number c.args.values.now) c.args.name.now c.args.shown.now c.args.group) (axes_of c.args.group) c.axes_of-axis-items.result.now X c.loop-axis.axis-index _ _ _ c.axes_of-axis-items.ensures c.loop-axis-test.true c.loop-axis.invariant c.in_err-print_array.ensures)

pub loop-axis-preserved : goal.loop-axis-preserved
loop-axis-preserved g c = item_printed _ _ _ (named_array (g.V.BlockValues.number c.args.values.now) c.args.name.now c.args.shown.now c.args.group) (axes_of c.args.group) c.axes_of-axis-items.result.now X c.loop-axis.axis-index _ _ _ c.axes_of-axis-items.ensures c.loop-axis-test.true c.loop-axis.invariant c.in_ok-print_array.ensures

pub returns : goal.returns
unfolding group_text
returns g c = items_printed _ _ (named_array (g.V.BlockValues.number c.args.values.now) c.args.name.now c.args.shown.now c.args.group) (axes_of c.args.group) c.axes_of-axis-items.result.now c.loop-axis.axis-index _ _ c.axes_of-axis-items.ensures c.loop-axis-test.false c.loop-axis.invariant
