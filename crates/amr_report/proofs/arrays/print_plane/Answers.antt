use Rattle.std.proofs.Common.{arith}
use Rattle.std.proofs.lemmas.Result.{err_from_is_err_and}
use Rattle.amr_report.specs.Arrays.{plane_text, row_text}
use Rattle.amr_report.proofs.Printed.{place_broke, place_printed, places_printed}
use Rattle.amr_report.proofs.arrays.print_plane.Goals as goal

pub returns-in_err-print_row : goal.returns-in_err-print_row
unfolding plane_text
returns-in_err-print_row g c =
    let p = err_from_is_err_and c.from_residual.result c.from_residual.ensures.1 in
    rw p.1 (place_broke _ _ _ (row_text (g.V.BlockValues.number c.args.values.now) c.args.shown.now c.args.var c.args.k) c.loop-j.j _ _ _ _ (omega arith) c.loop-j.invariant c.in_err-print_row.ensures)

pub loop-j-preserved : goal.loop-j-preserved
loop-j-preserved g c = place_printed _ _ _ (row_text (g.V.BlockValues.number c.args.values.now) c.args.shown.now c.args.var c.args.k) c.loop-j.j _ _ _ c.loop-j.invariant c.in_ok-print_row.ensures

pub returns : goal.returns
unfolding plane_text
returns g c = places_printed _ _ (row_text (g.V.BlockValues.number c.args.values.now) c.args.shown.now c.args.var c.args.k) c.loop-j.j _ _ _ (omega arith) c.loop-j.invariant
