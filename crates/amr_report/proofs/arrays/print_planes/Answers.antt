use Rattle.std.proofs.Common.{arith}
use Rattle.std.proofs.lemmas.Result.{err_from_is_err_and}
use Rattle.amr_report.specs.Arrays.{plane_text, planes_text}
use Rattle.amr_report.proofs.Printed.{place_broke, place_printed, places_printed}
use Rattle.amr_report.proofs.arrays.print_planes.Goals as goal

pub returns-in_err-print_plane : goal.returns-in_err-print_plane
unfolding planes_text
returns-in_err-print_plane g c =
    let p = err_from_is_err_and c.from_residual.result c.from_residual.ensures.1 in
    rw p.1 (place_broke _ _ _ (plane_text (g.V.BlockValues.number c.args.values.now) c.args.shown.now c.args.var) c.loop-k.k _ _ _ _ (omega arith) c.loop-k.invariant c.in_err-print_plane.ensures)

pub loop-k-preserved : goal.loop-k-preserved
loop-k-preserved g c = place_printed _ _ _ (plane_text (g.V.BlockValues.number c.args.values.now) c.args.shown.now c.args.var) c.loop-k.k _ _ _ c.loop-k.invariant c.in_ok-print_plane.ensures

pub returns : goal.returns
unfolding planes_text
returns g c = places_printed _ _ (plane_text (g.V.BlockValues.number c.args.values.now) c.args.shown.now c.args.var) c.loop-k.k _ _ _ (omega arith) c.loop-k.invariant
