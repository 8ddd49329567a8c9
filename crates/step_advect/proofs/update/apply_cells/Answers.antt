use Rattle.std.proofs.Common.{◌≡◌, ◌*◌, arith, subst}
use Rattle.mesh_model.specs.Fields.ArrayPlaces.{AreRowsWritten, cell_extents, interior}
use Rattle.mesh_model.proofs.FieldLemmas.BlockPlaces.{all_rows, interior_fits, one_more_row}
use Rattle.step_advect.specs.Applied.{flows_in, left_at}
use Rattle.step_advect.proofs.update.apply_cells.Goals as goal

pub loop-m-preserved : goal.loop-m-preserved
loop-m-preserved c =
    let n = c.args.n in
    let g = c.args.g in
    one_more_row (cell_extents n g) (interior n g) (interior_fits n g) c.loop-m.m (left_at (flows_in n g c.args.cells.now c.args.fx.now c.args.fy.now c.args.fz.now)) c.args.out.now
    c.loop-m.out c.apply_row.new.out c.loop-m-test.true c.loop-m.invariant c.apply_row.ensures

pub returns : goal.returns
returns c =
    let n = c.args.n in
    let g = c.args.g in
    let wanted = left_at (flows_in n g c.args.cells.now c.args.fx.now c.args.fy.now c.args.fz.now) in
    let last : c.loop-m.m ≡ n * n = omega arith in
    all_rows (cell_extents n g) (interior n g) (interior_fits n g) wanted c.args.out.now c.loop-m.out
    (subst (λ m. AreRowsWritten m (cell_extents n g) (interior n g) wanted c.args.out.now c.loop-m.out) last c.loop-m.invariant)
