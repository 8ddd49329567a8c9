use Rattle.std.proofs.Common.{Some, ap, sym, ◌∙◌}
use Rattle.std.specs.Option.{option_map}
use Rattle.mesh_model.specs.Fields.ArrayPlaces.{cell_extents, number_at}
use Rattle.step_advect.specs.Applied.{flows_in, inner, left_at}
use Rattle.step_advect.proofs.Ranges.{all_in_range, first_told, told}
use Rattle.step_advect.proofs.update.apply.Goals as goal

pub returns-in-Some-clause-refused : goal.returns-in-Some-clause-refused
returns-in-Some-clause-refused g c =
    let n = g.row.N in
    let e = g.row.G in
    first_told n (inner e (number_at (cell_extents n e) c.apply_cells.new.out)) (left_at (flows_in n e c.args.cells.now c.args.fx.now c.args.fy.now c.args.fz.now)) c.block_above.result
    c.block_above.ensures c.apply_cells.ensures.written
    ∙ ap (option_map told) c.in-Some.is ∙ ap Some (sym c.cell_at.ensures)

pub returns-in-None-clause-in_range : goal.returns-in-None-clause-in_range
returns-in-None-clause-in_range g c =
    let n = g.row.N in
    let e = g.row.G in
    let left = left_at (flows_in n e c.args.cells.now c.args.fx.now c.args.fy.now c.args.fz.now) in
    all_in_range n left
    (first_told n (inner e (number_at (cell_extents n e) c.apply_cells.new.out)) left c.block_above.result c.block_above.ensures c.apply_cells.ensures.written ∙ ap (option_map told) c.in-None.is)
