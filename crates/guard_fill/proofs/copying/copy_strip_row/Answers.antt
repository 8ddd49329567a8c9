use Rattle.std.proofs.Common.{rules, ◌+◌, ◌<◌, ◌≤◌, arith, ap₂, length, subst, ◌∙◌}
use Rattle.mesh_model.specs.Fields.ArrayPlaces.{cell_extents, number_at, place_in}
use Rattle.guard_fill.specs.Strips.{cell_at, from_cells, inner}
use Rattle.guard_fill.proofs.PatchRows.{row_cells, row_written, taken}
use Rattle.guard_fill.proofs.copying.copy_strip_row.Goals as goal

pub cell_row-cells-requires-clause-inside : goal.cell_row-cells-requires-clause-inside
cell_row-cells-requires-clause-inside c =
    let inside = row_cells c.args.n c.args.g c.args.patch c.args.j c.args.k c.requires.within c.requires.row in (
      omega (arith, c.cell.ensures, inside.0),
      omega (arith, c.cell-2.ensures, inside.1),
    )

pub slice_bounds-copy_row-end : goal.slice_bounds-copy_row-end
slice_bounds-copy_row-end c =
    let fits : c.row_start-to.result + c.args.patch.x.many ≤ length c.args.room.now = omega (arith, c.requires.room, c.row_start-to.ensures.fits) in
    search rules

pub returns : goal.returns
returns c =
    let n = c.args.n in
    let g = c.args.g in
    let e = cell_extents n g in
    let p = c.args.patch in
    let j = c.args.j in
    let k = c.args.k in
    let within = c.requires.within in
    let numbers = number_at e c.args.source.now in
    let start = c.row_start-to.result in
    let many = taken start p.x.many c.args.room.now (omega (arith, c.requires.room, c.row_start-to.ensures.fits)) in
    row_written e start p.x.many (place_in e p.x.to (p.y.to + j) (p.z.to + k)) (λ t. from_cells p (inner g numbers) t j k) c.args.room.now c.copy_row.new.out c.row_start-to.ensures.value c.row_start-to.ensures.fits c.requires.room c.copy_row.ensures.size
    (λ t h.
    let inside = within.x.cells t (subst (λ w. t < w) many h) in
    c.copy_row.ensures.numbers t h ∙ c.cell_row-cells.ensures.cells (cell_at p.x t) inside ∙ ap₂ (λ u w. numbers (g + cell_at p.x t) (g + u) (g + w)) c.cell.ensures c.cell-2.ensures)
