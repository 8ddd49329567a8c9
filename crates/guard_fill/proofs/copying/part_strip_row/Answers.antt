use Rattle.std.proofs.Common.{rules, ◌+◌, ◌/◌, ◌%◌, ◌<◌, ◌≤◌, arith, ap₂, length, subst, ◌∙◌}
use Rattle.mesh_model.specs.Fields.ArrayPlaces.{cell_extents, number_at, place_in}
use Rattle.mesh_model.specs.Fields.Octants.{parted}
use Rattle.mesh_model.proofs.GeometryLemmas.Halves.{half_of, in_half}
use Rattle.prolong_op.proofs.Rows.{row_parts}
use Rattle.guard_fill.specs.Strips.{cell_at, from_cells}
use Rattle.guard_fill.proofs.PatchRows.{row_cells, row_written, taken}
use Rattle.guard_fill.proofs.copying.part_strip_row.Goals as goal

pub cell_row-whole-requires-clause-inside : goal.cell_row-whole-requires-clause-inside
cell_row-whole-requires-clause-inside c =
    let n = c.args.n in
    let q = c.args.q in
    let inside = row_cells n c.args.g c.args.patch c.args.j c.args.k c.requires.within c.requires.row in
    let row : c.cell-row.result < n = omega (arith, c.cell-row.ensures, inside.0) in
    let plane : c.cell-plane.result < n = omega (arith, c.cell-plane.ensures, inside.1) in
    let hj = half_of n c.cell-row.result c.requires.size.cells row in
    let hk = half_of n c.cell-plane.result c.requires.size.cells plane in (
      in_half n (q / 2 % 2) (c.cell-row.result / 2) c.requires.size.cells (omega arith) hj,
      in_half n (q / 4 % 2) (c.cell-plane.result / 2) c.requires.size.cells (omega arith) hk,
    )

pub slice_bounds-part_row-end-2 : goal.slice_bounds-part_row-end-2
slice_bounds-part_row-end-2 c =
    let fits : c.row_start-to.result + c.args.patch.x.many ≤ length c.args.room.now = omega (arith, c.requires.room, c.row_start-to.ensures.fits) in
    search rules

pub returns : goal.returns
returns c =
    let n = c.args.n in
    let g = c.args.g in
    let q = c.args.q in
    let e = cell_extents n g in
    let p = c.args.patch in
    let j = c.args.j in
    let k = c.args.k in
    let within = c.requires.within in
    let numbers = number_at e c.args.parent.now in
    let start = c.row_start-to.result in
    let many = taken start p.x.many c.args.room.now (omega (arith, c.requires.room, c.row_start-to.ensures.fits)) in
    row_written e start p.x.many (place_in e p.x.to (p.y.to + j) (p.z.to + k)) (λ t. from_cells p (parted n g q numbers) t j k) c.args.room.now c.part_row.new.out c.row_start-to.ensures.value c.row_start-to.ensures.fits c.requires.room c.part_row.ensures.size
    (λ t h.
    let inside = within.x.cells t (subst (λ w. t < w) many h) in
    c.part_row.ensures.parts t h
    ∙ row_parts n g q c.requires.size numbers c.cell-row.result c.cell-plane.result (cell_at p.x t) c.cell_row-whole.result.now inside c.cell_row-whole.ensures.cells
    ∙ ap₂ (λ u w. parted n g q numbers (cell_at p.x t) u w) c.cell-row.ensures c.cell-plane.ensures)
