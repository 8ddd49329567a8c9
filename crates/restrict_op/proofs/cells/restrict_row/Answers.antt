use borrow.Rule.Slice.PartMut.{put_mid}
use Rattle.std.proofs.Common.{◌≡◌, ◌+◌, ◌-◌, ◌/◌, ◌%◌, ◌<◌, ◌≤◌, ◌^◌, ℕ, ℤ, arith, ap, drop, get_or, length, pos, subst, sym, ◌∙◌, rules, take}
use Rattle.std.proofs.lemmas.List.{length-drop, length-take, length-take-le}
use Rattle.amr_num.specs.Numbers.{Within}
use Rattle.mesh_model.specs.Fields.Octants.{octant_box, summed}
use Rattle.mesh_model.specs.Fields.ArrayPlaces as places
use Rattle.mesh_model.specs.Fields.ArrayPlaces.{IsRowWritten, cell_extents, number_at, row_of, size_of}
use Rattle.mesh_model.proofs.FieldLemmas.BlockOctants.{octant_fits}
use Rattle.mesh_model.proofs.FieldLemmas.BlockPlaces.{row_fits, row_put, row_y, row_z}
use Rattle.restrict_op.proofs.Rows.{rows_sum}
use Rattle.restrict_op.proofs.cells.restrict_row.Goals as goal

pub slice_bounds-sum_rows-end : goal.slice_bounds-sum_rows-end
slice_bounds-sum_rows-end c =
    let e = cell_extents c.args.n c.args.g in
    let b = octant_box c.args.n c.args.g c.args.q in
    let row = row_fits e b (octant_fits c.args.n c.args.g c.args.q c.requires.size) c.args.m c.requires.row in
    let start : c.place-to.result ≡ row_of e b c.args.m =
    c.place-to.ensures.value ∙ ap (λ x. places.place_in x b.x (b.y + c.args.m % b.along_y) (b.z + c.args.m / b.along_y)) c.of_cells-extents.ensures in
    let fits : c.place-to.result + c.args.n / 2 ≤ length c.args.parent.now = omega (arith, c.requires.parent) in
    search rules

pub sum_rows-requires-clause-few : goal.sum_rows-requires-clause-few
sum_rows-requires-clause-few c t h =
    let half = c.args.n / 2 in
    let j = c.args.m % half in
    let k = c.args.m / half in
    let e = cell_extents c.args.n c.args.g in
    let b = octant_box c.args.n c.args.g c.args.q in
    let fits = octant_fits c.args.n c.args.g c.args.q c.requires.size in
    let numbers = number_at e c.args.child.now in
    let within : t < half = omega (arith, length-take (c.place-to.result + half - c.place-to.result) (drop c.place-to.result c.args.parent.now)) in
    subst (Within (2 ^ 62))
    (sym (rows_sum c.args.n c.args.g c.requires.size numbers j k t within c.cell_row.result.now c.cell_row-2.result.now c.cell_row-3.result.now c.cell_row-4.result.now
    c.cell_row.ensures.cells c.cell_row-2.ensures.cells c.cell_row-3.ensures.cells c.cell_row-4.ensures.cells))
    (c.requires.few t j k within (row_y e b fits c.args.m c.requires.row) (row_z e b fits c.args.m c.requires.row))

pub returns : goal.returns
returns c =
    let half = c.args.n / 2 in
    let j = c.args.m % half in
    let k = c.args.m / half in
    let e = cell_extents c.args.n c.args.g in
    let b = octant_box c.args.n c.args.g c.args.q in
    let numbers = number_at e c.args.child.now in
    let wanted : ℕ → ℤ = λ t. summed c.args.g numbers t j k in
    let row = row_fits e b (octant_fits c.args.n c.args.g c.args.q c.requires.size) c.args.m c.requires.row in
    let start : c.place-to.result ≡ row_of e b c.args.m =
    c.place-to.ensures.value ∙ ap (λ x. places.place_in x b.x (b.y + c.args.m % b.along_y) (b.z + c.args.m / b.along_y)) c.of_cells-extents.ensures in
    let fits : c.place-to.result + half ≤ length c.args.parent.now = omega (arith, c.requires.parent) in
    let many : c.place-to.result + half - c.place-to.result ≡ half = omega arith in
    let part : length (take (c.place-to.result + half - c.place-to.result) (drop c.place-to.result c.args.parent.now)) ≡ half =
    length-take-le (c.place-to.result + half - c.place-to.result) (drop c.place-to.result c.args.parent.now) (omega (arith, length-drop c.place-to.result c.args.parent.now)) ∙ many in
    let long : length c.sum_rows.new.out ≡ half = c.sum_rows.ensures.size ∙ part in
    let sums : (t : ℕ) → t < half → get_or c.sum_rows.new.out t (pos 0) ≡ wanted t = λ t h.
    c.sum_rows.ensures.sums t (subst (λ m. t < m) (sym part) h)
    ∙ rows_sum c.args.n c.args.g c.requires.size numbers j k t h c.cell_row.result.now c.cell_row-2.result.now c.cell_row-3.result.now c.cell_row-4.result.now
    c.cell_row.ensures.cells c.cell_row-2.ensures.cells c.cell_row-3.ensures.cells c.cell_row-4.ensures.cells in
    subst (λ s. IsRowWritten s half wanted c.args.parent.now (put_mid c.place-to.result (c.place-to.result + half - c.place-to.result) c.args.parent.now c.sum_rows.new.out)) start
    (subst (λ r. IsRowWritten c.place-to.result half wanted c.args.parent.now (put_mid c.place-to.result r c.args.parent.now c.sum_rows.new.out)) (sym many)
    (row_put c.place-to.result half wanted c.args.parent.now c.sum_rows.new.out fits long sums))
