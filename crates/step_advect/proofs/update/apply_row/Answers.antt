use borrow.Rule.Slice.PartMut.{put_mid}
use Rattle.std.proofs.Common.{◌≡◌, ◌+◌, ◌-◌, ◌/◌, ◌%◌, ◌<◌, ◌≤◌, ℕ, ℤ, arith, ap, drop, get_or, length, pos, subst, sym, ◌∙◌, rules, take}
use Rattle.std.proofs.lemmas.List.{length-drop, length-take-le}
use Rattle.amr_num.specs.declared.Axis.TheVariants.{X, Y, Z}
use Rattle.mesh_model.specs.Fields.ArrayPlaces.{IsRowWritten, cell_extents, face_extents, interior, place_in, row_of}
use Rattle.mesh_model.proofs.FieldLemmas.BlockPlaces.{interior_fits, row_fits, row_put}
use Rattle.step_advect.specs.Applied.{Flows, flows_in, left_at}
use Rattle.step_advect.proofs.Rows.{AreRowsOf, row_of_known, rows_left}
use Rattle.step_advect.proofs.update.apply_row.Goals as goal

pub slice_bounds-left_row-end : goal.slice_bounds-left_row-end
slice_bounds-left_row-end c =
    let n = c.args.n in
    let g = c.args.g in
    let m = c.args.m in
    let e = cell_extents n g in
    let b = interior n g in
    let row = row_fits e b (interior_fits n g) m c.requires.row in
    let start : c.place-to.result ≡ row_of e b m = c.place-to.ensures.value ∙ ap (λ x. place_in x g (g + m % n) (g + m / n)) c.of_cells.ensures in
    let fits : c.place-to.result + n ≤ length c.args.out.now = omega (arith, c.requires.out) in
    search rules

pub returns : goal.returns
returns c =
    let n = c.args.n in
    let g = c.args.g in
    let m = c.args.m in
    let j = m % n in
    let k = m / n in
    let e = cell_extents n g in
    let b = interior n g in
    let f : Flows = flows_in n g c.args.cells.now c.args.fx.now c.args.fy.now c.args.fz.now in
    let wanted : ℕ → ℤ = λ t. left_at f t j k in
    let row = row_fits e b (interior_fits n g) m c.requires.row in
    let start : c.place-to.result ≡ row_of e b m = c.place-to.ensures.value ∙ ap (λ x. place_in x g (g + j) (g + k)) c.of_cells.ensures in
    let fits : c.place-to.result + n ≤ length c.args.out.now = omega (arith, c.requires.out) in
    let many : c.place-to.result + n - c.place-to.result ≡ n = omega arith in
    let part : length (take (c.place-to.result + n - c.place-to.result) (drop c.place-to.result c.args.out.now)) ≡ n =
    length-take-le (c.place-to.result + n - c.place-to.result) (drop c.place-to.result c.args.out.now) (omega (arith, length-drop c.place-to.result c.args.out.now)) ∙ many in
    let long : length c.left_row.new.out ≡ n = c.left_row.ensures.size ∙ part in
    let rows : AreRowsOf n f j k c.cell_row.result.now c.row.result.now c.row-2.result.now c.row-3.result.now c.row-4.result.now c.row-5.result.now = record {
      content = c.cell_row.ensures.cells;
      along_x = row_of_known (face_extents n g X) c.of_faces.result c.args.fx.now c.row.result.now g (g + j) (g + k) (n + 1) c.of_faces.ensures c.row.ensures.numbers;
      below_y = row_of_known (face_extents n g Y) c.of_faces-along_y.result c.args.fy.now c.row-2.result.now g (g + j) (g + k) n c.of_faces-along_y.ensures c.row-2.ensures.numbers;
      above_y = row_of_known (face_extents n g Y) c.of_faces-along_y.result c.args.fy.now c.row-3.result.now g (g + (j + 1)) (g + k) n c.of_faces-along_y.ensures c.row-3.ensures.numbers;
      below_z = row_of_known (face_extents n g Z) c.of_faces-along_z.result c.args.fz.now c.row-4.result.now g (g + j) (g + k) n c.of_faces-along_z.ensures c.row-4.ensures.numbers;
      above_z = row_of_known (face_extents n g Z) c.of_faces-along_z.result c.args.fz.now c.row-5.result.now g (g + j) (g + (k + 1)) n c.of_faces-along_z.ensures c.row-5.ensures.numbers;
    } in
    let left : (t : ℕ) → t < n → get_or c.left_row.new.out t (pos 0) ≡ wanted t = λ t h.
    c.left_row.ensures.left t (subst (λ q. t < q) (sym part) h)
    ∙ rows_left n f j k c.cell_row.result.now c.row.result.now c.row-2.result.now c.row-3.result.now c.row-4.result.now c.row-5.result.now rows t h in
    subst (λ s. IsRowWritten s n wanted c.args.out.now (put_mid c.place-to.result (c.place-to.result + n - c.place-to.result) c.args.out.now c.left_row.new.out)) start
    (subst (λ r. IsRowWritten c.place-to.result n wanted c.args.out.now (put_mid c.place-to.result r c.args.out.now c.left_row.new.out)) (sym many)
    (row_put c.place-to.result n wanted c.args.out.now c.left_row.new.out fits long left))
