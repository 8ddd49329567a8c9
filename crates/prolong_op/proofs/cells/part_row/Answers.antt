use Rattle.std.proofs.Common.{◌≡◌, ◌+◌, ◌-◌, ◌/◌, ◌%◌, ◌<◌, ◌≤◌, ℕ, ℤ, arith, ap, drop, get_or, length, pos, subst, sym, ◌∙◌, rules, take}
use Rattle.std.proofs.lemmas.List.{length-drop, length-take-le}
use Rattle.mesh_model.specs.Fields.Octants.{parted}
use Rattle.mesh_model.specs.Fields.ArrayPlaces as places
use Rattle.mesh_model.specs.Fields.ArrayPlaces.{IsRowWritten, cell_extents, interior, number_at, row_of, size_of}
use Rattle.mesh_model.proofs.FieldLemmas.BlockPlaces.{interior_fits, row_fits, row_put}
use Rattle.prolong_op.proofs.Rows.{row_parts}
use Rattle.prolong_op.proofs.cells.part_row.Goals as goal
use borrow.Rule.Slice.PartMut.{put_mid}

pub slice_bounds-split_row-end-2 : goal.slice_bounds-split_row-end-2
slice_bounds-split_row-end-2 c =
    let e = cell_extents c.args.n c.args.g in
    let b = interior c.args.n c.args.g in
    let row = row_fits e b (interior_fits c.args.n c.args.g) c.args.m c.requires.row in
    let start : c.place-to.result ≡ row_of e b c.args.m =
    c.place-to.ensures.value ∙ ap (λ x. places.place_in x b.x (b.y + c.args.m % b.along_y) (b.z + c.args.m / b.along_y)) c.of_cells.ensures in
    let fits : c.place-to.result + c.args.n ≤ length c.args.child.now = omega (arith, c.requires.child) in
    search rules

pub returns : goal.returns
returns c =
    let n = c.args.n in
    let j = c.args.m % n in
    let k = c.args.m / n in
    let e = cell_extents n c.args.g in
    let b = interior n c.args.g in
    let numbers = number_at e c.args.parent.now in
    let wanted : ℕ → ℤ = λ t. parted n c.args.g c.args.q numbers t j k in
    let row = row_fits e b (interior_fits n c.args.g) c.args.m c.requires.row in
    let start : c.place-to.result ≡ row_of e b c.args.m =
    c.place-to.ensures.value ∙ ap (λ x. places.place_in x b.x (b.y + c.args.m % b.along_y) (b.z + c.args.m / b.along_y)) c.of_cells.ensures in
    let fits : c.place-to.result + n ≤ length c.args.child.now = omega (arith, c.requires.child) in
    let many : c.place-to.result + n - c.place-to.result ≡ n = omega arith in
    let part : length (take (c.place-to.result + n - c.place-to.result) (drop c.place-to.result c.args.child.now)) ≡ n =
    length-take-le (c.place-to.result + n - c.place-to.result) (drop c.place-to.result c.args.child.now) (omega (arith, length-drop c.place-to.result c.args.child.now)) ∙ many in
    let long : length c.split_row.new.out ≡ n = c.split_row.ensures.size ∙ part in
    let parts : (t : ℕ) → t < n → get_or c.split_row.new.out t (pos 0) ≡ wanted t = λ t h.
    c.split_row.ensures.parts t (subst (λ m. t < m) (sym part) h)
    ∙ row_parts n c.args.g c.args.q c.requires.size numbers j k t c.cell_row-whole.result.now h c.cell_row-whole.ensures.cells in
    subst (λ s. IsRowWritten s n wanted c.args.child.now (put_mid c.place-to.result (c.place-to.result + n - c.place-to.result) c.args.child.now c.split_row.new.out)) start
    (subst (λ r. IsRowWritten c.place-to.result n wanted c.args.child.now (put_mid c.place-to.result r c.args.child.now c.split_row.new.out)) (sym many)
    (row_put c.place-to.result n wanted c.args.child.now c.split_row.new.out fits long parts))
