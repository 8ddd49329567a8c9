use Rattle.std.proofs.Common.{◌≡◌, ◌+◌, ◌-◌, ◌/◌, ◌%◌, ◌<◌, ◌≤◌, ℕ, ℤ, arith, ap, drop, get_or, length, pos, subst, sym, ◌∙◌, rules, take}
use Rattle.std.specs.Prelude.{if◌then◌else◌}
use Rattle.std.proofs.lemmas.List.{length-drop, length-take-le}
use Rattle.amr_num.specs.Numbers.{at}
use Rattle.mesh_model.specs.Fields.ArrayPlaces as places
use Rattle.mesh_model.specs.Fields.ArrayPlaces.{IsRowWritten, cell_extents, interior, number_at, row_of, size_of}
use Rattle.mesh_model.specs.Geometry.Places.{in_block}
use Rattle.mesh_model.proofs.FieldLemmas.BlockPlaces.{along_row, interior_fits, row_fits, row_put}
use Rattle.amr_engine.specs.Filling.{filled_cell}
use Rattle.amr_engine.specs.Regions.{covers}
use Rattle.amr_engine.proofs.Rows.{part_at}
use Rattle.amr_engine.proofs.filling.fill_row_of.Goals as goal
use borrow.Rule.Slice.PartMut.{put_mid}

pub slice_bounds-fill_row-end : goal.slice_bounds-fill_row-end
slice_bounds-fill_row-end c =
    let e = cell_extents c.args.n c.args.g in
    let b = interior c.args.n c.args.g in
    let row = row_fits e b (interior_fits c.args.n c.args.g) c.args.m c.requires.row in
    let start : c.place-to.result ≡ row_of e b c.args.m =
    c.place-to.ensures.value ∙ ap (λ x. places.place_in x b.x (b.y + c.args.m % b.along_y) (b.z + c.args.m / b.along_y)) c.of_cells.ensures in
    let fits : c.place-to.result + c.args.n ≤ length c.args.values.now = omega (arith, c.requires.values) in
    search rules

pub returns : goal.returns
returns c =
    let n = c.args.n in
    let j = c.args.m % n in
    let k = c.args.m / n in
    let e = cell_extents n c.args.g in
    let b = interior n c.args.g in
    let xs = c.args.values.now in
    let to = c.place-to.result in
    let wanted : ℕ → ℤ = λ t. filled_cell n c.args.g xs c.args.block c.args.fill t j k in
    let row = row_fits e b (interior_fits n c.args.g) c.args.m c.requires.row in
    let start : to ≡ row_of e b c.args.m =
    c.place-to.ensures.value ∙ ap (λ x. places.place_in x b.x (b.y + c.args.m % b.along_y) (b.z + c.args.m / b.along_y)) c.of_cells.ensures in
    let fits : to + n ≤ length xs = omega (arith, c.requires.values) in
    let many : to + n - to ≡ n = omega arith in
    let part : length (take (to + n - to) (drop to xs)) ≡ n =
    length-take-le (to + n - to) (drop to xs) (omega (arith, length-drop to xs)) ∙ many in
    let long : length c.fill_row.new.row ≡ n = c.fill_row.ensures.size ∙ part in
    let here : (t : ℕ) → t < n → at (take (to + n - to) (drop to xs)) t ≡ number_at e xs (c.args.g + t) (c.args.g + j) (c.args.g + k) = λ t h.
    part_at xs to (to + n - to) t (omega arith) ∙ ap (λ p. at xs (p + t)) start ∙ sym (ap (at xs) (along_row e b.x t (c.args.g + j) (c.args.g + k))) in
    let cells : (t : ℕ) → t < n → get_or c.fill_row.new.row t (pos 0) ≡ wanted t = λ t h.
    c.fill_row.ensures.cells t (subst (λ m. t < m) (sym part) h)
    ∙ ap (λ m. if covers c.args.fill.region (in_block m c.args.block t j k) then c.args.fill.value else at (take (to + n - to) (drop to xs)) t) part
    ∙ ap (λ x. if covers c.args.fill.region (in_block n c.args.block t j k) then c.args.fill.value else x) (here t h) in
    subst (λ s. IsRowWritten s n wanted xs (put_mid to (to + n - to) xs c.fill_row.new.row)) start
    (subst (λ r. IsRowWritten to n wanted xs (put_mid to r xs c.fill_row.new.row)) (sym many)
    (row_put to n wanted xs c.fill_row.new.row fits long cells))
