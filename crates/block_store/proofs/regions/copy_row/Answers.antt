use Rattle.std.proofs.Common.{rules, ◌+◌, ◌≤◌, ◌∙◌, arith, length}
use Rattle.mesh_model.specs.Fields.ArrayPlaces.{number_at, place_in, size_of}
use Rattle.mesh_model.proofs.FieldLemmas.BlockPlaces.{row_inside}
use Rattle.block_store.proofs.BoxRows.{row_written, taken}
use Rattle.block_store.proofs.regions.copy_row.Goals as goal

pub slice_bounds-copy_from_slice-end : goal.slice_bounds-copy_from_slice-end
slice_bounds-copy_from_slice-end c =
    let e = c.args.extents in
    let r = c.args.region in
    let fits = c.requires.fits in
    let row = row_inside e r.at.x r.along_x (r.at.y + c.args.j) (r.at.z + c.args.k) fits.x (omega (arith, fits.y, c.requires.row.0)) (omega (arith, fits.z, c.requires.row.1)) in
    let inside : c.place-start.result + r.along_x ≤ length c.args.to.now = omega (arith, row, c.place-start.ensures.value, c.requires.to) in
    search rules

pub returns : goal.returns
returns c =
    let e = c.args.extents in
    let r = c.args.region in
    let j = c.args.j in
    let k = c.args.k in
    let fits = c.requires.fits in
    let row = row_inside e r.at.x r.along_x (r.at.y + j) (r.at.z + k) fits.x (omega (arith, fits.y, c.requires.row.0)) (omega (arith, fits.z, c.requires.row.1)) in
    let many = taken c.place-start.result r.along_x c.args.to.now (omega (arith, row, c.place-start.ensures.value, c.requires.to)) in
    row_written e c.place-start.result r.along_x (place_in e r.at.x (r.at.y + j) (r.at.z + k)) (λ t. number_at e c.args.from.now (c.args.at.x + t) (c.args.at.y + j) (c.args.at.z + k)) c.args.to.now c.copy_from_slice.new.self
    c.place-start.ensures.value (omega (arith, row, c.place-start.ensures.value)) c.requires.to (search rules)
    (λ t h. search rules)
