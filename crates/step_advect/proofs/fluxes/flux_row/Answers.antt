use borrow.Rule.Slice.PartMut.{put_mid}
use Rattle.std.proofs.Common.{◌≡◌, ◌+◌, ◌-◌, ◌/◌, ◌%◌, ◌<◌, ◌≤◌, ◌^◌, ℕ, ℤ, arith, ap, drop, get_or, length, pos, subst, sym, ◌∙◌, rules, take}
use Rattle.std.proofs.lemmas.List.{length-drop, length-take, length-take-le}
use Rattle.mesh_model.specs.Fields.ArrayPlaces.{IsRowWritten, cell_extents, face_extents, number_at, place_in, row_of}
use Rattle.mesh_model.proofs.FieldLemmas.BlockPlaces.{row_fits, row_put, row_y, row_z}
use Rattle.step_advect.specs.Fluxed.{block_faces, flow_of, flux_at}
use Rattle.step_advect.proofs.Faces.{donors_within, faces_fit, row_fluxes}
use Rattle.step_advect.proofs.fluxes.flux_row.Goals as goal

pub slice_bounds-flux_donors-end : goal.slice_bounds-flux_donors-end
slice_bounds-flux_donors-end c =
    let g = c.args.g in
    let m = c.args.m in
    let e = face_extents c.args.n g c.args.axis in
    let b = block_faces c.args.n g c.args.axis in
    let row = row_fits e b (faces_fit c.args.n g c.args.axis) m c.requires.row in
    let start : c.place-to.result ≡ row_of e b m =
    c.place-to.ensures.value ∙ ap (λ x. place_in x g (g + m % c.longer-rows.result) (g + m / c.longer-rows.result)) c.of_faces.ensures
    ∙ ap (λ r. place_in e g (g + m % r) (g + m / r)) c.longer-rows.ensures in
    let many = c.longer-many.ensures in
    let fits : c.place-to.result + c.longer-many.result ≤ length c.args.out.now = omega (arith, c.requires.out) in
    search rules

pub flux_donors-requires-clause-small : goal.flux_donors-requires-clause-small
flux_donors-requires-clause-small c t h =
    let e = face_extents c.args.n c.args.g c.args.axis in
    let b = block_faces c.args.n c.args.g c.args.axis in
    let fits = faces_fit c.args.n c.args.g c.args.axis in
    let m = c.args.m in
    let many = c.longer-many.ensures in
    let within : t < b.along_x = omega (arith, length-take (c.place-to.result + c.longer-many.result - c.place-to.result) (drop c.place-to.result c.args.out.now)) in
    donors_within c.args.n c.args.g c.args.axis c.args.flow.now.speed (number_at (cell_extents c.args.n c.args.g) c.args.cells.now) c.donor_row-donors.result.now
    (m % c.longer-rows.result) (m / c.longer-rows.result) c.donor_row-donors.ensures.donors (2 ^ 56) c.requires.small
    (subst (λ r. m % r < b.along_y) (sym c.longer-rows.ensures) (row_y e b fits m c.requires.row))
    (subst (λ r. m / r < b.along_z) (sym c.longer-rows.ensures) (row_z e b fits m c.requires.row)) t within

pub returns : goal.returns
returns c =
    let n = c.args.n in
    let g = c.args.g in
    let a = c.args.axis in
    let m = c.args.m in
    let flow = flow_of c.args.flow.now in
    let e = face_extents n g a in
    let b = block_faces n g a in
    let numbers = number_at (cell_extents n g) c.args.cells.now in
    let wanted : ℕ → ℤ = λ t. flux_at n g a flow numbers t (m % b.along_y) (m / b.along_y) in
    let row = row_fits e b (faces_fit n g a) m c.requires.row in
    let start : c.place-to.result ≡ row_of e b m =
    c.place-to.ensures.value ∙ ap (λ x. place_in x g (g + m % c.longer-rows.result) (g + m / c.longer-rows.result)) c.of_faces.ensures
    ∙ ap (λ r. place_in e g (g + m % r) (g + m / r)) c.longer-rows.ensures in
    let long_row : c.longer-many.result ≡ b.along_x = c.longer-many.ensures in
    let fits : c.place-to.result + b.along_x ≤ length c.args.out.now = omega (arith, c.requires.out) in
    let many : c.place-to.result + c.longer-many.result - c.place-to.result ≡ b.along_x = omega arith in
    let part : length (take (c.place-to.result + c.longer-many.result - c.place-to.result) (drop c.place-to.result c.args.out.now)) ≡ b.along_x =
    length-take-le (c.place-to.result + c.longer-many.result - c.place-to.result) (drop c.place-to.result c.args.out.now) (omega (arith, length-drop c.place-to.result c.args.out.now)) ∙ many in
    let long : length c.flux_donors.new.out ≡ b.along_x = c.flux_donors.ensures.size ∙ part in
    let fluxes : (t : ℕ) → t < b.along_x → get_or c.flux_donors.new.out t (pos 0) ≡ wanted t =
    row_fluxes n g a flow numbers c.donor_row-donors.result.now c.flux_donors.new.out c.longer-rows.result m c.longer-rows.ensures c.donor_row-donors.ensures.donors
    (λ t h. c.flux_donors.ensures.fluxes t (subst (λ q. t < q) (sym part) h)) in
    subst (λ s. IsRowWritten s b.along_x wanted c.args.out.now (put_mid c.place-to.result (c.place-to.result + c.longer-many.result - c.place-to.result) c.args.out.now c.flux_donors.new.out)) start
    (subst (λ r. IsRowWritten c.place-to.result b.along_x wanted c.args.out.now (put_mid c.place-to.result r c.args.out.now c.flux_donors.new.out)) (sym many)
    (row_put c.place-to.result b.along_x wanted c.args.out.now c.flux_donors.new.out fits long fluxes))
