use borrow.Rule.Slice.PartMut.{put_mid}
use Rattle.std.proofs.Common.{◌≡◌, ◌+◌, ◌-◌, ◌/◌, ◌%◌, ◌<◌, ◌≤◌, ℕ, ℤ, arith, ap, drop, get_or, length, pos, subst, sym, ◌∙◌, rules, take}
use Rattle.std.proofs.lemmas.List.{length-drop, length-take-le}
use Rattle.amr_num.specs.declared.Axis.TheVariants.{X, Y}
use Rattle.mesh_model.specs.Fields.ArrayPlaces.{IsRowWritten, face_extents, place_in, row_of}
use Rattle.mesh_model.specs.Fields.FaceSplits.{by_axis, face_box}
use Rattle.mesh_model.specs.Geometry.Places.{longer_on}
use Rattle.mesh_model.proofs.FieldLemmas.BlockPlaces.{row_fits, row_put}
use Rattle.step_induct.specs.Circling.{circled, edges_of}
use Rattle.step_induct.proofs.Rounds.{faces_fit}
use Rattle.step_induct.proofs.circling.circle_row.Goals as goal

pub slice_bounds-face_row-end : goal.slice_bounds-face_row-end
slice_bounds-face_row-end c =
    let n = c.args.size.n in
    let g = c.args.size.g in
    let a = c.args.axis in
    let m = c.args.m in
    let e = face_extents n g a in
    let b = face_box n g a in
    let along_x : c.many.inside.x ≡ longer_on a X n = search rules in
    let along_y : c.many.inside.y ≡ longer_on a Y n = search rules in
    let row = row_fits e b (faces_fit n g a) m c.requires.row in
    let start : c.place-to.result ≡ row_of e b m =
    c.place-to.ensures.value ∙ ap (λ x. place_in x g (g + m % c.many.inside.y) (g + m / c.many.inside.y)) c.of_faces.ensures ∙ ap (λ h. place_in e g (g + m % h) (g + m / h)) along_y in
    let fits : c.place-to.result + c.many.inside.x ≤ length c.args.out.now = omega (arith, c.requires.out, start, row, along_x) in
    search rules

pub returns : goal.returns
returns c =
    let n = c.args.size.n in
    let g = c.args.size.g in
    let a = c.args.axis in
    let m = c.args.m in
    let e = face_extents n g a in
    let b = face_box n g a in
    let h = longer_on a Y n in
    let w = longer_on a X n in
    let along_x : c.many.inside.x ≡ w = search rules in
    let along_y : c.many.inside.y ≡ h = search rules in
    let edges = edges_of n g (by_axis c.args.ex.now c.args.ey.now c.args.ez.now) in
    let wanted : ℕ → ℤ = λ t. circled edges a t (m % h) (m / h) in
    let row = row_fits e b (faces_fit n g a) m c.requires.row in
    let start : c.place-to.result ≡ row_of e b m =
    c.place-to.ensures.value ∙ ap (λ x. place_in x g (g + m % c.many.inside.y) (g + m / c.many.inside.y)) c.of_faces.ensures ∙ ap (λ h. place_in e g (g + m % h) (g + m / h)) along_y in
    let fits : c.place-to.result + w ≤ length c.args.out.now = omega (arith, c.requires.out, start, row) in
    let many : c.place-to.result + c.many.inside.x - c.place-to.result ≡ w = omega (arith, along_x) in
    let part : length (take (c.place-to.result + c.many.inside.x - c.place-to.result) (drop c.place-to.result c.args.out.now)) ≡ w =
    length-take-le (c.place-to.result + c.many.inside.x - c.place-to.result) (drop c.place-to.result c.args.out.now) (omega (arith, length-drop c.place-to.result c.args.out.now, many)) ∙ many in
    let long : length c.face_row.new.out ≡ w = c.face_row.ensures.size ∙ part in
    let numbers : (t : ℕ) → t < w → get_or c.face_row.new.out t (pos 0) ≡ wanted t = λ t l.
    c.face_row.ensures.numbers t l ∙ ap (λ u. circled edges a t (m % u) (m / u)) along_y in
    subst (λ s. IsRowWritten s w wanted c.args.out.now (put_mid c.place-to.result (c.place-to.result + c.many.inside.x - c.place-to.result) c.args.out.now c.face_row.new.out)) start
    (subst (λ r. IsRowWritten c.place-to.result w wanted c.args.out.now (put_mid c.place-to.result r c.args.out.now c.face_row.new.out)) (sym many)
    (row_put c.place-to.result w wanted c.args.out.now c.face_row.new.out fits long numbers))
