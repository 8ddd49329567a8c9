use borrow.Rule.Slice.PartMut.{put_mid}
use Rattle.std.proofs.Common.{◌≡◌, ◌+◌, ◌-◌, ◌/◌, ◌%◌, ◌<◌, ◌≤◌, ℕ, ℤ, ◌-ℤ◌, arith, ap, ap₂, drop, length, pos, subst, sym, ◌∙◌, rules, take}
use Rattle.std.proofs.lemmas.List.{get_or-drop, get_or-take, length-drop, length-take-le}
use Rattle.amr_num.specs.Numbers.{at}
use Rattle.amr_num.specs.declared.Axis.TheVariants.{X, Y}
use Rattle.mesh_model.specs.Fields.ArrayPlaces.{IsRowWritten, face_extents, number_at, place_in, row_of}
use Rattle.mesh_model.specs.Fields.FaceSplits.{face_box}
use Rattle.mesh_model.specs.Geometry.Places.{longer_on}
use Rattle.mesh_model.proofs.FieldLemmas.BlockPlaces.{row_fits}
use Rattle.step_induct.specs.Circling.{faces_of}
use Rattle.step_induct.proofs.Rounds.{faces_fit, part_written}
use Rattle.step_induct.proofs.circling.take_row.Goals as goal

pub slice_bounds-take_from-end : goal.slice_bounds-take_from-end
slice_bounds-take_from-end c =
    let n = c.args.size.n in
    let g = c.args.size.g in
    let a = c.args.axis in
    let m = c.args.m in
    let e = face_extents n g a in
    let b = face_box n g a in
    let along_x : c.many.inside.x ≡ longer_on a X n = search rules in
    let along_y : c.many.inside.y ≡ longer_on a Y n = search rules in
    let row = row_fits e b (faces_fit n g a) m c.requires.row in
    let start : c.place-to.result ≡ row_of e b m =
    c.place-to.ensures.value ∙ ap (λ x. place_in x g (g + m % c.many.inside.y) (g + m / c.many.inside.y)) c.of_faces-extents.ensures ∙ ap (λ h. place_in e g (g + m % h) (g + m / h)) along_y in
    let fits : c.place-to.result + c.many.inside.x ≤ length c.args.out.now = omega (arith, c.requires.out, start, row, along_x) in
    search rules

pub returns : goal.returns
returns c =
    let n = c.args.size.n in
    let g = c.args.size.g in
    let a = c.args.axis in
    let m = c.args.m in
    let e = face_extents n g a in
    let b = face_box n g a in
    let h = longer_on a Y n in
    let w = longer_on a X n in
    let out = c.args.out.now in
    let along_x : c.many.inside.x ≡ w = search rules in
    let along_y : c.many.inside.y ≡ h = search rules in
    let to = c.place-to.result in
    let many = c.many.inside.x in
    let row = row_fits e b (faces_fit n g a) m c.requires.row in
    let start : to ≡ row_of e b m =
    c.place-to.ensures.value ∙ ap (λ x. place_in x g (g + m % c.many.inside.y) (g + m / c.many.inside.y)) c.of_faces-extents.ensures ∙ ap (λ u. place_in e g (g + m % u) (g + m / u)) along_y in
    let fits : to + w ≤ length out = omega (arith, c.requires.out, start, row) in
    let all : to + many - to ≡ w = omega (arith, along_x) in
    let part : length (take (to + many - to) (drop to out)) ≡ w = length-take-le (to + many - to) (drop to out) (omega (arith, length-drop to out, all)) ∙ all in
    let had : (t : ℕ) → t < w → at c.row-had.result.now t ≡ faces_of n g a c.args.faces.now t (m % h) (m / h) = λ t l.
    c.row-had.ensures.numbers t (subst (λ u. t < u) (sym along_x) l)
    ∙ ap (λ x. number_at x c.args.faces.now (g + t) (g + m % c.many.inside.y) (g + m / c.many.inside.y)) c.of_faces-extents.ensures
    ∙ ap (λ u. faces_of n g a c.args.faces.now t (m % u) (m / u)) along_y in
    let taken : (t : ℕ) → t < w → at (take (to + many - to) (drop to out)) t ≡ at out (row_of e b m + t) = λ t l.
    get_or-take _ (drop to out) t (pos 0) (subst (λ u. t < u) (sym all) l) ∙ get_or-drop to out t (pos 0) ∙ ap (λ u. at out (u + t)) start in
    let wanted : ℕ → ℤ = λ t. faces_of n g a c.args.faces.now t (m % h) (m / h) -ℤ at out (row_of e b m + t) in
    let numbers : (t : ℕ) → t < w → at c.take_from.new.out t ≡ wanted t = λ t l.
    c.take_from.ensures.numbers t (subst (λ u. t < u) (sym part) l) ∙ ap₂ (λ u v. u -ℤ v) (had t l) (taken t l) in
    subst (λ s. IsRowWritten s w wanted out (put_mid to (to + many - to) out c.take_from.new.out)) start
    (part_written to many w wanted out c.take_from.new.out along_x fits c.take_from.ensures.size numbers)
