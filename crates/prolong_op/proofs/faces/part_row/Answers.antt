use Rattle.std.proofs.Common.{◌≡◌, ◌+◌, ◌/◌, ◌<◌, ◌≤◌, ℕ, ℤ, ap, ap₂, length, rules, subst, sym, ◌∙◌}
use Rattle.amr_num.specs.declared.Axis.TheVariants.{X}
use Rattle.amr_num.specs.Numbers.{at}
use Rattle.mesh_model.specs.Geometry.Places.{longer_on}
use Rattle.mesh_model.specs.Fields.ArrayPlaces.{IsRowWritten, face_extents, number_at, place_in, size_of}
use Rattle.prolong_op.specs.Splitting.{given, part_or_old}
use Rattle.prolong_op.proofs.Lines.{extents_small, face_lines, faces_of, from_at, from_inside, from_is, room_taken, row_as}
use Rattle.prolong_op.proofs.faces.part_row.Goals as goal

pub row-old-requires-clause-small : goal.row-old-requires-clause-small
row-old-requires-clause-small c =
    subst (λ e. (e.x ≤ 17) × (e.y ≤ 17) × (e.z ≤ 17)) (sym c.of_faces-extents.ensures) (extents_small _ _ c.requires.size _ _ (face_lines c.args.split.n c.args.split.g c.args.line.axis))

pub part_line-requires-clause-inside : goal.part_line-requires-clause-inside
part_line-requires-clause-inside c t h =
    let s = c.args.split in
    let line = c.args.line in
    let e = face_extents s.n s.g line.axis in
    let m = faces_of s.n line.axis in
    let lines = face_lines s.n s.g line.axis in
    let inside = c.requires.inside in
    let many : c.many.inside.x ≡ longer_on line.axis X s.n = search rules in
    let room = room_taken s.n s.g c.requires.size e m lines c.many.inside.x many in
    let there = from_inside s.n s.g c.requires.size e m lines s.q t line.j line.k (subst (λ m. t < m) room h) inside.0 inside.1 in
    let from = from_at s.n s.g c.requires.size e m lines s.q line.j line.k c.of_faces-extents.result c.place-from.result c.of_faces-extents.ensures c.place-from.ensures.value in
    subst (λ l. c.place-from.result + t / 2 < l) (sym c.requires.parent) (subst (λ p. p + t / 2 < size_of e) (sym from) there)

pub write_row-requires-clause-small : goal.write_row-requires-clause-small
write_row-requires-clause-small c =
    subst (λ e. (e.x ≤ 17) × (e.y ≤ 17) × (e.z ≤ 17)) (sym c.of_faces-extents.ensures) (extents_small _ _ c.requires.size _ _ (face_lines c.args.split.n c.args.split.g c.args.line.axis))

pub returns : goal.returns
returns c =
    let s = c.args.split in
    let line = c.args.line in
    let e = face_extents s.n s.g line.axis in
    let m = faces_of s.n line.axis in
    let lines = face_lines s.n s.g line.axis in
    let parent = c.args.parent.now in
    let child = c.args.child.now in
    let out = c.part_line.new.out in
    let many = longer_on line.axis X s.n in
    let wanted : ℕ → ℤ = λ t. part_or_old s.n s.g s.q s.kept line.axis (number_at e parent) (number_at e child) t line.j line.k in
    let many_is : c.many.inside.x ≡ many = search rules in
    let room = room_taken s.n s.g c.requires.size e m lines c.many.inside.x many_is in
    let from = from_at s.n s.g c.requires.size e m lines s.q line.j line.k c.of_faces-extents.result c.place-from.result c.of_faces-extents.ensures c.place-from.ensures.value in
    let long : length out ≡ many = c.part_line.ensures.size ∙ room in
    let is : (t : ℕ) → t < many → at out t ≡ wanted t = λ t h.
    c.part_line.ensures.parts t (subst (λ m. t < m) (sym room) h)
    ∙ ap₂ (given s.n s.kept line.axis t line.j line.k)
    (ap (λ p. at parent (p + t / 2)) from ∙ from_is s.n s.g c.requires.size e m lines s.q t line.j line.k parent)
    (c.row-old.ensures.numbers t (subst (λ m. t < m) (sym many_is) h) ∙ ap (λ d. number_at d child (s.g + t) (s.g + line.j) (s.g + line.k)) c.of_faces-extents.ensures) in
    row_as (place_in e s.g (s.g + line.j) (s.g + line.k)) many (at out) wanted child c.write_row.new.array is
    (subst (λ m. IsRowWritten (place_in e s.g (s.g + line.j) (s.g + line.k)) m (at out) child c.write_row.new.array) long
    (subst (λ d. IsRowWritten (place_in d s.g (s.g + line.j) (s.g + line.k)) (length out) (at out) child c.write_row.new.array) c.of_faces-extents.ensures c.write_row.ensures))
