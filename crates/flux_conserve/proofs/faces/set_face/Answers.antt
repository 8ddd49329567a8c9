use Rattle.std.proofs.Common.{rules, ◌<◌, length, set, subst, sym}
use Rattle.flux_conserve.specs.Sums.{IsFaceSet}
use Rattle.flux_conserve.proofs.FacePlaces.{face_set, stands_at}
use Rattle.flux_conserve.proofs.faces.set_face.Goals as goal

pub returns : goal.returns
returns c =
    let n = c.args.faces.n in
    let g = c.args.faces.g in
    let a = c.args.faces.axis in
    let there = stands_at n g a c.args.p c.args.s c.args.t in
    let is = c.face_place.ensures.value in
    let inside = subst (λ m. m < length c.args.values.now) is (subst (λ m. c.face_place.result < m) (sym c.requires.values) c.face_place.ensures.inside) in
    let done : IsFaceSet n g a c.args.p c.args.s c.args.t c.args.value c.args.values.now (set c.args.values.now c.face_place.result c.args.value) = subst (λ m. IsFaceSet n g a c.args.p c.args.s c.args.t c.args.value c.args.values.now (set c.args.values.now m c.args.value)) (sym is)
    (face_set n g a c.args.p c.args.s c.args.t c.args.value c.args.values.now c.requires.inside inside) in
    search rules
