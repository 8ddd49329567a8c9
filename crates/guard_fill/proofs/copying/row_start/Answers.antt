use Rattle.std.proofs.Common.{◌≡◌, ◌+◌, ◌≤◌, subst, ap, sym, arith, ◌∙◌}
use Rattle.mesh_model.specs.Fields.ArrayPlaces.{Extents, cell_extents, place_in, size_of}
use Rattle.mesh_model.proofs.FieldLemmas.BlockPlaces.{row_inside}
use Rattle.guard_fill.proofs.copying.row_start.Goals as goal

pub returns-clause-fits : goal.returns-clause-fits
returns-clause-fits c =
    let e = cell_extents c.args.n c.args.g in
    let p = c.args.patch in
    let y = c.requires.within.y.places in
    let z = c.requires.within.z.places in
    let row = c.requires.row in
    let is : c.place.result ≡ place_in e p.x.to (p.y.to + c.args.j) (p.z.to + c.args.k) =
    c.place.ensures.value ∙ ap (λ (x : Extents). place_in x p.x.to (p.y.to + c.args.j) (p.z.to + c.args.k)) c.of_cells.ensures in
    subst (λ s. s + p.x.many ≤ size_of e) (sym is) (row_inside e p.x.to p.x.many (p.y.to + c.args.j) (p.z.to + c.args.k) c.requires.within.x.places (omega arith) (omega arith))
