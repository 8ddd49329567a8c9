use Rattle.std.proofs.Common.{rules, ◌≡◌, ◌+◌, ◌-◌, ◌*◌, ◌<◌, ◌≤◌, arith, ap₂, length, subst, ◌∙◌}
use Rattle.mesh_model.specs.Fields.ArrayPlaces.{number_at, place_in, size_of}
use Rattle.mesh_model.proofs.FieldLemmas.BlockPlaces.{row_inside}
use Rattle.guard_fill.specs.Strips.{cell_at, from_places}
use Rattle.guard_fill.proofs.PatchRows.{row_written, taken}
use Rattle.guard_fill.proofs.copying.copy_places_row.Goals as goal

pub overflow_sub-extents-inside : goal.overflow_sub-extents-inside
overflow_sub-extents-inside c = (let first = c.requires.reach.x.from 0 c.requires.reach.x.some in let same : c.extents.inside.x ≡ c.args.extents.x = search rules in omega (arith, first, same))

pub row-numbers-requires-clause-some : goal.row-numbers-requires-clause-some
row-numbers-requires-clause-some c = (let first = c.requires.reach.x.from 0 c.requires.reach.x.some in let same : c.extents.inside.x ≡ c.args.extents.x = search rules in omega (arith, first, same))

pub row-numbers-requires-clause-inside : goal.row-numbers-requires-clause-inside
row-numbers-requires-clause-inside c =
    let reach = c.requires.reach in
    let first = reach.x.from 0 reach.x.some in
    let y = reach.y.from c.args.j c.requires.row.0 in
    let z = reach.z.from c.args.k c.requires.row.1 in
    let same : c.extents.inside.x ≡ c.args.extents.x = search rules in
    (omega (arith, first, same), omega (arith, y, c.cell.ensures), omega (arith, z, c.cell-2.ensures))

pub slice_bounds-copy_row-end : goal.slice_bounds-copy_row-end
slice_bounds-copy_row-end c =
    let e = c.args.extents in
    let p = c.args.patch in
    let reach = c.requires.reach in
    let inside = row_inside e p.x.to p.x.many (p.y.to + c.args.j) (p.z.to + c.args.k) reach.x.to (let l = reach.y.to in let h = c.requires.row.0 in omega arith) (let l = reach.z.to in let h = c.requires.row.1 in omega arith) in
    let fits : c.place-to.result + p.x.many ≤ length c.args.room.now = omega (arith, c.requires.room, c.place-to.ensures.value, inside) in
    search rules

pub returns : goal.returns
returns c =
    let e = c.args.extents in
    let g = c.args.g in
    let p = c.args.patch in
    let j = c.args.j in
    let k = c.args.k in
    let reach = c.requires.reach in
    let numbers = number_at e c.args.source.now in
    let start = c.place-to.result in
    let inside = row_inside e p.x.to p.x.many (p.y.to + j) (p.z.to + k) reach.x.to (let l = reach.y.to in let h = c.requires.row.0 in omega arith) (let l = reach.z.to in let h = c.requires.row.1 in omega arith) in
    let fits : start + p.x.many ≤ size_of e = omega (arith, c.place-to.ensures.value, inside) in
    let many = taken start p.x.many c.args.room.now (omega (arith, c.requires.room, fits)) in
    row_written e start p.x.many (place_in e p.x.to (p.y.to + j) (p.z.to + k)) (λ t. from_places g p numbers t j k) c.args.room.now c.copy_row.new.out c.place-to.ensures.value fits c.requires.room c.copy_row.ensures.size
    (λ t h.
    let near = reach.x.from t (subst (λ w. t < w) many h) in
    let same : c.extents.inside.x ≡ c.args.extents.x = search rules in
    let less : cell_at p.x t < c.extents.inside.x - 2 * g = omega (arith, near, same) in
    c.copy_row.ensures.numbers t h ∙ c.row-numbers.ensures.numbers (cell_at p.x t) less ∙ ap₂ (λ u w. numbers (g + cell_at p.x t) (g + u) (g + w)) c.cell.ensures c.cell-2.ensures)
