use borrow.Rule.Slice.PartMut.{put_mid}
use Rattle.std.proofs.Common.{◌≡◌, ◌+◌, ◌-◌, ◌/◌, ◌%◌, ◌<◌, ◌≤◌, ℕ, ℤ, arith, ap, drop, get_or, length, pos, subst, sym, ◌∙◌, rules, take}
use Rattle.std.proofs.lemmas.List.{length-drop, length-take-le}
use Rattle.amr_num.specs.declared.Axis.TheVariants.{X, Y}
use Rattle.mesh_model.specs.Fields.ArrayPlaces.{Extents, IsRowWritten, edge_extents, place_in, row_of}
use Rattle.mesh_model.specs.Fields.EdgeSplits.{edge_box}
use Rattle.mesh_model.specs.Geometry.Places.{longer_across}
use Rattle.mesh_model.proofs.FieldLemmas.BlockPlaces.{row_fits, row_put}
use Rattle.block_tree.specs.Directions.{edge_name}
use Rattle.staggered.specs.EdgeSetting.{edges_set, set_or}
use Rattle.staggered.proofs.EdgeSet.{edges_fit, row_number, row_place}
use Rattle.staggered.proofs.edge_setting.set_row.Goals as goal

pub place-to-requires-clause-inside : goal.place-to-requires-clause-inside
place-to-requires-clause-inside c =
    let n = c.args.array.n in
    let g = c.args.array.g in
    let a = c.args.target.now.edge.axis in
    let m = c.args.m in
    let along_y : c.many.inside.y ≡ longer_across a Y n = search rules in
    subst (λ (e : Extents). (g < e.x) × (g + m % c.many.inside.y < e.y) × (g + m / c.many.inside.y < e.z)) (sym c.of_edges.ensures)
    (subst (λ h. let e = edge_extents n g a in (g < e.x) × (g + m % h < e.y) × (g + m / h < e.z)) (sym along_y) (row_place n g a m c.requires.size c.requires.row))

pub slice_bounds-set_in_row-end : goal.slice_bounds-set_in_row-end
slice_bounds-set_in_row-end c =
    let n = c.args.array.n in
    let g = c.args.array.g in
    let a = c.args.target.now.edge.axis in
    let m = c.args.m in
    let e = edge_extents n g a in
    let b = edge_box n g a in
    let along_x : c.many.inside.x ≡ longer_across a X n = search rules in
    let along_y : c.many.inside.y ≡ longer_across a Y n = search rules in
    let row = row_fits e b (edges_fit n g a) m c.requires.row in
    let start : c.place-to.result ≡ row_of e b m =
    c.place-to.ensures.value ∙ ap (λ x. place_in x g (g + m % c.many.inside.y) (g + m / c.many.inside.y)) c.of_edges.ensures ∙ ap (λ h. place_in e g (g + m % h) (g + m / h)) along_y in
    let fits : c.place-to.result + c.many.inside.x ≤ length c.args.values.now = omega (arith, c.requires.values, start, row, along_x) in
    search rules

pub returns : goal.returns
returns c =
    let n = c.args.array.n in
    let g = c.args.array.g in
    let a = c.args.target.now.edge.axis in
    let m = c.args.m in
    let e = edge_extents n g a in
    let b = edge_box n g a in
    let h = longer_across a Y n in
    let w = longer_across a X n in
    let old = c.args.values.now in
    let along_x : c.many.inside.x ≡ w = search rules in
    let along_y : c.many.inside.y ≡ h = search rules in
    let wanted : ℕ → ℤ = λ t. edges_set n g c.args.shape.now a c.args.array.block c.args.target.now.edge c.args.target.now.value old t (m % h) (m / h) in
    let row = row_fits e b (edges_fit n g a) m c.requires.row in
    let start : c.place-to.result ≡ row_of e b m =
    c.place-to.ensures.value ∙ ap (λ x. place_in x g (g + m % c.many.inside.y) (g + m / c.many.inside.y)) c.of_edges.ensures ∙ ap (λ h. place_in e g (g + m % h) (g + m / h)) along_y in
    let fits : c.place-to.result + w ≤ length old = omega (arith, c.requires.values, start, row) in
    let many : c.place-to.result + c.many.inside.x - c.place-to.result ≡ w = omega (arith, along_x) in
    let part : length (take (c.place-to.result + c.many.inside.x - c.place-to.result) (drop c.place-to.result old)) ≡ w =
    length-take-le (c.place-to.result + c.many.inside.x - c.place-to.result) (drop c.place-to.result old) (omega (arith, length-drop c.place-to.result old, many)) ∙ many in
    let long : length c.set_in_row.new.out ≡ w = c.set_in_row.ensures.size ∙ part in
    let q = c.place-to.result + c.many.inside.x - c.place-to.result in
    let part_is = take q (drop c.place-to.result old) in
    let numbers : (t : ℕ) → t < w → get_or c.set_in_row.new.out t (pos 0) ≡ wanted t = λ t l.
    c.set_in_row.ensures.numbers t (subst (λ x. t < x) (sym part) l)
    ∙ ap (λ u. set_or c.args.target.now.edge c.args.target.now.value (edge_name c.args.shape.now a c.args.array.block t (m % u) (m / u)) (get_or part_is t (pos 0))) along_y
    ∙ row_number n g c.args.shape.now a c.args.array.block c.args.target.now.edge c.args.target.now.value old m c.place-to.result q t start (subst (λ x. t < x) (sym many) l) in
    subst (λ s. IsRowWritten s w wanted old (put_mid c.place-to.result (c.place-to.result + c.many.inside.x - c.place-to.result) old c.set_in_row.new.out)) start
    (subst (λ r. IsRowWritten c.place-to.result w wanted old (put_mid c.place-to.result r old c.set_in_row.new.out)) (sym many)
    (row_put c.place-to.result w wanted old c.set_in_row.new.out fits long numbers))
