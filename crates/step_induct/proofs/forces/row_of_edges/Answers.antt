use borrow.Rule.Slice.PartMut.{put_mid}
use Rattle.std.proofs.Common.{◌≡◌, ◌+◌, ◌-◌, ◌/◌, ◌%◌, ◌<◌, ◌≤◌, ℕ, ℤ, arith, ap, get_or, length, pos, subst, ◌∙◌, rules}
use Rattle.amr_num.specs.declared.Axis.TheVariants.{X, Y}
use Rattle.mesh_model.specs.Fields.ArrayPlaces.{IsRowWritten, edge_extents, place_in, row_of}
use Rattle.mesh_model.specs.Fields.EdgeSplits.{edge_box}
use Rattle.mesh_model.specs.Fields.FaceSplits.{by_axis}
use Rattle.mesh_model.specs.Geometry.Places.{longer_across}
use Rattle.mesh_model.proofs.FieldLemmas.BlockPlaces.{row_fits}
use Rattle.step_induct.specs.Forces.{flow_of, force_at}
use Rattle.step_induct.proofs.Forced.{edges_fit}
use Rattle.step_induct.proofs.Rounds.{part_written}
use Rattle.step_induct.proofs.forces.row_of_edges.Goals as goal

pub slice_bounds-edge_row-end : goal.slice_bounds-edge_row-end
slice_bounds-edge_row-end c =
    let n = c.args.size.n in
    let g = c.args.size.g in
    let a = c.args.axis in
    let m = c.args.m in
    let e = edge_extents n g a in
    let b = edge_box n g a in
    let along_x : c.many.inside.x ≡ longer_across a X n = search rules in
    let along_y : c.many.inside.y ≡ longer_across a Y n = search rules in
    let row = row_fits e b (edges_fit n g a) m c.requires.row in
    let start : c.place-to.result ≡ row_of e b m =
    c.place-to.ensures.value ∙ ap (λ x. place_in x g (g + m % c.many.inside.y) (g + m / c.many.inside.y)) c.of_edges.ensures ∙ ap (λ h. place_in e g (g + m % h) (g + m / h)) along_y in
    let fits : c.place-to.result + c.many.inside.x ≤ length c.args.out.now = omega (arith, c.requires.out, start, row, along_x) in
    search rules

pub returns : goal.returns
returns c =
    let n = c.args.size.n in
    let g = c.args.size.g in
    let a = c.args.axis in
    let m = c.args.m in
    let e = edge_extents n g a in
    let b = edge_box n g a in
    let h = longer_across a Y n in
    let w = longer_across a X n in
    let out = c.args.out.now in
    let along_x : c.many.inside.x ≡ w = search rules in
    let along_y : c.many.inside.y ≡ h = search rules in
    let to = c.place-to.result in
    let forces = force_at n g a (flow_of c.args.flow.now) (by_axis c.args.bx.now c.args.by.now c.args.bz.now) in
    let wanted : ℕ → ℤ = λ t. forces t (m % h) (m / h) in
    let row = row_fits e b (edges_fit n g a) m c.requires.row in
    let start : to ≡ row_of e b m =
    c.place-to.ensures.value ∙ ap (λ x. place_in x g (g + m % c.many.inside.y) (g + m / c.many.inside.y)) c.of_edges.ensures ∙ ap (λ u. place_in e g (g + m % u) (g + m / u)) along_y in
    let fits : to + w ≤ length out = omega (arith, c.requires.out, start, row) in
    let numbers : (t : ℕ) → t < w → get_or c.edge_row.new.out t (pos 0) ≡ wanted t = λ t l. c.edge_row.ensures.numbers t l ∙ ap (λ u. forces t (m % u) (m / u)) along_y in
    subst (λ s. IsRowWritten s w wanted out (put_mid to (to + c.many.inside.x - to) out c.edge_row.new.out)) start
    (part_written to c.many.inside.x w wanted out c.edge_row.new.out along_x fits c.edge_row.ensures.size numbers)
