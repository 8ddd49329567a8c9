use Rattle.std.proofs.Common.{◌≡◌, ◌+◌, ◌<◌, ◌≤◌, ℕ, ℤ, ap, length, rules, subst, sym, ◌∙◌}
use Rattle.amr_num.specs.declared.Axis.TheVariants.{X}
use Rattle.amr_num.specs.Numbers.{at}
use Rattle.mesh_model.specs.Geometry.Places.{longer_across}
use Rattle.mesh_model.specs.Fields.ArrayPlaces.{IsRowWritten, edge_extents, number_at, place_in}
use Rattle.prolong_op.specs.EdgeSplitting.{mean_or_old}
use Rattle.prolong_op.proofs.Lines.{edge_lines, edges_of, extents_small, room_taken, row_as}
use Rattle.prolong_op.proofs.edges.mean_row.Goals as goal

pub row-old-requires-clause-small : goal.row-old-requires-clause-small
row-old-requires-clause-small c =
    subst (λ e. (e.x ≤ 17) × (e.y ≤ 17) × (e.z ≤ 17)) (sym c.of-extents.ensures) (extents_small _ _ c.requires.size _ _ (edge_lines c.args.split.n c.args.split.g c.args.line.axis))

pub mean_line-requires-clause-out : goal.mean_line-requires-clause-out
mean_line-requires-clause-out c =
    let s = c.args.split in
    let a = c.args.line.axis in
    let many : c.many.inside.x ≡ longer_across a X s.n = search rules in
    room_taken s.n s.g c.requires.size (edge_extents s.n s.g a) (edges_of s.n a) (edge_lines s.n s.g a) c.many.inside.x many

pub mean_line-requires-clause-old : goal.mean_line-requires-clause-old
mean_line-requires-clause-old c t h =
    let s = c.args.split in
    let line = c.args.line in
    let a = line.axis in
    let many : c.many.inside.x ≡ longer_across a X s.n = search rules in
    let room = room_taken s.n s.g c.requires.size (edge_extents s.n s.g a) (edges_of s.n a) (edge_lines s.n s.g a) c.many.inside.x many in
    c.row-old.ensures.numbers t (subst (λ m. t < m) (sym many) (subst (λ m. t < m) room h))
    ∙ ap (λ d. number_at d c.args.child.now (s.g + t) (s.g + line.j) (s.g + line.k)) c.of-extents.ensures

pub write_row-requires-clause-small : goal.write_row-requires-clause-small
write_row-requires-clause-small c =
    subst (λ e. (e.x ≤ 17) × (e.y ≤ 17) × (e.z ≤ 17)) (sym c.of-extents.ensures) (extents_small _ _ c.requires.size _ _ (edge_lines c.args.split.n c.args.split.g c.args.line.axis))

pub returns : goal.returns
returns c =
    let s = c.args.split in
    let line = c.args.line in
    let a = line.axis in
    let e = edge_extents s.n s.g a in
    let child = c.args.child.now in
    let out = c.mean_line.new.out in
    let many = longer_across a X s.n in
    let wanted : ℕ → ℤ = λ t. mean_or_old s.n s.g s.kept a (number_at e child) t line.j line.k in
    let many_is : c.many.inside.x ≡ many = search rules in
    let room = room_taken s.n s.g c.requires.size e (edges_of s.n a) (edge_lines s.n s.g a) c.many.inside.x many_is in
    let long : length out ≡ many = c.mean_line.ensures.size ∙ room in
    let is : (t : ℕ) → t < many → at out t ≡ wanted t = λ t h. c.mean_line.ensures.means t (subst (λ m. t < m) (sym room) h) in
    row_as (place_in e s.g (s.g + line.j) (s.g + line.k)) many (at out) wanted child c.write_row.new.array is
    (subst (λ m. IsRowWritten (place_in e s.g (s.g + line.j) (s.g + line.k)) m (at out) child c.write_row.new.array) long
    (subst (λ d. IsRowWritten (place_in d s.g (s.g + line.j) (s.g + line.k)) (length out) (at out) child c.write_row.new.array) c.of-extents.ensures c.write_row.ensures))
