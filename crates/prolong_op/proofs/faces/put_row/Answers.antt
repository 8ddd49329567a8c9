use Rattle.std.proofs.Common.{◌≡◌, ◌+◌, ◌-◌, ◌*◌, ◌/◌, ◌%◌, ◌<◌, ◌≤◌, ℤ, List, drop, length, rules, subst, sym, take, ◌∙◌}
use Rattle.amr_num.specs.Numbers.{at}
use Rattle.mesh_model.specs.Fields.ArrayPlaces.{IsRowWritten, place_in, row_of}
use Rattle.prolong_op.specs.Splitting.{four_box, four_extents}
use Rattle.prolong_op.proofs.FaceRows.{four_fits, four_length, four_row}
use Rattle.prolong_op.proofs.Lines.{row_as}
use Rattle.prolong_op.proofs.faces.put_row.Goals as goal

pub returns : goal.returns
returns c =
    let f = four_extents c.args.axis in
    let corner = c.args.corner in
    let m = c.args.m in
    let values = c.args.values in
    let old = c.args.faces.now in
    let new = c.write_row.new.array in
    let w = c.along.inside.x in
    let hx : w ≡ f.x = search rules in
    let hy : c.along.inside.y ≡ f.y = search rules in
    let four : length values ≡ 4 = search rules in
    let fits : w * m + w ≤ length values = subst (λ l. w * m + w ≤ l) (sym four) (subst (λ v. v * m + v ≤ 4) (sym hx) (four_fits c.args.axis m c.requires.row)) in
    let part : List ℤ = take (w * m + w - w * m) (drop (w * m) values) in
    let long : length part ≡ f.x = four_length w m values fits ∙ hx in
    let start = row_of c.args.extents (four_box c.args.axis corner.x corner.y corner.z) m in
    row_as start f.x (at part) (λ t. at values (place_in f t (m % f.y) (m / f.y))) old new (λ t h. four_row f w values m t hx (subst (λ v. t < v) (sym hx) h))
    (subst (λ l. IsRowWritten start l (at part) old new) long
    (subst (λ v. IsRowWritten (place_in c.args.extents corner.x (corner.y + m % v) (corner.z + m / v)) (length part) (at part) old new) hy c.write_row.ensures))
