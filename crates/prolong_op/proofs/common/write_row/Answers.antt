use borrow.Rule.Slice.PartMut.{put_mid}
use Rattle.std.proofs.Common.{◌≡◌, ◌+◌, ◌-◌, ◌≤◌, ap, arith, length, pos, rules, subst, sym, slice_index_or}
use Rattle.amr_num.specs.Numbers.{at}
use Rattle.mesh_model.specs.Fields.ArrayPlaces.{IsRowWritten}
use Rattle.mesh_model.proofs.FieldLemmas.BlockPlaces.{row_inside, row_put}
use Rattle.prolong_op.proofs.common.write_row.Goals as goal

pub slice_bounds-copy_from_slice-end : goal.slice_bounds-copy_from_slice-end
slice_bounds-copy_from_slice-end c =
    let inside = c.requires.inside in
    let row = row_inside c.args.extents c.args.x (length c.args.values.now) c.args.y c.args.z inside.0 inside.1 inside.2 in
    let start = c.place-to.ensures.value in
    let fits : c.place-to.result + length c.args.values.now ≤ length c.args.array.now = omega (arith, c.requires.size, start) in
    search rules

pub returns : goal.returns
returns c =
    let values = c.args.values.now in
    let array = c.args.array.now in
    let start = c.place-to.result in
    let new = c.copy_from_slice.new.self in
    let inside = c.requires.inside in
    let row = row_inside c.args.extents c.args.x (length values) c.args.y c.args.z inside.0 inside.1 inside.2 in
    let is = c.place-to.ensures.value in
    let fits : start + length values ≤ length array = omega (arith, c.requires.size, is) in
    let many : start + length values - start ≡ length values = omega arith in
    let same : new ≡ values = search rules in
    subst (λ s. IsRowWritten s (length values) (at values) array (put_mid start (start + length values - start) array new)) is
    (subst (λ r. IsRowWritten start (length values) (at values) array (put_mid start r array new)) (sym many)
    (row_put start (length values) (at values) array new fits (ap length same) (λ t h. ap (λ xs. slice_index_or xs t (pos 0)) same)))
