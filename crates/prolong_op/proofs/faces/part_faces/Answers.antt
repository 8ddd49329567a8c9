use Rattle.std.proofs.Common.{◌≡◌, ◌+◌, ◌*◌, ◌/◌, ◌%◌, ◌<◌, ℕ, ℤ, ap, rules, subst}
use Rattle.amr_num.specs.declared.Axis.TheVariants.{X, Y, Z}
use Rattle.mesh_model.specs.Geometry.Places.{longer_on}
use Rattle.mesh_model.specs.Fields.ArrayPlaces.{IsRowWritten, face_extents, number_at, place_in, row_of}
use Rattle.mesh_model.specs.Fields.FaceSplits.{face_above, face_box}
use Rattle.mesh_model.proofs.FieldLemmas.BlockPlaces.{next_row, one_more_row}
use Rattle.prolong_op.specs.Splitting.{given, part_or_old}
use Rattle.prolong_op.proofs.Lines.{block_fits, face_lines, faces_of, row_as}
use Rattle.prolong_op.proofs.faces.part_faces.Goals as goal

pub loop-m-preserved : goal.loop-m-preserved
loop-m-preserved c =
    let s = c.args.split in
    let a = c.args.axis in
    let n = s.n in
    let g = s.g in
    let m = c.loop-m.m in
    let e = face_extents n g a in
    let b = face_box n g a in
    let fits = block_fits n g c.requires.size e (faces_of n a) (face_lines n g a) in
    let parent = number_at e c.args.parent.now in
    let old = c.args.child.now in
    let now = c.loop-m.child in
    let new = c.part_row.new.child in
    let h = longer_on a Y n in
    let hy : c.along.inside.y ≡ h = search rules in
    let hz : c.along.inside.z ≡ longer_on a Z n = search rules in
    let within : m < h * longer_on a Z n = subst (λ w. m < w * longer_on a Z n) hy (subst (λ w. m < c.along.inside.y * w) hz c.loop-m-test.true) in
    let so_far = c.loop-m.invariant in
    let wanted : ℕ → ℕ → ℕ → ℤ = part_or_old n g s.q s.kept a parent (number_at e old) in
    let row : IsRowWritten (row_of e b m) (longer_on a X n) (λ t. part_or_old n g s.q s.kept a parent (number_at e now) t (m % h) (m / h)) now new =
    subst (λ w. IsRowWritten (place_in e g (g + m % w) (g + m / w)) (longer_on a X n) (λ t. part_or_old n g s.q s.kept a parent (number_at e now) t (m % w) (m / w)) now new) hy c.part_row.ensures in
    one_more_row e b fits m wanted old now new within so_far
    (row_as (row_of e b m) (longer_on a X n) (λ t. part_or_old n g s.q s.kept a parent (number_at e now) t (m % h) (m / h)) (λ t. wanted t (m % h) (m / h)) now new
    (λ t ht. ap (given n s.kept a t (m % h) (m / h) (face_above n g s.q parent t (m % h) (m / h))) (next_row e b fits m wanted old now within so_far t ht)) row)
