use Rattle.std.proofs.Common.{◌≡◌, ◌*◌, ◌/◌, ◌%◌, ◌<◌, ◌^◌, rules, subst, sym}
use Rattle.amr_num.specs.Numbers.{Within}
use Rattle.amr_num.specs.declared.Axis.TheVariants.{Y, Z}
use Rattle.mesh_model.specs.Fields.ArrayPlaces.{face_extents}
use Rattle.mesh_model.specs.Fields.FaceSplits.{by_axis, face_box}
use Rattle.mesh_model.specs.Geometry.Places.{longer_on}
use Rattle.mesh_model.proofs.FieldLemmas.BlockPlaces.{one_more_row, row_y, row_z}
use Rattle.step_induct.specs.Circling.{edges_of, faces_of, lessened}
use Rattle.step_induct.proofs.Rounds.{circled_within, faces_fit, lessened_rows}
use Rattle.step_induct.proofs.circling.lessen.Goals as goal

pub take_row-requires-clause-taken : goal.take_row-requires-clause-taken
take_row-requires-clause-taken c t l =
    let n = c.args.size.n in
    let g = c.args.size.g in
    let a = c.args.axis in
    let m = c.loop-m.m in
    let e = face_extents n g a in
    let b = face_box n g a in
    let hy : c.many.inside.y ≡ longer_on a Y n = search rules in
    let hz : c.many.inside.z ≡ longer_on a Z n = search rules in
    let within : m < longer_on a Y n * longer_on a Z n = subst (λ w. m < w * longer_on a Z n) hy (subst (λ w. m < c.many.inside.y * w) hz c.loop-m-test.true) in
    subst (Within (2 ^ 60)) (sym (c.circle_row.ensures.here t l))
    (circled_within n g a (by_axis c.args.ex.now c.args.ey.now c.args.ez.now) c.requires.arrays t (m % longer_on a Y n) (m / longer_on a Y n) l (row_y e b (faces_fit n g a) m within) (row_z e b (faces_fit n g a) m within))

pub loop-m-preserved : goal.loop-m-preserved
loop-m-preserved c =
    let n = c.args.size.n in
    let g = c.args.size.g in
    let a = c.args.axis in
    let m = c.loop-m.m in
    let hy : c.many.inside.y ≡ longer_on a Y n = search rules in
    let hz : c.many.inside.z ≡ longer_on a Z n = search rules in
    let within : m < longer_on a Y n * longer_on a Z n = subst (λ w. m < w * longer_on a Z n) hy (subst (λ w. m < c.many.inside.y * w) hz c.loop-m-test.true) in
    one_more_row (face_extents n g a) (face_box n g a) (faces_fit n g a) m (lessened (faces_of n g a c.args.faces.now) (edges_of n g (by_axis c.args.ex.now c.args.ey.now c.args.ez.now)) a)
    c.args.out.now c.loop-m.out c.take_row.new.out within c.loop-m.invariant
    (lessened_rows n g a c.args.faces.now (by_axis c.args.ex.now c.args.ey.now c.args.ez.now) m c.loop-m.out c.circle_row.new.out c.take_row.new.out c.circle_row.ensures c.take_row.ensures)
