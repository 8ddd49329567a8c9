use Rattle.std.proofs.Common.{◌≡◌, ◌*◌, ◌<◌, rules, subst}
use Rattle.amr_num.specs.declared.Axis.TheVariants.{Y, Z}
use Rattle.mesh_model.specs.Fields.ArrayPlaces.{face_extents}
use Rattle.mesh_model.specs.Fields.FaceSplits.{by_axis, face_box}
use Rattle.mesh_model.specs.Geometry.Places.{longer_on}
use Rattle.mesh_model.proofs.FieldLemmas.BlockPlaces.{one_more_row}
use Rattle.step_induct.specs.Circling.{circled, edges_of}
use Rattle.step_induct.proofs.Rounds.{faces_fit}
use Rattle.step_induct.proofs.circling.circle.Goals as goal

pub loop-m-preserved : goal.loop-m-preserved
loop-m-preserved c =
    let n = c.args.size.n in
    let g = c.args.size.g in
    let a = c.args.axis in
    let m = c.loop-m.m in
    let hy : c.many.inside.y ≡ longer_on a Y n = search rules in
    let hz : c.many.inside.z ≡ longer_on a Z n = search rules in
    let within : m < longer_on a Y n * longer_on a Z n = subst (λ w. m < w * longer_on a Z n) hy (subst (λ w. m < c.many.inside.y * w) hz c.loop-m-test.true) in
    one_more_row (face_extents n g a) (face_box n g a) (faces_fit n g a) m (circled (edges_of n g (by_axis c.args.ex.now c.args.ey.now c.args.ez.now)) a)
    c.args.out.now c.loop-m.out c.circle_row.new.out within c.loop-m.invariant c.circle_row.ensures
