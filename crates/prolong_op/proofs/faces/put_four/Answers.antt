use Rattle.std.proofs.Common.{◌≡◌, ◌*◌, ◌<◌, rules, subst}
use Rattle.amr_num.specs.Numbers.{at}
use Rattle.mesh_model.specs.Fields.ArrayPlaces.{place_in}
use Rattle.mesh_model.proofs.FieldLemmas.BlockPlaces.{one_more_row}
use Rattle.prolong_op.specs.Splitting.{four_box, four_extents}
use Rattle.prolong_op.proofs.faces.put_four.Goals as goal

pub loop-m-preserved : goal.loop-m-preserved
loop-m-preserved c =
    let f = four_extents c.args.axis in
    let hy : c.along.inside.y ≡ f.y = search rules in
    let hz : c.along.inside.z ≡ f.z = search rules in
    let within : c.loop-m.m < f.y * f.z = subst (λ w. c.loop-m.m < w * f.z) hy (subst (λ w. c.loop-m.m < c.along.inside.y * w) hz c.loop-m-test.true) in
    one_more_row c.args.extents (four_box c.args.axis c.args.corner.x c.args.corner.y c.args.corner.z) c.requires.inside c.loop-m.m (λ i j k. at c.args.values (place_in f i j k))
    c.args.faces.now c.loop-m.faces c.put_row.new.faces within c.loop-m.invariant c.put_row.ensures
