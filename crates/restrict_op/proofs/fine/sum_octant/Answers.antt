use Rattle.std.proofs.Common.{rules, ◌≡◌, ◌*◌, ◌/◌, ◌<◌, subst}
use Rattle.mesh_model.specs.Fields.FinePlaces.{array_octant, fine_summed, half_extents}
use Rattle.mesh_model.specs.Fields.ArrayPlaces.{extents_of, number_at}
use Rattle.mesh_model.proofs.FieldLemmas.BlockPlaces.{one_more_row}
use Rattle.restrict_op.proofs.FineRows.{array_octant_fits}
use Rattle.restrict_op.proofs.fine.sum_octant.Goals as goal

pub loop-m-preserved : goal.loop-m-preserved
loop-m-preserved c =
    let o = c.args.octant in
    let e = extents_of o.n o.g o.var in
    let h = half_extents (o.n / 2) o.var in
    let hy : c.along.inside.y ≡ h.y = search rules in
    let hz : c.along.inside.z ≡ h.z = search rules in
    let within : c.loop-m.m < h.y * h.z = subst (λ w. c.loop-m.m < w * h.z) hy (subst (λ w. c.loop-m.m < c.along.inside.y * w) hz c.loop-m-test.true) in
    one_more_row e (array_octant o.n o.g o.var o.q) (array_octant_fits o.n o.g c.requires.size o.var o.q) c.loop-m.m (fine_summed o.g o.var (number_at e c.args.child.now))
    c.args.parent.now c.loop-m.parent c.sum_octant_row.new.parent within c.loop-m.invariant c.sum_octant_row.ensures
