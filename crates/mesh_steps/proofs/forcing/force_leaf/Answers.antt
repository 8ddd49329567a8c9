use Rattle.amr_num.specs.declared.Axis.{Axis}
use Rattle.amr_num.specs.declared.Axis.TheVariants.{X, Y, Z}
use Rattle.mesh_model.specs.Fields.Advect.{three}
use Rattle.mesh_steps.specs.Forcing.{HasForces}
use Rattle.mesh_steps.proofs.Forced.{then_forced}
use Rattle.mesh_steps.proofs.forcing.force_leaf.Goals as goal

pub returns : goal.returns
returns g c =
    let n = g.row.N in
    let e = g.row.G in
    let node = c.args.node in
    let speeds = three c.args.speeds in
    let first = c.force_axis.new.world in
    let second = c.force_axis-2.new.world in
    let last = c.force_axis-3.new.world in
    let each : (a : Axis) → HasForces last speeds node a = elim [
      | X ↦ c.force_axis-3.ensures.forced.keeps node X (c.force_axis-2.ensures.forced.keeps node X c.force_axis.ensures.here)
      | Y ↦ c.force_axis-3.ensures.forced.keeps node Y c.force_axis-2.ensures.here
      | Z ↦ c.force_axis-3.ensures.here
    ] in
    record {
      forced = then_forced n e c.args.world.now first last speeds c.force_axis.ensures.forced (then_forced n e first second last speeds c.force_axis-2.ensures.forced c.force_axis-3.ensures.forced);
      here = each;
    }
