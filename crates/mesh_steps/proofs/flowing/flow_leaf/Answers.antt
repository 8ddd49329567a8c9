use Rattle.amr_num.specs.declared.Axis.{Axis}
use Rattle.amr_num.specs.declared.Axis.TheVariants.{X, Y, Z}
use Rattle.mesh_model.specs.Fields.Advect.{three}
use Rattle.mesh_steps.specs.Flowing.{HasFluxes}
use Rattle.mesh_steps.proofs.Flown.{then_flowed}
use Rattle.mesh_steps.proofs.flowing.flow_leaf.Goals as goal

pub returns : goal.returns
returns g c =
    let n = g.row.N in
    let e = g.row.G in
    let v = c.args.v in
    let speeds = three c.args.speeds in
    let first = c.flow_axis.new.world in
    let second = c.flow_axis-2.new.world in
    let last = c.flow_axis-3.new.world in
    let each : (a : Axis) → HasFluxes last v speeds c.args.node a = elim [
      | X ↦ c.flow_axis-3.ensures.flowed.keeps c.args.node X (c.flow_axis-2.ensures.flowed.keeps c.args.node X c.flow_axis.ensures.here)
      | Y ↦ c.flow_axis-3.ensures.flowed.keeps c.args.node Y c.flow_axis-2.ensures.here
      | Z ↦ c.flow_axis-3.ensures.here
    ] in
    record {
      flowed = then_flowed n e c.args.world.now first last v speeds c.flow_axis.ensures.flowed (then_flowed n e first second last v speeds c.flow_axis-2.ensures.flowed c.flow_axis-3.ensures.flowed);
      here = each;
    }
