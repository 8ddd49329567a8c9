use Rattle.std.proofs.Common.{◌≡◌, Bool, List, refl, subst, sym}
use Rattle.mesh_model.specs.declared.geometry.Shape.{Shape}
use Rattle.mesh_model.specs.Fields.Advect.{three}
use Rattle.mesh_model.specs.Fields.FaceSplits.{by_axis}
use Rattle.mesh_model.specs.Geometry.Blocks.{InDomain}
use Rattle.mesh_model.specs.Geometry.Limits.{IsShape}
use Rattle.mesh_steps.specs.Forcing.{AreClosedSides}
use Rattle.mesh_steps.proofs.Forced.{flow_at, flow_of_sides, leaf_forces, slow_flow, wider_near}
use Rattle.mesh_steps.proofs.forcing.force_edges.Goals as goal

pub edge_values-requires : goal.edge_values-requires
edge_values-requires g c =
    let faces = by_axis c.args.bx.now c.args.by.now c.args.bz.now in
    let b = c.args.block in
    record {
      size = c.requires.size;
      arrays = record { whole = c.requires.whole; small = wider_near g.row.N g.row.G faces c.requires.near };
      slow = slow_flow c.args.shape.now (three c.args.speeds) b c.closed_sides-closed.result c.requires.shape.max c.requires.courant c.requires.inside.level;
      out = c.requires.out;
    }

pub returns-clause-forces : goal.returns-clause-forces
returns-clause-forces g c grid same sized =
    let speeds = three c.args.speeds in
    let a = c.args.axis in
    let b = c.args.block in
    let closed : List Bool = c.closed_sides-closed.result in
    let faces = by_axis c.args.bx.now c.args.by.now c.args.bz.now in
    let is = subst (λ (s : Shape). AreClosedSides s b closed) same c.closed_sides-closed.ensures in
    leaf_forces grid speeds a b (flow_at speeds b closed) faces c.args.out.now c.edge_values.new.out (subst IsShape same c.requires.shape) (subst (λ (s : Shape). InDomain s b) same c.requires.inside)
    (flow_of_sides grid.shape speeds b closed is) g.row.N g.row.G sized c.requires.near c.edge_values.ensures.forces c.edge_values.ensures.size

pub returns-clause-size : goal.returns-clause-size
returns-clause-size g c = c.edge_values.ensures.forces.size
