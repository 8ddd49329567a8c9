use Rattle.std.proofs.Common.{◌∙◌, ap, arith}
use Rattle.amr_num.specs.declared.Axis.TheVariants.{X, Y, Z}
use Rattle.mesh_model.specs.declared.fields.values.Var.TheVariants.{Edge}
use Rattle.mesh_model.specs.Tree.Kinds.{Grid}
use Rattle.guard_fill.proofs.AxisGuards.{edge_guards, edge_nodes, edge_views_still, three_guards_only, three_reached, view_of_edges}
use Rattle.guard_fill.proofs.Reached.{edges_mesh}
use Rattle.guard_fill.proofs.Restricted.{ready_after, ready_now}
use Rattle.guard_fill.proofs.Summable.{apart_edges}
use Rattle.guard_fill.proofs.guarding.fill_edges_of.Goals as goal

pub reach_arrays-requires : goal.reach_arrays-requires
reach_arrays-requires g c =
    let w = c.args.world.now in (
      omega arith,
      (
        ready_now g.row.N g.row.G w (Edge X) c.shape-shape.result c.shape-shape.ensures.limits (c.shape-shape.ensures.value ∙ ap (λ (h : Grid). h.shape) c.tree.ensures) c.requires.fit c.requires.variable,
        (tt, c.requires.mesh),
      ),
    )

pub reach_arrays-requires-2 : goal.reach_arrays-requires-2
reach_arrays-requires-2 g c =
    let w = c.args.world.now in
    let x = c.reach_arrays.new.world in
    let only = c.reach_arrays.ensures.only in
    let ready = ready_now g.row.N g.row.G w (Edge Y) c.shape-shape.result c.shape-shape.ensures.limits (c.shape-shape.ensures.value ∙ ap (λ (h : Grid). h.shape) c.tree.ensures) c.requires.fit c.requires.variable in (
      omega arith,
      (ready_after g.row.N g.row.G w x (Edge Y) ready c.reach_arrays.ensures.fit only.told, (tt, edges_mesh w x X only c.requires.mesh)),
    )

pub reach_arrays-requires-3 : goal.reach_arrays-requires-3
reach_arrays-requires-3 g c =
    let w = c.args.world.now in
    let x = c.reach_arrays.new.world in
    let y = c.reach_arrays-2.new.world in
    let only = c.reach_arrays.ensures.only in
    let then = c.reach_arrays-2.ensures.only in
    let ready = ready_now g.row.N g.row.G w (Edge Z) c.shape-shape.result c.shape-shape.ensures.limits (c.shape-shape.ensures.value ∙ ap (λ (h : Grid). h.shape) c.tree.ensures) c.requires.fit c.requires.variable in (
      omega arith,
      (ready_after g.row.N g.row.G w y (Edge Z) ready c.reach_arrays-2.ensures.fit (then.told ∙ only.told), (tt, edges_mesh x y Y then (edges_mesh w x X only c.requires.mesh))),
    )

pub returns-clause-only : goal.returns-clause-only
returns-clause-only g c =
    three_guards_only Edge apart_edges c.args.world.now c.reach_arrays.new.world c.reach_arrays-2.new.world c.reach_arrays-3.new.world c.reach_arrays.ensures.only c.reach_arrays-2.ensures.only c.reach_arrays-3.ensures.only

pub returns-clause-guards : goal.returns-clause-guards
returns-clause-guards g c field holds =
    let w = c.args.world.now in
    let z = c.reach_arrays-3.new.world in
    let told = c.reach_arrays-3.ensures.only.told ∙ c.reach_arrays-2.ensures.only.told ∙ c.reach_arrays.ensures.only.told in
    edge_guards w field z told
    (three_reached Edge apart_edges w c.reach_arrays.new.world c.reach_arrays-2.new.world z c.reach_arrays.ensures.only c.reach_arrays-2.ensures.only c.reach_arrays-3.ensures.only
    (view_of_edges w field) (edge_views_still w field) (edge_nodes w field holds)
    (c.reach_arrays.ensures.guards (view_of_edges w field X)) (c.reach_arrays-2.ensures.guards (view_of_edges w field Y)) (c.reach_arrays-3.ensures.guards (view_of_edges w field Z)))
