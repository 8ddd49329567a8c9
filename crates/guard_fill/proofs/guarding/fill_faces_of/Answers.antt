use Rattle.std.proofs.Common.{◌∙◌, ap, arith}
use Rattle.amr_num.specs.declared.Axis.TheVariants.{X, Y, Z}
use Rattle.mesh_model.specs.declared.fields.values.Var.TheVariants.{Face}
use Rattle.mesh_model.specs.Tree.Kinds.{Grid}
use Rattle.guard_fill.proofs.AxisGuards.{face_guards, face_nodes, face_views_still, three_guards_only, three_reached, view_of_faces}
use Rattle.guard_fill.proofs.Reached.{faces_mesh}
use Rattle.guard_fill.proofs.Restricted.{ready_after, ready_now}
use Rattle.guard_fill.proofs.Summable.{apart_faces}
use Rattle.guard_fill.proofs.guarding.fill_faces_of.Goals as goal

pub reach_arrays-requires : goal.reach_arrays-requires
reach_arrays-requires g c =
    let w = c.args.world.now in (
      omega arith,
      (
        ready_now g.row.N g.row.G w (Face X) c.shape-shape.result c.shape-shape.ensures.limits (c.shape-shape.ensures.value ∙ ap (λ (h : Grid). h.shape) c.tree.ensures) c.requires.fit c.requires.variable,
        (tt, c.requires.mesh),
      ),
    )

pub reach_arrays-requires-2 : goal.reach_arrays-requires-2
reach_arrays-requires-2 g c =
    let w = c.args.world.now in
    let x = c.reach_arrays.new.world in
    let only = c.reach_arrays.ensures.only in
    let ready = ready_now g.row.N g.row.G w (Face Y) c.shape-shape.result c.shape-shape.ensures.limits (c.shape-shape.ensures.value ∙ ap (λ (h : Grid). h.shape) c.tree.ensures) c.requires.fit c.requires.variable in (
      omega arith,
      (ready_after g.row.N g.row.G w x (Face Y) ready c.reach_arrays.ensures.fit only.told, (tt, faces_mesh w x X only c.requires.mesh)),
    )

pub reach_arrays-requires-3 : goal.reach_arrays-requires-3
reach_arrays-requires-3 g c =
    let w = c.args.world.now in
    let x = c.reach_arrays.new.world in
    let y = c.reach_arrays-2.new.world in
    let only = c.reach_arrays.ensures.only in
    let then = c.reach_arrays-2.ensures.only in
    let ready = ready_now g.row.N g.row.G w (Face Z) c.shape-shape.result c.shape-shape.ensures.limits (c.shape-shape.ensures.value ∙ ap (λ (h : Grid). h.shape) c.tree.ensures) c.requires.fit c.requires.variable in (
      omega arith,
      (ready_after g.row.N g.row.G w y (Face Z) ready c.reach_arrays-2.ensures.fit (then.told ∙ only.told), (tt, faces_mesh x y Y then (faces_mesh w x X only c.requires.mesh))),
    )

pub returns-clause-only : goal.returns-clause-only
returns-clause-only g c =
    three_guards_only Face apart_faces c.args.world.now c.reach_arrays.new.world c.reach_arrays-2.new.world c.reach_arrays-3.new.world c.reach_arrays.ensures.only c.reach_arrays-2.ensures.only c.reach_arrays-3.ensures.only

pub returns-clause-guards : goal.returns-clause-guards
returns-clause-guards g c field holds =
    let w = c.args.world.now in
    let z = c.reach_arrays-3.new.world in
    let told = c.reach_arrays-3.ensures.only.told ∙ c.reach_arrays-2.ensures.only.told ∙ c.reach_arrays.ensures.only.told in
    face_guards w field z told
    (three_reached Face apart_faces w c.reach_arrays.new.world c.reach_arrays-2.new.world z c.reach_arrays.ensures.only c.reach_arrays-2.ensures.only c.reach_arrays-3.ensures.only
    (view_of_faces w field) (face_views_still w field) (face_nodes w field holds)
    (c.reach_arrays.ensures.guards (view_of_faces w field X)) (c.reach_arrays-2.ensures.guards (view_of_faces w field Y)) (c.reach_arrays-3.ensures.guards (view_of_faces w field Z)))
