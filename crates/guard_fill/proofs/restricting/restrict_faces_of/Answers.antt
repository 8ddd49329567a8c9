use Rattle.std.proofs.Common.{◌∙◌, ap, arith}
use Rattle.amr_num.specs.declared.Axis.{Axis}
use Rattle.amr_num.specs.declared.Axis.TheVariants.{X, Y, Z}
use Rattle.mesh_model.specs.declared.fields.values.Var.TheVariants.{Face}
use Rattle.mesh_model.specs.Tree.Kinds.{Grid}
use Rattle.restrict_op.proofs.FaceOctants.{view_of}
use Rattle.guard_fill.proofs.AxisSums.{still_small, three_only, three_views}
use Rattle.guard_fill.proofs.Restricted.{ready_after, ready_now}
use Rattle.guard_fill.proofs.Summable.{apart_faces, few_faces, faces_add_up, faces_have, nodes_hold_faces, valid}
use Rattle.guard_fill.proofs.restricting.restrict_faces_of.Goals as goal

pub restrict_arrays-requires : goal.restrict_arrays-requires
restrict_arrays-requires g c =
    let w = c.args.world.now in (
      omega arith,
      (
        ready_now g.row.N g.row.G w (Face X) c.shape-shape.result c.shape-shape.ensures.limits (c.shape-shape.ensures.value ∙ ap (λ (h : Grid). h.shape) c.tree.ensures) c.requires.fit c.requires.variable,
        few_faces w c.requires.mesh X c.requires.variable,
      ),
    )

pub restrict_arrays-requires-2 : goal.restrict_arrays-requires-2
restrict_arrays-requires-2 g c =
    let w = c.args.world.now in
    let x = c.restrict_arrays.new.world in
    let only = c.restrict_arrays.ensures.only in
    let ready = ready_now g.row.N g.row.G w (Face Y) c.shape-shape.result c.shape-shape.ensures.limits (c.shape-shape.ensures.value ∙ ap (λ (h : Grid). h.shape) c.tree.ensures) c.requires.fit c.requires.variable in (
      omega arith,
      (
        ready_after g.row.N g.row.G w x (Face Y) ready c.restrict_arrays.ensures.fit only.told,
        still_small Face apart_faces w x X only Y (few_faces w c.requires.mesh Y c.requires.variable),
      ),
    )

pub restrict_arrays-requires-3 : goal.restrict_arrays-requires-3
restrict_arrays-requires-3 g c =
    let w = c.args.world.now in
    let x = c.restrict_arrays.new.world in
    let y = c.restrict_arrays-2.new.world in
    let only = c.restrict_arrays.ensures.only in
    let then = c.restrict_arrays-2.ensures.only in
    let ready = ready_now g.row.N g.row.G w (Face Z) c.shape-shape.result c.shape-shape.ensures.limits (c.shape-shape.ensures.value ∙ ap (λ (h : Grid). h.shape) c.tree.ensures) c.requires.fit c.requires.variable in (
      omega arith,
      (
        ready_after g.row.N g.row.G w y (Face Z) ready c.restrict_arrays-2.ensures.fit (then.told ∙ only.told),
        still_small Face apart_faces x y Y then Z (still_small Face apart_faces w x X only Z (few_faces w c.requires.mesh Z c.requires.variable)),
      ),
    )

pub returns-clause-only : goal.returns-clause-only
returns-clause-only g c =
    three_only Face apart_faces c.args.world.now c.restrict_arrays.new.world c.restrict_arrays-2.new.world c.restrict_arrays-3.new.world c.restrict_arrays.ensures.only c.restrict_arrays-2.ensures.only c.restrict_arrays-3.ensures.only

pub returns-clause-views : goal.returns-clause-views
returns-clause-views g c field leaves =
    let w = c.args.world.now in
    let grid = w.told.grid in
    let right = valid w c.requires.mesh in
    let sums = λ (a : Axis). faces_add_up grid right a field in
    let z = c.restrict_arrays-3.new.world in
    let told = c.restrict_arrays-3.ensures.only.told ∙ c.restrict_arrays-2.ensures.only.told ∙ c.restrict_arrays.ensures.only.told in
    nodes_hold_faces w z right field told
    (three_views Face apart_faces w c.restrict_arrays.new.world c.restrict_arrays-2.new.world z c.restrict_arrays.ensures.only c.restrict_arrays-2.ensures.only c.restrict_arrays-3.ensures.only
    (λ a. view_of grid field a right) sums (λ a. faces_have w c.requires.mesh a field leaves)
    (c.restrict_arrays.ensures.views (view_of grid field X right) (sums X)) (c.restrict_arrays-2.ensures.views (view_of grid field Y right) (sums Y)) (c.restrict_arrays-3.ensures.views (view_of grid field Z right) (sums Z)))
