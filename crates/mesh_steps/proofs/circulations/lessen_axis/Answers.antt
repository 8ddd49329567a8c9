use Rattle.std.proofs.Common.{◌≡◌, true, List, ℤ, None, Some, OnOk, IfErr, ap, length, subst, sym, ◌∙◌}
use Rattle.amr_num.specs.declared.Axis.{Axis}
use Rattle.mesh_model.specs.declared.fields.values.Var.TheVariants.{FaceWork}
use Rattle.mesh_model.specs.Fields.Arrays.{var_length}
use Rattle.mesh_model.specs.Fields.ArrayPlaces.{IsSize}
use Rattle.mesh_model.specs.Fields.FaceSplits.{by_axis}
use Rattle.mesh_model.specs.Fields.Ranks.{world_with}
use Rattle.mesh_model.specs.Geometry.Limits.{IsShape}
use Rattle.mesh_model.specs.Tree.Kinds.{Grid}
use Rattle.mesh_model.proofs.FieldLemmas.Worlds.{fit_after, has_array, only_of, written_in}
use Rattle.rank_world.specs.Holding.{face_array, stored}
use Rattle.step_induct.specs.Circling.{IsLessened, edges_of, faces_of, first_above, lessened}
use Rattle.staggered.proofs.Blocks.{size_by}
use Rattle.mesh_steps.specs.declared.circulations.Step.TheVariants.{Induct}
use Rattle.mesh_steps.proofs.StepWalk.{three_arrays}
use Rattle.mesh_steps.proofs.circulations.lessen_axis.Goals as goal

pub returns-clause-only : goal.returns-clause-only
returns-clause-only g c = only_of c.args.world.now (FaceWork c.args.axis) c.args.node c.apply.new.out c.requires.leaf.fit.one

pub returns-clause-fit : goal.returns-clause-fit
returns-clause-fit g c =
    let w = c.args.world.now in
    let has = has_array g.row.N g.row.G w (FaceWork c.args.axis) c.args.node c.requires.leaf.fit c.requires.leaf.leaf.there tt in
    let size : IsSize g.row.N g.row.G = size_by g.row.N g.row.G w.told.grid.shape (subst IsShape (c.shape-shape.ensures.value ∙ ap (λ (h : Grid). h.shape) c.tree.ensures) c.shape-shape.ensures.limits) c.requires.leaf.fit.sizes in
    fit_after w (FaceWork c.args.axis) c.args.node c.apply.new.out c.requires.leaf.fit.one g.row.N g.row.G size c.requires.leaf.fit has

pub returns-clause-given : goal.returns-clause-given
returns-clause-given g c =
    let n = g.row.N in
    let e = g.row.G in
    let w = c.args.world.now in
    let node = c.args.node in
    let a = c.args.axis in
    let xs = c.apply.new.out in
    let lent = c.beside-out.ensures.reads in
    let has = has_array n e w (FaceWork a) node c.requires.leaf.fit c.requires.leaf.leaf.there tt in
    let size : IsSize n e = size_by n e w.told.grid.shape (subst IsShape (c.shape-shape.ensures.value ∙ ap (λ (h : Grid). h.shape) c.tree.ensures) c.shape-shape.ensures.limits) c.requires.leaf.fit.sizes in
    let long : length xs ≡ var_length n e (FaceWork a) = c.apply.ensures.made.size ∙ lent.whole in
    let is = written_in w (FaceWork a) node xs c.requires.leaf.fit.one n e size c.requires.leaf.fit has long in
    subst (λ (arrays : Axis → List ℤ). IsLessened n e a (face_array w a node) arrays (stored true w a node) (stored true (world_with w 0 (FaceWork a) node xs) a node)) (three_arrays Induct w node _ _ _ lent.gives_b lent.gives_c lent.gives_d)
    (subst (λ (f : List ℤ). IsLessened n e a f (by_axis c.beside-out.result.b.now c.beside-out.result.c.now c.beside-out.result.d.now) (stored true w a node) (stored true (world_with w 0 (FaceWork a) node xs) a node)) lent.gives_a
    (subst (λ (o : List ℤ). IsLessened n e a c.beside-out.result.a.now (by_axis c.beside-out.result.b.now c.beside-out.result.c.now c.beside-out.result.d.now) o (stored true (world_with w 0 (FaceWork a) node xs) a node)) lent.gives_out
    (subst (λ (o : List ℤ). IsLessened n e a c.beside-out.result.a.now (by_axis c.beside-out.result.b.now c.beside-out.result.c.now c.beside-out.result.d.now) c.beside-out.result.out.now o) (sym is) c.apply.ensures.made)))

pub returns-clause-in_range : goal.returns-clause-in_range
returns-clause-in_range g c =
    let lent = c.beside-out.ensures.reads in
    let a = c.args.axis in
    subst (λ (arrays : Axis → List ℤ). OnOk c.apply.result (first_above g.row.N a c.args.sides (lessened (faces_of g.row.N g.row.G a (face_array c.args.world.now a c.args.node)) (edges_of g.row.N g.row.G arrays) a) ≡ None)) (three_arrays Induct c.args.world.now c.args.node _ _ _ lent.gives_b lent.gives_c lent.gives_d)
    (subst (λ (f : List ℤ). OnOk c.apply.result (first_above g.row.N a c.args.sides (lessened (faces_of g.row.N g.row.G a f) (edges_of g.row.N g.row.G (by_axis c.beside-out.result.b.now c.beside-out.result.c.now c.beside-out.result.d.now)) a) ≡ None)) lent.gives_a
    c.apply.ensures.in_range)

pub returns-clause-refused : goal.returns-clause-refused
returns-clause-refused g c =
    let lent = c.beside-out.ensures.reads in
    let a = c.args.axis in
    subst (λ (arrays : Axis → List ℤ). IfErr c.apply.result (λ at. first_above g.row.N a c.args.sides (lessened (faces_of g.row.N g.row.G a (face_array c.args.world.now a c.args.node)) (edges_of g.row.N g.row.G arrays) a) ≡ Some at)) (three_arrays Induct c.args.world.now c.args.node _ _ _ lent.gives_b lent.gives_c lent.gives_d)
    (subst (λ (f : List ℤ). IfErr c.apply.result (λ at. first_above g.row.N a c.args.sides (lessened (faces_of g.row.N g.row.G a f) (edges_of g.row.N g.row.G (by_axis c.beside-out.result.b.now c.beside-out.result.c.now c.beside-out.result.d.now)) a) ≡ Some at)) lent.gives_a
    c.apply.ensures.refused)
