use Rattle.std.proofs.Common.{◌≡◌, Some, IfErr, IfOk, ap, arith, length, subst, sym, ◌∙◌}
use Rattle.mesh_model.specs.declared.fields.values.Var.TheVariants.{CellWork}
use Rattle.mesh_model.specs.Fields.ArrayPlaces.{IsSize, cell_extents, number_at}
use Rattle.mesh_model.specs.Fields.Arrays.{var_length}
use Rattle.mesh_model.specs.Fields.Ranks.{world_with}
use Rattle.mesh_model.specs.Geometry.Limits.{IsShape}
use Rattle.mesh_model.specs.Tree.Kinds.{Grid}
use Rattle.mesh_model.proofs.FieldLemmas.Worlds.{fit_after, has_array, only_of, written_in}
use Rattle.step_advect.specs.Applied.{AreInRange, IsApplied, first_out, flows_in, inner, left_at, out_through}
use Rattle.mesh_steps.specs.Settling.{work_cells}
use Rattle.staggered.proofs.Blocks.{size_by}
use Rattle.mesh_steps.proofs.Stepped.{range_of}
use Rattle.mesh_steps.proofs.settling.step_faces.Goals as goal

pub apply-requires-clause-arrays : goal.apply-requires-clause-arrays
apply-requires-clause-arrays g c =
    let n = g.row.N in
    let e = g.row.G in
    let lent = c.beside-out.ensures.reads in
    let faces = c.requires.faces in
    record {
      whole = ap length lent.gives_a ∙ lent.sizes 0 (omega arith);
      in_range = subst (λ xs. AreInRange n (inner e (number_at (cell_extents n e) xs))) (sym lent.gives_a) (range_of n e c.args.world.now c.args.v c.args.node c.requires.may c.requires.leaf);
      along_x = faces.along_x;
      along_y = faces.along_y;
      along_z = faces.along_z;
    }

pub returns-clause-only : goal.returns-clause-only
returns-clause-only g c = only_of c.args.world.now CellWork c.args.node c.apply.new.out c.requires.may.fit.one

pub returns-clause-fit : goal.returns-clause-fit
returns-clause-fit g c =
    let w = c.args.world.now in
    let has = has_array g.row.N g.row.G w CellWork c.args.node c.requires.may.fit c.requires.leaf.there tt in
    let size : IsSize g.row.N g.row.G = size_by g.row.N g.row.G w.told.grid.shape (subst IsShape (c.shape-shape.ensures.value ∙ ap (λ (h : Grid). h.shape) c.tree.ensures) c.shape-shape.ensures.limits) c.requires.may.fit.sizes in
    fit_after w CellWork c.args.node c.apply.new.out c.requires.may.fit.one g.row.N g.row.G size c.requires.may.fit has

pub returns-clause-left : goal.returns-clause-left
returns-clause-left g c =
    let n = g.row.N in
    let e = g.row.G in
    let w = c.args.world.now in
    let node = c.args.node in
    let xs = c.apply.new.out in
    let lent = c.beside-out.ensures.reads in
    let x = c.args.x.now in
    let y = c.args.y.now in
    let z = c.args.z.now in
    let has = has_array n e w CellWork node c.requires.may.fit c.requires.leaf.there tt in
    let size : IsSize n e = size_by n e w.told.grid.shape (subst IsShape (c.shape-shape.ensures.value ∙ ap (λ (h : Grid). h.shape) c.tree.ensures) c.shape-shape.ensures.limits) c.requires.may.fit.sizes in
    let long : length xs ≡ var_length n e CellWork = c.apply.auto.out ∙ lent.whole in
    let is = written_in w CellWork node xs c.requires.may.fit.one n e size c.requires.may.fit has long in
    subst (λ cells. IfOk c.apply.result (λ flown. IsApplied n e (flows_in n e cells x y z) (work_cells w node) (work_cells (world_with w 0 CellWork node xs) node))) lent.gives_a
    (subst (λ o. IfOk c.apply.result (λ flown. IsApplied n e (flows_in n e c.beside-out.result.a.now x y z) o (work_cells (world_with w 0 CellWork node xs) node))) lent.gives_out
    (subst (λ o. IfOk c.apply.result (λ flown. IsApplied n e (flows_in n e c.beside-out.result.a.now x y z) c.beside-out.result.out.now o)) (sym is) c.apply.ensures.left))

pub returns-clause-in_range : goal.returns-clause-in_range
returns-clause-in_range g c =
    subst (λ cells. IfOk c.apply.result (λ flown. AreInRange g.row.N (left_at (flows_in g.row.N g.row.G cells c.args.x.now c.args.y.now c.args.z.now)))) c.beside-out.ensures.reads.gives_a
    c.apply.ensures.in_range

pub returns-clause-flown : goal.returns-clause-flown
returns-clause-flown g c =
    subst (λ cells. IfOk c.apply.result (λ flown. flown ≡ out_through g.row.N (flows_in g.row.N g.row.G cells c.args.x.now c.args.y.now c.args.z.now) c.args.outer)) c.beside-out.ensures.reads.gives_a
    c.apply.ensures.flown

pub returns-clause-refused : goal.returns-clause-refused
returns-clause-refused g c =
    subst (λ cells. IfErr c.apply.result (λ at. first_out g.row.N (left_at (flows_in g.row.N g.row.G cells c.args.x.now c.args.y.now c.args.z.now)) ≡ Some at)) c.beside-out.ensures.reads.gives_a
    c.apply.ensures.refused
