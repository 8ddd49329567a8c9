use Rattle.std.proofs.Common.{◌≡◌, ◌^◌, Some, IfErr, IfOk, ap, arith, length, subst, sym, ◌∙◌}
use Rattle.amr_num.specs.declared.Axis.{Axis}
use Rattle.amr_num.specs.declared.Axis.TheVariants.{X, Y, Z}
use Rattle.mesh_model.specs.declared.fields.values.Var.TheVariants.{CellWork}
use Rattle.mesh_model.specs.Fields.ArrayPlaces.{IsSize, cell_extents, face_extents, number_at}
use Rattle.mesh_model.specs.Fields.Arrays.{var_length}
use Rattle.mesh_model.specs.Fields.Ranks.{world_with}
use Rattle.mesh_model.specs.Geometry.Limits.{IsShape}
use Rattle.mesh_model.specs.Tree.Kinds.{Grid}
use Rattle.mesh_model.proofs.FieldLemmas.Worlds.{fit_after, has_array, only_of, written_in}
use Rattle.flux_conserve.specs.Work.{work_array}
use Rattle.step_advect.specs.Applied.{AreInRange, IsApplied, first_out, flows_in, inner, left_at}
use Rattle.step_advect.specs.Fluxed.{AreFacesWithin}
use Rattle.mesh_steps.specs.Settling.{work_cells}
use Rattle.staggered.proofs.Blocks.{size_by}
use Rattle.mesh_steps.proofs.Stepped.{faces_of, in_flows, range_of}
use Rattle.mesh_steps.proofs.settling.step_leaf.Goals as goal

pub apply-requires-clause-arrays : goal.apply-requires-clause-arrays
apply-requires-clause-arrays g c =
    let n = g.row.N in
    let e = g.row.G in
    let lent = c.beside-out.ensures.reads in
    let small : (a : Axis) → AreFacesWithin (2 ^ 58) n e a (number_at (face_extents n e a) (work_array c.args.world.now a c.args.node)) = λ a. faces_of n e c.args.world.now c.args.v c.args.node a c.requires.may c.requires.leaf in
    record {
      whole = ap length lent.gives_a ∙ lent.sizes 0 (omega arith);
      in_range = subst (λ xs. AreInRange n (inner e (number_at (cell_extents n e) xs))) (sym lent.gives_a) (range_of n e c.args.world.now c.args.v c.args.node c.requires.may c.requires.leaf.own);
      along_x = record { whole = ap length lent.gives_b ∙ lent.sizes 1 (omega arith); small = subst (λ xs. AreFacesWithin (2 ^ 58) n e X (number_at (face_extents n e X) xs)) (sym lent.gives_b) (small X) };
      along_y = record { whole = ap length lent.gives_c ∙ lent.sizes 2 (omega arith); small = subst (λ xs. AreFacesWithin (2 ^ 58) n e Y (number_at (face_extents n e Y) xs)) (sym lent.gives_c) (small Y) };
      along_z = record { whole = ap length lent.gives_d ∙ lent.sizes 3 (omega arith); small = subst (λ xs. AreFacesWithin (2 ^ 58) n e Z (number_at (face_extents n e Z) xs)) (sym lent.gives_d) (small Z) };
    }

pub returns-clause-only : goal.returns-clause-only
returns-clause-only g c = only_of c.args.world.now CellWork c.args.node c.apply.new.out c.requires.may.fit.one

pub returns-clause-fit : goal.returns-clause-fit
returns-clause-fit g c =
    let w = c.args.world.now in
    let has = has_array g.row.N g.row.G w CellWork c.args.node c.requires.may.fit c.requires.leaf.own.there tt in
    let size : IsSize g.row.N g.row.G = size_by g.row.N g.row.G w.told.grid.shape (subst IsShape (c.shape-shape.ensures.value ∙ ap (λ (h : Grid). h.shape) c.tree.ensures) c.shape-shape.ensures.limits) c.requires.may.fit.sizes in
    fit_after w CellWork c.args.node c.apply.new.out c.requires.may.fit.one g.row.N g.row.G size c.requires.may.fit has

pub returns-clause-left : goal.returns-clause-left
returns-clause-left g c =
    let n = g.row.N in
    let e = g.row.G in
    let w = c.args.world.now in
    let node = c.args.node in
    let xs = c.apply.new.out in
    let lent = c.beside-out.ensures.reads in
    let has = has_array n e w CellWork node c.requires.may.fit c.requires.leaf.own.there tt in
    let size : IsSize n e = size_by n e w.told.grid.shape (subst IsShape (c.shape-shape.ensures.value ∙ ap (λ (h : Grid). h.shape) c.tree.ensures) c.shape-shape.ensures.limits) c.requires.may.fit.sizes in
    let long : length xs ≡ var_length n e CellWork = c.apply.auto.out ∙ lent.whole in
    let is = written_in w CellWork node xs c.requires.may.fit.one n e size c.requires.may.fit has long in
    in_flows n e w c.args.v node (λ f. IfOk c.apply.result (λ flown. IsApplied n e f (work_cells w node) (work_cells (world_with w 0 CellWork node xs) node)))
    c.beside-out.result.a.now c.beside-out.result.b.now c.beside-out.result.c.now c.beside-out.result.d.now lent.gives_a lent.gives_b lent.gives_c lent.gives_d
    (subst (λ o. IfOk c.apply.result (λ flown. IsApplied n e (flows_in n e c.beside-out.result.a.now c.beside-out.result.b.now c.beside-out.result.c.now c.beside-out.result.d.now) o (work_cells (world_with w 0 CellWork node xs) node))) lent.gives_out
    (subst (λ o. IfOk c.apply.result (λ flown. IsApplied n e (flows_in n e c.beside-out.result.a.now c.beside-out.result.b.now c.beside-out.result.c.now c.beside-out.result.d.now) c.beside-out.result.out.now o)) (sym is) c.apply.ensures.left))

pub returns-clause-refused : goal.returns-clause-refused
returns-clause-refused g c =
    let lent = c.beside-out.ensures.reads in
    in_flows g.row.N g.row.G c.args.world.now c.args.v c.args.node (λ f. IfErr c.apply.result (λ at. first_out g.row.N (left_at f) ≡ Some at))
    c.beside-out.result.a.now c.beside-out.result.b.now c.beside-out.result.c.now c.beside-out.result.d.now lent.gives_a lent.gives_b lent.gives_c lent.gives_d c.apply.ensures.refused
