use Rattle.std.proofs.Common.{◌≡◌, ◌^◌, true, List, ℤ, length, ap, sym, subst, ◌∙◌, arith}
use Rattle.amr_num.specs.declared.Axis.{Axis}
use Rattle.amr_num.specs.declared.Axis.TheVariants.{X, Y, Z}
use Rattle.mesh_model.specs.declared.fields.values.Var.TheVariants.{EdgeWork}
use Rattle.mesh_model.specs.declared.geometry.Shape.{Shape}
use Rattle.mesh_model.specs.Fields.Advect.{keeps_courant, three}
use Rattle.mesh_model.specs.Fields.Arrays.{var_length}
use Rattle.mesh_model.specs.Fields.ArrayPlaces.{face_extents, size_of}
use Rattle.mesh_model.specs.Fields.FaceSplits.{by_axis}
use Rattle.mesh_model.specs.Geometry.Blocks.{InDomain}
use Rattle.mesh_model.specs.Tree.Kinds.{Grid}
use Rattle.mesh_model.specs.Tree.ValidGrid.{Valid}
use Rattle.block_tree.proofs.Facts.{known}
use Rattle.block_tree.specs.Numbered.{block_at}
use Rattle.staggered.proofs.Blocks.{size_by}
use Rattle.step_induct.specs.Forces.{AreFacesNear}
use Rattle.mesh_steps.specs.Forcing.{AreForces, face_arrays}
use Rattle.mesh_steps.proofs.Forced.{forces_here, leaf_forced, leaf_near}
use Rattle.mesh_steps.proofs.forcing.force_axis.Goals as goal

pub force_edges-requires : goal.force_edges-requires
force_edges-requires g c =
    let n = g.row.N in
    let e = g.row.G in
    let w = c.args.world.now in
    let grid = w.told.grid in
    let speeds = three c.args.speeds in
    let valid : Valid grid = subst Valid c.tree-tree.ensures (known c.tree-tree.result.now).valid in
    let shape = c.shape-shape.ensures.value ∙ ap (λ (h : Grid). h.shape) c.tree-tree.ensures in
    let inside : InDomain c.shape-shape.result c.at-block.result = subst (λ (s : Shape). InDomain s c.at-block.result) (sym c.shape-shape.ensures.value) c.at-block.ensures.inside in
    let lent = c.beside-out.ensures.reads in
    let arrays : by_axis c.beside-out.result.a.now c.beside-out.result.b.now c.beside-out.result.c.now ≡ face_arrays w c.args.node = (λ i. by_axis (lent.gives_a i) (lent.gives_b i) (lent.gives_c i)) in
    let whole : (a : Axis) → length (by_axis c.beside-out.result.a.now c.beside-out.result.b.now c.beside-out.result.c.now a) ≡ size_of (face_extents n e a) = elim [
      | X ↦ ap length lent.gives_a ∙ lent.sizes 0 (omega arith)
      | Y ↦ ap length lent.gives_b ∙ lent.sizes 1 (omega arith)
      | Z ↦ ap length lent.gives_c ∙ lent.sizes 2 (omega arith)
    ] in
    record {
      size = size_by n e grid.shape valid.shape c.requires.may.fit.sizes;
      shape = c.shape-shape.ensures.limits;
      inside = inside;
      whole = whole;
      near = subst (AreFacesNear (2 ^ 50) n e) (sym arrays) (leaf_near n e w c.args.node speeds valid c.requires.leaf c.requires.may);
      speeds = c.requires.speeds;
      courant = subst (λ (s : Shape). keeps_courant s speeds ≡ true) (sym shape) c.requires.may.courant;
      out = lent.whole;
    }

pub returns : goal.returns
returns g c =
    let n = g.row.N in
    let e = g.row.G in
    let w = c.args.world.now in
    let grid = w.told.grid in
    let a = c.args.axis in
    let node = c.args.node in
    let speeds = three c.args.speeds in
    let ys = c.force_edges.new.out in
    let lent = c.beside-out.ensures.reads in
    let valid : Valid grid = subst Valid c.tree-tree.ensures (known c.tree-tree.result.now).valid in
    let shape = c.shape-shape.ensures.value ∙ ap (λ (h : Grid). h.shape) c.tree-tree.ensures in
    let block = c.at-block.ensures.value ∙ ap (λ h. block_at h node) c.tree-tree.ensures in
    let arrays : by_axis c.beside-out.result.a.now c.beside-out.result.b.now c.beside-out.result.c.now ≡ face_arrays w node = (λ i. by_axis (lent.gives_a i) (lent.gives_b i) (lent.gives_c i)) in
    let forces : AreForces grid speeds a (block_at grid node) (face_arrays w node) ys =
    subst (λ d. AreForces grid speeds a d (face_arrays w node) ys) block
    (subst (λ (f : Axis → List ℤ). AreForces grid speeds a c.at-block.result f ys) arrays (c.force_edges.ensures.forces grid shape c.requires.may.fit.sizes)) in
    let long : length ys ≡ var_length n e (EdgeWork a) = c.force_edges.ensures.size ∙ lent.whole in
    let size = size_by n e grid.shape valid.shape c.requires.may.fit.sizes in
    record {
      forced = leaf_forced w node speeds a ys n e c.requires.may c.requires.leaf size long forces;
      here = forces_here w node speeds a ys n e c.requires.may c.requires.leaf size long forces;
    }
