use Rattle.std.proofs.Common.{◌≡◌, ◌^◌, true, List, ℤ, length, ap, sym, subst, ◌∙◌, arith}
use Rattle.mesh_model.specs.declared.fields.values.Var.TheVariants.{FaceWork}
use Rattle.mesh_model.specs.declared.geometry.Shape.{Shape}
use Rattle.mesh_model.specs.Fields.Advect.{keeps_courant, three}
use Rattle.mesh_model.specs.Fields.Arrays.{var_length}
use Rattle.mesh_model.specs.Fields.ArrayPlaces.{cell_extents, number_at}
use Rattle.mesh_model.specs.Geometry.Blocks.{InDomain}
use Rattle.mesh_model.specs.Tree.Kinds.{Grid}
use Rattle.mesh_model.specs.Tree.ValidGrid.{Valid}
use Rattle.block_tree.proofs.Facts.{known}
use Rattle.block_tree.specs.Numbered.{block_at}
use Rattle.rank_world.specs.Holding.{cell_array}
use Rattle.step_advect.specs.Fluxed.{AreSidesWithin}
use Rattle.mesh_steps.specs.Flowing.{AreFluxes}
use Rattle.staggered.proofs.Blocks.{size_by}
use Rattle.mesh_steps.proofs.Flown.{fluxes_here, leaf_flowed, leaf_sides}
use Rattle.mesh_steps.proofs.flowing.flow_axis.Goals as goal

pub flux_cells-requires : goal.flux_cells-requires
flux_cells-requires g c =
    let n = g.row.N in
    let e = g.row.G in
    let w = c.args.world.now in
    let grid = w.told.grid in
    let a = c.args.axis in
    let speeds = three c.args.speeds in
    let valid : Valid grid = subst Valid c.tree-tree.ensures (known c.tree-tree.result.now).valid in
    let shape = c.shape-shape.ensures.value ∙ ap (λ (h : Grid). h.shape) c.tree-tree.ensures in
    let size = size_by n e grid.shape valid.shape c.requires.ready.fit.sizes in
    let inside : InDomain c.shape-shape.result c.at-block.result = subst (λ (s : Shape). InDomain s c.at-block.result) (sym c.shape-shape.ensures.value) c.at-block.ensures.inside in
    let courant : keeps_courant c.shape-shape.result speeds ≡ true = subst (λ (s : Shape). keeps_courant s speeds ≡ true) (sym shape) c.requires.ready.courant in
    let sides = leaf_sides n e w c.args.v c.args.node speeds a valid c.requires.leaf c.requires.ready in
    let lent = c.beside-out.ensures.reads in
    let small = subst (λ (xs : List ℤ). AreSidesWithin (2 ^ 56) n e a (number_at (cell_extents n e) xs)) (sym lent.gives_a) sides in
    record { size = size; shape = c.shape-shape.ensures.limits; inside = inside; cells = ap length lent.gives_a ∙ lent.sizes 0 (omega arith); speeds = c.requires.speeds; courant = courant; small = small; out = lent.whole }

pub returns : goal.returns
returns g c =
    let n = g.row.N in
    let e = g.row.G in
    let w = c.args.world.now in
    let grid = w.told.grid in
    let a = c.args.axis in
    let speeds = three c.args.speeds in
    let ys = c.flux_cells.new.out in
    let xs = cell_array w c.args.v c.args.node in
    let valid : Valid grid = subst Valid c.tree-tree.ensures (known c.tree-tree.result.now).valid in
    let shape = c.shape-shape.ensures.value ∙ ap (λ (h : Grid). h.shape) c.tree-tree.ensures in
    let block = c.at-block.ensures.value ∙ ap (λ h. block_at h c.args.node) c.tree-tree.ensures in
    let fluxes : AreFluxes grid speeds a (block_at grid c.args.node) xs ys =
    subst (λ d. AreFluxes grid speeds a d xs ys) block
    (subst (λ (ks : List ℤ). AreFluxes grid speeds a c.at-block.result ks ys) c.beside-out.ensures.reads.gives_a (c.flux_cells.ensures.fluxes grid shape c.requires.ready.fit.sizes)) in
    let long : length ys ≡ var_length n e (FaceWork a) = c.flux_cells.ensures.size ∙ c.beside-out.ensures.reads.whole in
    let size = size_by n e grid.shape valid.shape c.requires.ready.fit.sizes in
    record {
      flowed = leaf_flowed w c.args.v c.args.node speeds a ys n e c.requires.ready c.requires.leaf size long fluxes;
      here = fluxes_here w c.args.v c.args.node speeds a ys n e c.requires.ready c.requires.leaf size long fluxes;
    }
