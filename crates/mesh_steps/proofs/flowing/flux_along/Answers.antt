use Rattle.std.proofs.Common.{◌≡◌, ◌^◌, true, List, ℤ, ap, sym, subst, ◌∙◌}
use Rattle.mesh_model.specs.declared.geometry.Shape.{Shape}
use Rattle.mesh_model.specs.Fields.Advect.{keeps_courant, three}
use Rattle.mesh_model.specs.Fields.ArrayPlaces.{cell_extents, number_at}
use Rattle.mesh_model.specs.Geometry.Blocks.{InDomain}
use Rattle.mesh_model.specs.Tree.Kinds.{Grid}
use Rattle.mesh_model.specs.Tree.ValidGrid.{Valid}
use Rattle.block_tree.proofs.Facts.{known}
use Rattle.block_tree.specs.Numbered.{block_at}
use Rattle.rank_world.specs.Holding.{cell_array}
use Rattle.step_advect.specs.Fluxed.{AreSidesWithin}
use Rattle.mesh_steps.specs.Flowing.{AreFluxes}
use Rattle.staggered.proofs.Blocks.{size_by}
use Rattle.mesh_steps.proofs.Flown.{leaf_sides}
use Rattle.mesh_steps.proofs.flowing.flux_along.Goals as goal

pub flux_cells-requires : goal.flux_cells-requires
flux_cells-requires g c =
    let n = g.row.N in
    let e = g.row.G in
    let w = c.args.world.now in
    let grid = w.told.grid in
    let a = c.args.axis in
    let speeds = three c.args.speeds in
    let valid : Valid grid = subst Valid c.tree-tree.ensures (known c.tree-tree.result.now).valid in
    let shape = c.shape-shape.ensures.value ∙ ap (λ (h : Grid). h.shape) c.tree-tree.ensures in
    let size = size_by n e grid.shape valid.shape c.requires.ready.fit.sizes in
    let inside : InDomain c.shape-shape.result c.at-block.result = subst (λ (s : Shape). InDomain s c.at-block.result) (sym c.shape-shape.ensures.value) c.at-block.ensures.inside in
    let courant : keeps_courant c.shape-shape.result speeds ≡ true = subst (λ (s : Shape). keeps_courant s speeds ≡ true) (sym shape) c.requires.ready.courant in
    let sides = leaf_sides n e w c.args.v c.args.node speeds a valid c.requires.leaf c.requires.ready in
    let small = subst (λ (xs : List ℤ). AreSidesWithin (2 ^ 56) n e a (number_at (cell_extents n e) xs)) (sym c.values-cells.ensures.value) sides in
    record { size = size; shape = c.shape-shape.ensures.limits; inside = inside; cells = c.values-cells.ensures.whole; speeds = c.requires.speeds; courant = courant; small = small; out = c.requires.out }

pub returns-clause-fluxes : goal.returns-clause-fluxes
returns-clause-fluxes g c =
    let grid = c.args.world.now.told.grid in
    let a = c.args.axis in
    let speeds = three c.args.speeds in
    let ys = c.flux_cells.new.out in
    let shape = c.shape-shape.ensures.value ∙ ap (λ (h : Grid). h.shape) c.tree-tree.ensures in
    let block = c.at-block.ensures.value ∙ ap (λ h. block_at h c.args.node) c.tree-tree.ensures in
    subst (λ d. AreFluxes grid speeds a d (cell_array c.args.world.now c.args.v c.args.node) ys) block
    (subst (λ (xs : List ℤ). AreFluxes grid speeds a c.at-block.result xs ys) c.values-cells.ensures.value (c.flux_cells.ensures.fluxes grid shape c.requires.ready.fit.sizes))
