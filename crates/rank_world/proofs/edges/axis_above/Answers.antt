use Rattle.std.proofs.Common.{◌≡◌, ◌≤◌, ◌+◌, None, Some, sym, ap, subst, ◌∙◌}
use Rattle.amr_num.specs.declared.Axis.TheVariants.{X, Y, Z}
use Rattle.mesh_model.specs.declared.geometry.Shape.{Shape}
use Rattle.mesh_model.specs.Fields.ArrayPlaces.{edge_extents, number_at}
use Rattle.mesh_model.specs.Geometry.Blocks.{InDomain}
use Rattle.mesh_model.specs.Tree.Kinds.{Grid}
use Rattle.mesh_model.specs.Tree.ValidGrid.{Valid}
use Rattle.block_tree.specs.GridOf.{grid_of}
use Rattle.block_tree.specs.Numbered.{block_at}
use Rattle.block_tree.proofs.Facts.{known}
use Rattle.rank_world.proofs.EdgeRange.{at_most, axis_found, told_as}
use Rattle.rank_world.proofs.Found.{edge_inside, small_block}
use Rattle.rank_world.proofs.edges.axis_above.Goals as goal

pub edge_told-requires-clause-block : goal.edge_told-requires-clause-block
edge_told-requires-clause-block g c =
    small_block c.shape-shape.result c.at-block.result c.shape-shape.ensures.limits (subst (λ s. InDomain s c.at-block.result) (sym c.shape-shape.ensures.value) c.at-block.ensures.inside)

pub edge_told-requires-clause-place : goal.edge_told-requires-clause-place
edge_told-requires-clause-place g c =
    let n = g.row.N in
    let a = c.args.axis in
    let found = c.in-Some.found in
    let there = edge_inside (λ i j k. number_at (edge_extents n g.row.G a) c.values.result.now (g.row.G + i) (g.row.G + j) (g.row.G + k)) n (record { axis = a; left_out = c.args.finer }) found (sym c.edges_above.ensures ∙ c.in-Some.is) in
    let same : n ≡ c.shape-shape.result.n = sym c.requires.fit.sizes.cells ∙ ap (λ (h : Grid). h.shape.n) (sym c.tree-tree.ensures) ∙ ap (λ (s : Shape). s.n) (sym c.shape-shape.ensures.value) in
    subst (λ m. (found.i ≤ m) × (found.j ≤ m) × (found.k ≤ m)) same (at_most a X n found.i there.0, at_most a Y n found.j there.1, at_most a Z n found.k there.2)

pub returns-in-None : goal.returns-in-None
returns-in-None g c field has =
    let w = c.args.world.now in
    let tree = c.tree-tree.ensures in
    let valid : Valid w.told.grid = subst Valid tree (known c.tree-tree.result.now).valid in
    let inside : InDomain w.told.grid.shape (block_at w.told.grid c.args.node) =
    subst (λ (h : Grid). InDomain h.shape (block_at h c.args.node)) tree (subst (λ d. InDomain (grid_of c.tree-tree.result.now).shape d) c.at-block.ensures.value c.at-block.ensures.inside) in
    axis_found g.row.N g.row.G w c.args.axis c.args.node c.requires.fit valid c.requires.leaf inside c.args.finer c.requires.finer c.values.result.now c.values.ensures.value field has None (sym c.in-None.is ∙ c.edges_above.ensures)

pub returns-in-Some : goal.returns-in-Some
returns-in-Some g c field has =
    let w = c.args.world.now in
    let tree = c.tree-tree.ensures in
    let found = c.in-Some.found in
    let b = block_at w.told.grid c.args.node in
    let valid : Valid w.told.grid = subst Valid tree (known c.tree-tree.result.now).valid in
    let inside : InDomain w.told.grid.shape b =
    subst (λ (h : Grid). InDomain h.shape (block_at h c.args.node)) tree (subst (λ d. InDomain (grid_of c.tree-tree.result.now).shape d) c.at-block.ensures.value c.at-block.ensures.inside) in
    let shape : c.shape-shape.result ≡ w.told.grid.shape = c.shape-shape.ensures.value ∙ ap (λ (h : Grid). h.shape) tree in
    let block : c.at-block.result ≡ b = c.at-block.ensures.value ∙ ap (λ (h : Grid). block_at h c.args.node) tree in
    ap Some (c.edge_told.ensures ∙ told_as c.shape-shape.result w.told.grid.shape c.args.axis c.at-block.result b found shape block)
    ∙ axis_found g.row.N g.row.G w c.args.axis c.args.node c.requires.fit valid c.requires.leaf inside c.args.finer c.requires.finer c.values.result.now c.values.ensures.value field has (Some found) (sym c.in-Some.is ∙ c.edges_above.ensures)
