use Rattle.std.proofs.Common.{◌≡◌, ◌≤◌, ◌+◌, None, Some, sym, ap, subst, ◌∙◌}
use Rattle.amr_num.specs.declared.Axis.TheVariants.{X, Y, Z}
use Rattle.mesh_model.specs.declared.geometry.Shape.{Shape}
use Rattle.mesh_model.specs.Fields.ArrayPlaces.{face_extents, number_at}
use Rattle.mesh_model.specs.Fields.Arrays.{array_in}
use Rattle.mesh_model.specs.Fields.Ranks.{rank_at}
use Rattle.mesh_model.specs.Geometry.Blocks.{InDomain}
use Rattle.mesh_model.specs.Tree.Kinds.{Grid}
use Rattle.mesh_model.specs.Tree.ValidGrid.{Valid}
use Rattle.block_tree.specs.GridOf.{grid_of}
use Rattle.block_tree.specs.Numbered.{block_at}
use Rattle.block_tree.proofs.Facts.{known}
use Rattle.rank_world.specs.FaceRange.{CountLeafFaces}
use Rattle.rank_world.proofs.FaceRange.{at_most, axis_found, told_as}
use Rattle.rank_world.proofs.Found.{face_inside, small_block}
use Rattle.rank_world.proofs.faces.axis_above.Goals as goal

pub face_told-requires-clause-block : goal.face_told-requires-clause-block
face_told-requires-clause-block g c =
    small_block c.shape-shape.result c.at-block.result c.shape-shape.ensures.limits (subst (λ s. InDomain s c.at-block.result) (sym c.shape-shape.ensures.value) c.at-block.ensures.inside)

pub face_told-requires-clause-place : goal.face_told-requires-clause-place
face_told-requires-clause-place g c =
    let n = g.row.N in
    let f = c.leaf_faces-faces.result in
    let found = c.in-Some.found in
    let there = face_inside (λ i j k. number_at (face_extents n g.row.G f.axis) c.values.result.now (g.row.G + i) (g.row.G + j) (g.row.G + k)) n f found (sym c.faces_above.ensures ∙ c.in-Some.is) in
    let same : n ≡ c.shape-shape.result.n = sym c.requires.fit.sizes.cells ∙ ap (λ (h : Grid). h.shape.n) (sym c.tree-tree.ensures) ∙ ap (λ (s : Shape). s.n) (sym c.shape-shape.ensures.value) in
    subst (λ m. (found.i ≤ m) × (found.j ≤ m) × (found.k ≤ m)) same (at_most f.axis X n found.i there.0, at_most f.axis Y n found.j there.1, at_most f.axis Z n found.k there.2)

pub returns-in-None : goal.returns-in-None
returns-in-None g c field has =
    let w = c.args.world.now in
    let f = c.leaf_faces-faces.result in
    let tree = c.tree-tree.ensures in
    let valid : Valid w.told.grid = subst Valid tree (known c.tree-tree.result.now).valid in
    let inside : InDomain w.told.grid.shape (block_at w.told.grid c.args.node) =
    subst (λ (h : Grid). InDomain h.shape (block_at h c.args.node)) tree (subst (λ d. InDomain (grid_of c.tree-tree.result.now).shape d) c.at-block.ensures.value c.at-block.ensures.inside) in
    let counts : CountLeafFaces w.told.grid (block_at w.told.grid c.args.node) f =
    subst (λ (h : Grid). CountLeafFaces h (block_at h c.args.node) f) tree (subst (λ d. CountLeafFaces (grid_of c.tree-tree.result.now) d f) c.at-block.ensures.value c.leaf_faces-faces.ensures.counts) in
    axis_found c.args.work g.row.N g.row.G w c.args.axis c.args.node c.requires.fit valid c.requires.leaf inside f c.leaf_faces-faces.ensures.axis counts c.values.result.now (c.values.ensures.value ∙ ap (λ v. array_in (rank_at w 0).own.values v c.args.node) c.face_var.ensures.value) field has
    None (sym c.in-None.is ∙ c.faces_above.ensures)

pub returns-in-Some : goal.returns-in-Some
returns-in-Some g c field has =
    let w = c.args.world.now in
    let f = c.leaf_faces-faces.result in
    let tree = c.tree-tree.ensures in
    let found = c.in-Some.found in
    let b = block_at w.told.grid c.args.node in
    let valid : Valid w.told.grid = subst Valid tree (known c.tree-tree.result.now).valid in
    let inside : InDomain w.told.grid.shape b =
    subst (λ (h : Grid). InDomain h.shape (block_at h c.args.node)) tree (subst (λ d. InDomain (grid_of c.tree-tree.result.now).shape d) c.at-block.ensures.value c.at-block.ensures.inside) in
    let counts : CountLeafFaces w.told.grid b f =
    subst (λ (h : Grid). CountLeafFaces h (block_at h c.args.node) f) tree (subst (λ d. CountLeafFaces (grid_of c.tree-tree.result.now) d f) c.at-block.ensures.value c.leaf_faces-faces.ensures.counts) in
    let shape : c.shape-shape.result ≡ w.told.grid.shape = c.shape-shape.ensures.value ∙ ap (λ (h : Grid). h.shape) tree in
    let block : c.at-block.result ≡ b = c.at-block.ensures.value ∙ ap (λ (h : Grid). block_at h c.args.node) tree in
    ap Some
    (c.face_told.ensures ∙ told_as c.shape-shape.result w.told.grid.shape c.args.axis f.axis c.at-block.result b found shape (sym c.leaf_faces-faces.ensures.axis) block)
    ∙ axis_found c.args.work g.row.N g.row.G w c.args.axis c.args.node c.requires.fit valid c.requires.leaf inside f c.leaf_faces-faces.ensures.axis counts c.values.result.now (c.values.ensures.value ∙ ap (λ v. array_in (rank_at w 0).own.values v c.args.node) c.face_var.ensures.value) field has
    (Some found) (sym c.in-Some.is ∙ c.faces_above.ensures)
