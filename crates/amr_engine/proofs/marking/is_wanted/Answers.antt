use Rattle.std.proofs.Common.{◌≡◌, ◌+◌, ℕ, ℤ, Bool, true, List, sym, ap, ap₂, subst, ◌∙◌}
use Rattle.block_tree.proofs.Facts.{known}
use Rattle.block_tree.specs.Numbered.{block_at}
use Rattle.mesh_model.specs.Fields.ArrayPlaces.{cell_extents, number_at}
use Rattle.mesh_model.specs.Tree.Kinds.{Grid, is_leaf_block}
use Rattle.mesh_model.specs.Tree.ValidGrid.{Valid}
use Rattle.rank_world.specs.Holding.{cell_array, numbers_of}
use Rattle.amr_engine.specs.MarkedWhere.{block_has, is_found_by}
use Rattle.amr_engine.proofs.Found.{decided, found_leaf}
use Rattle.amr_engine.proofs.marking.is_wanted.Goals as goal

pub returns : goal.returns
returns g c content holds =
    let w = c.args.world.now in
    let grid = w.told.grid in
    let b = block_at grid c.args.node in
    let rule = c.args.rule in
    let valid : Valid grid = subst Valid c.tree-tree.ensures (known c.tree-tree.result.now).valid in
    let leaf : is_leaf_block grid b ≡ true = ap (λ (h : Grid). is_leaf_block h (block_at h c.args.node)) (sym c.tree-tree.ensures) ∙ sym c.is_leaf.ensures ∙ c.if-not-is_leaf.false in
    let has : ℕ → ℕ → List ℤ → Bool = λ m d xs. block_has m (λ x y z. number_at (cell_extents m d) xs (d + x) (d + y) (d + z)) rule in
    let decides = c.some_in_block-decides.ensures ∙ ap (has g.row.N g.row.G) c.values.ensures.value
    ∙ ap (λ m. has m g.row.G (cell_array w c.args.v c.args.node)) (sym c.requires.fit.sizes.cells)
    ∙ ap (λ d. has grid.shape.n d (cell_array w c.args.v c.args.node)) (sym c.requires.fit.sizes.guards)
    ∙ decided grid content b (numbers_of w c.args.v c.args.node) rule valid leaf (holds c.args.node (record { there = c.requires.node; leaf = leaf })) in
    let shape = c.shape.ensures.value ∙ ap (λ (h : Grid). h.shape) c.tree-tree.ensures in
    let block = c.at.ensures.value ∙ ap (λ h. block_at h c.args.node) c.tree-tree.ensures in
    found_leaf grid content b rule c.is_found.result c.some_in_block-decides.result leaf decides
    (c.is_found.ensures ∙ ap₂ (λ s d. is_found_by s d c.some_in_block-decides.result rule) shape block)
