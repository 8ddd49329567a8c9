use Rattle.std.proofs.Common.{◌≡◌, ℤ, List, pos, true, ap, ap₂, subst, sym, ◌∙◌}
use Rattle.std.specs.Prelude.{if◌then◌else◌}
use Rattle.amr_num.specs.declared.Axis.TheVariants.{X, Y, Z}
use Rattle.block_tree.proofs.Facts.{known}
use Rattle.block_tree.specs.Numbered.{block_at}
use Rattle.mesh_model.specs.Fields.Totals.{block_sum, box_sum}
use Rattle.mesh_model.specs.Tree.Kinds.{Grid, is_leaf_block}
use Rattle.mesh_model.specs.Tree.ValidGrid.{Valid}
use Rattle.rank_world.specs.Holding.{face_array}
use Rattle.amr_engine.specs.Netting.{counted, counted_cell, faces_of, net_at}
use Rattle.amr_engine.proofs.Netted.{block_sized, leaf_counted}
use Rattle.amr_engine.proofs.netting.count_node.Goals as goal

pub returns-clause-value : goal.returns-clause-value
returns-clause-value g c field holds =
    let w = c.args.world.now in
    let grid = w.told.grid in
    let node = c.args.node in
    let b = block_at grid node in
    let n = g.row.N in
    let e = g.row.G in
    let valid : Valid grid = subst Valid c.tree.ensures (known c.tree.result.now).valid in
    let leaf : is_leaf_block grid b ≡ true = ap (λ (h : Grid). is_leaf_block h (block_at h node)) (sym c.tree.ensures) ∙ sym c.is_leaf.ensures ∙ c.if-not-is_leaf.false in
    let held = holds node (record { there = c.requires.node; leaf = leaf }) in
    let sum : List ℤ → List ℤ → List ℤ → ℤ = λ xs ys zs. box_sum n n n (λ i j k. counted (net_at (faces_of n e xs ys zs) i j k)) in
    c.count_block.ensures.value
    ∙ ap (λ xs. sum xs c.values-y.result.now c.values-z.result.now) c.values-x.ensures.value
    ∙ ap₂ (λ ys zs. sum (face_array w X node) ys zs) c.values-y.ensures.value c.values-z.ensures.value
    ∙ block_sized n e grid (face_array w X node) (face_array w Y node) (face_array w Z node) c.requires.fit.sizes
    ∙ leaf_counted grid field b (face_array w X node) (face_array w Y node) (face_array w Z node) valid leaf (held X) (held Y) (held Z)
    ∙ sym (ap (λ t. if t then block_sum grid.shape.n (counted_cell grid field) b else pos 0) leaf)
