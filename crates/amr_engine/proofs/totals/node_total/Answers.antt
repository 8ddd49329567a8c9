use Rattle.std.proofs.Common.{◌≡◌, ◌+◌, ℕ, ℤ, pos, true, List, sym, ap, subst, ◌∙◌, ◌^◌, arith}
use Rattle.std.specs.Prelude.{if◌then◌else◌}
use Rattle.block_tree.proofs.Facts.{known}
use Rattle.block_tree.specs.Numbered.{block_at}
use Rattle.mesh_model.specs.Fields.ArrayPlaces.{cell_extents, number_at}
use Rattle.mesh_model.specs.Fields.Totals.{block_sum, box_sum}
use Rattle.mesh_model.specs.Tree.Kinds.{Grid, is_leaf_block}
use Rattle.mesh_model.specs.Tree.ValidGrid.{Valid}
use Rattle.rank_world.specs.Holding.{cell_array, numbers_of}
use Rattle.mesh_steps.proofs.Machine.{wide}
use Rattle.amr_engine.proofs.totals.node_total.Goals as goal
use Rattle.rank_world.proofs.NodeSums.{leaf_sum_is}

pub returns-then-is_leaf-clause-value : goal.returns-then-is_leaf-clause-value
returns-then-is_leaf-clause-value g c content holds =
    let w = c.args.world.now in
    let grid = w.told.grid in
    let b = block_at grid c.args.node in
    let n = g.row.N in
    let e = g.row.G in
    let valid : Valid grid = subst Valid c.tree.ensures (known c.tree.result.now).valid in
    let leaf : is_leaf_block grid b ≡ true = ap (λ (h : Grid). is_leaf_block h (block_at h c.args.node)) (sym c.tree.ensures) ∙ sym c.is_leaf.ensures ∙ c.if-is_leaf.true in
    let sum : ℕ → ℕ → List ℤ → ℤ = λ m d xs. box_sum m m m (λ i j k. number_at (cell_extents m d) xs (d + i) (d + j) (d + k)) in
    wide c.block_total.result (2 ^ 72) c.block_total.ensures.small (omega arith) ∙ c.block_total.ensures.value ∙ ap (sum n e) c.values.ensures.value
    ∙ ap (λ m. sum m e (cell_array w c.args.v c.args.node)) (sym c.requires.fit.sizes.cells) ∙ ap (λ d. sum grid.shape.n d (cell_array w c.args.v c.args.node)) (sym c.requires.fit.sizes.guards)
    ∙ leaf_sum_is grid content b (numbers_of w c.args.v c.args.node) valid leaf (holds c.args.node (record { there = c.requires.node; leaf = leaf }))
    ∙ sym (ap (λ t. if t then block_sum grid.shape.n content b else pos 0) leaf)
