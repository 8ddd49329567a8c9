use Rattle.std.proofs.Common.{◌≡◌, ◌+◌, ◌<◌, length, sym, ap, subst, ◌∙◌, arith}
use Rattle.block_tree.proofs.Facts.{known}
use Rattle.block_tree.specs.Numbered.{IsNode, block_at}
use Rattle.mesh_model.specs.Fields.Ranks.{IsFit, Told}
use Rattle.mesh_model.specs.Tree.Kinds.{Grid, is_leaf_block}
use Rattle.mesh_model.specs.Tree.Order.{nodes}
use Rattle.mesh_model.specs.Tree.ValidGrid.{Valid}
use Rattle.rank_world.specs.Holding.{IsLeafNode}
use Rattle.rank_world.specs.Holding.{OnlyCells}
use Rattle.amr_engine.proofs.Filled.{AreFilledBelow, cells_again, leaf_filled, node_passed}
use Rattle.amr_engine.proofs.filling.fill_leaves.Goals as goal
use Rattle.amr_engine.proofs.filling.fill_leaves.Goals.{then-is_leaf, else-is_leaf}

pub loop-node-preserved : goal.loop-node-preserved
loop-node-preserved g c =
    let old = c.args.world.now in
    let now = c.loop-node.world in
    let node = c.loop-node.node in
    let before = c.loop-node.invariant in
    let tree_is = c.tree-in-loop-node.ensures in
    let valid : Valid now.told.grid = subst Valid tree_is (known c.tree-in-loop-node.result.now).valid in
    let same : old.told.grid ≡ now.told.grid = sym (ap (λ (t : Told). t.grid) before.only.told) in
    let there : IsNode now.told.grid node = subst (λ (h : Grid). node < length (nodes h.leaves)) (c.tree.ensures ∙ same) (subst (λ m. node < m) c.len-node-end.ensures.value c.loop-node-test.true) in
    let kind = sym (ap (λ (h : Grid). is_leaf_block h (block_at h node)) tree_is) in
    elim c.if-is_leaf.branch [
      | then-is_leaf w ↦
          let leaf : IsLeafNode now.told.grid node = record { there = there; leaf = kind ∙ sym c.is_leaf.ensures ∙ w.if-is_leaf.true } in
          let new = w.fill_leaf.new.world in
          let only = cells_again old now new c.args.v node before.only w.fill_leaf.ensures.only in
          let filled = leaf_filled g.row.N g.row.G node old now new c.args.v c.args.fill before.filled before.only valid before.fit.sizes leaf w.fill_leaf.ensures.only w.fill_leaf.ensures.filled in
          record {
            only = subst (λ x. OnlyCells old x c.args.v) (sym w.world-is) only;
            fit = subst (IsFit g.row.N g.row.G) (sym w.world-is) w.fill_leaf.ensures.fit;
            filled = subst (λ x. AreFilledBelow (node + 1) old x c.args.v c.args.fill) (sym w.world-is) filled;
          }
      | else-is_leaf w ↦
          let inner = kind ∙ sym c.is_leaf.ensures ∙ w.if-is_leaf.false in
          record {
            only = subst (λ x. OnlyCells old x c.args.v) (sym w.world-is) before.only;
            fit = subst (IsFit g.row.N g.row.G) (sym w.world-is) before.fit;
            filled = subst (λ x. AreFilledBelow (node + 1) old x c.args.v c.args.fill) (sym w.world-is) (node_passed g.row.N g.row.G node old now now c.args.v c.args.fill before.filled before.only inner);
          }
    ]

pub returns : goal.returns
returns g c = record {
  only = c.loop-node.invariant.only;
  fit = c.loop-node.invariant.fit;
  filled = λ content holds k leaf.
      let told = c.loop-node.invariant.only.told in
      let there = subst (λ (t : Told). IsLeafNode t.grid k) told leaf in
      let inside = subst (λ (h : Grid). k < length (nodes h.leaves)) (sym c.tree.ensures) there.there in
      c.loop-node.invariant.filled.done content holds k (omega (arith, c.len-node-end.ensures.value, inside)) there;
}
