use Rattle.std.proofs.Common.{◌≡◌, ◌≤◌, length, ap, subst, sym, ◌∙◌, arith, inl, inr}
use Rattle.std.proofs.lemmas.Bool.{cases_lt}
use Rattle.mesh_model.specs.Fields.Ranks.{Told}
use Rattle.mesh_model.specs.Tree.Kinds.{Grid}
use Rattle.mesh_model.specs.Tree.Order.{nodes}
use Rattle.mesh_model.specs.Tree.ValidGrid.{Valid}
use Rattle.block_tree.proofs.Facts.{known}
use Rattle.rank_world.specs.Holding.{IsLeafNode}
use Rattle.edge_average.specs.EdgeArrays.{LineHolds}
use Rattle.edge_average.proofs.Worlds.{kept_line, none_halved, small_tame, tame_small, then_halved, views_after}
use Rattle.edge_average.proofs.halving.agree_edges.Goals as goal

pub loop-node-init : goal.loop-node-init
loop-node-init g c = record {
  halved = none_halved c.args.work g.row.N g.row.G c.args.world.now c.requires.fit (small_tame c.args.work c.args.world.now c.requires.small);
  lines = λ field k a s t less. absurd (omega arith);
}

pub loop-node-preserved : goal.loop-node-preserved
loop-node-preserved g c =
    let n = g.row.N in
    let e = g.row.G in
    let work = c.args.work in
    let old = c.args.world.now in
    let now = c.loop-node.world in
    let new = c.agree_node.new.world in
    let before = c.loop-node.invariant.halved in
    let step = c.agree_node.ensures.halved in
    record {
      halved = then_halved work n e old now new before step;
      lines = λ field k a s t less leaf hs ht holds.
          let here : IsLeafNode now.told.grid k = subst (λ (t : Told). IsLeafNode t.grid k) (sym before.only.told) leaf in
          let still = before.leaf_edges field holds in
          elim (cases_lt k c.loop-node.node) [
            | inl earlier ↦ kept_line work n e now new before.fit.sizes step k here a s t hs ht field still (c.loop-node.invariant.lines field k a s t earlier leaf hs ht holds)
            | inr later ↦ (
                let last : k ≡ c.loop-node.node = omega arith in
                subst (λ u. LineHolds work new field u a s t) (sym last) (c.agree_node.ensures.lines field a s t (subst (IsLeafNode now.told.grid) last here) hs ht still))
          ];
    }

pub returns : goal.returns
returns g c =
    let n = g.row.N in
    let old = c.args.world.now in
    let now = c.loop-node.world in
    let work = c.args.work in
    let steps = c.loop-node.invariant.halved in
    let valid : Valid old.told.grid = subst Valid c.tree.ensures (known c.tree.result.now).valid in
    let many : c.len-node-end.result ≡ length (nodes old.told.grid.leaves) = c.len-node-end.ensures.value ∙ ap (λ (h : Grid). length (nodes h.leaves)) c.tree.ensures in
    let sized = c.requires.fit.sizes in
    record {
      only = steps.only;
      fit = steps.fit;
      views = λ field holds. views_after work n g.row.G old now valid steps field holds
          (λ k a s t leaf hs ht.
          let there = leaf.there in
          c.loop-node.invariant.lines field k a s t (omega arith) leaf (subst (λ m. s ≤ m) sized.cells hs) (subst (λ m. t ≤ m) sized.cells ht) holds);
      small = tame_small work now steps.tame;
    }
