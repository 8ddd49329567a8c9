use Rattle.std.proofs.Common.{◌≡◌, ◌∙◌, ap, arith, subst, sym, length, true, false, below_more}
use Rattle.mesh_model.specs.Tree.Kinds.{Grid, is_leaf_block}
use Rattle.mesh_model.specs.Tree.Order.{nodes}
use Rattle.mesh_model.specs.Fields.Ranks.{Told}
use Rattle.block_tree.specs.Numbered.{IsNode, block_at}
use Rattle.rank_world.specs.Holding.{IsLeafNode}
use Rattle.guard_fill.specs.Guarding.{NodeReached}
use Rattle.guard_fill.proofs.Reached.{none_guarded, one_leaf_more, one_leaf_reached, still_mesh}
use Rattle.guard_fill.proofs.Restricted.{ready_after}
use Rattle.guard_fill.proofs.guarding.reach_leaves.Goals as goal
use Rattle.guard_fill.proofs.guarding.reach_leaves.Goals.{else-is_leaf, then-is_leaf}

pub loop-node-init : goal.loop-node-init
loop-node-init g c = record { only = none_guarded c.args.world.now c.args.var; fit = c.requires.ready.fit; guards = λ view of k h leaf. absurd (omega (arith, h)) }

pub is_leaf-requires : goal.is_leaf-requires
is_leaf-requires g c =
    let now = c.args.world.now in
    let told = c.loop-node.invariant.only.told in
    let count = ap (λ (h : Grid). length (nodes h.leaves)) c.tree.ensures in
    let there : IsNode now.told.grid c.loop-node.node = (let many = c.len-node-end.ensures.value in let test = c.loop-node-test.true in omega arith) in
    subst (λ (h : Grid). IsNode h c.loop-node.node) (ap (λ (t : Told). t.grid) (sym told) ∙ sym c.tree-in-loop-node.ensures) there

pub reach_leaf-requires : goal.reach_leaf-requires
reach_leaf-requires g c =
    let now = c.args.world.now in
    let mid = c.loop-node.world in
    let node = c.loop-node.node in
    let told = c.loop-node.invariant.only.told in
    let count = ap (λ (h : Grid). length (nodes h.leaves)) c.tree.ensures in
    let there : IsNode now.told.grid node = (let many = c.len-node-end.ensures.value in let test = c.loop-node-test.true in omega arith) in
    let leaf : IsLeafNode mid.told.grid node = record {
      there = subst (λ (t : Told). IsNode t.grid node) (sym told) there;
      leaf = subst (λ (h : Grid). is_leaf_block h (block_at h node) ≡ true) c.tree-in-loop-node.ensures (sym c.is_leaf.ensures ∙ c.if-is_leaf.true);
    } in (
      omega arith,
      (
        ready_after g.row.N g.row.G now mid c.args.var c.requires.ready c.loop-node.invariant.fit told,
        (
          c.requires.field,
          (
            still_mesh now mid c.args.var c.requires.field c.loop-node.invariant.only c.requires.mesh,
            (leaf, (c.loop-node.auto.child ∙ c.requires.child, c.loop-node.auto.room ∙ c.requires.room)),
          ),
        ),
      ),
    )

pub loop-node-preserved : goal.loop-node-preserved
loop-node-preserved g c =
    let n = g.row.N in
    let e = g.row.G in
    let now = c.args.world.now in
    let mid = c.loop-node.world in
    let var = c.args.var in
    let node = c.loop-node.node in
    let inv = c.loop-node.invariant in
    let told = inv.only.told in
    let grid = c.tree-in-loop-node.ensures ∙ ap (λ (t : Told). t.grid) told in
    let count = ap (λ (h : Grid). length (nodes h.leaves)) c.tree.ensures in
    let there : IsNode now.told.grid node = (let many = c.len-node-end.ensures.value in let test = c.loop-node-test.true in omega arith) in
    elim c.if-is_leaf.branch [
      | then-is_leaf p ↦
          let new = p.reach_leaf.new.world in
          let leaf : IsLeafNode now.told.grid node = record {
            there = there;
            leaf = subst (λ (h : Grid). is_leaf_block h (block_at h node) ≡ true) grid (sym c.is_leaf.ensures ∙ p.if-is_leaf.true);
          } in
          rw p.world-is (record {
            only = one_leaf_more n e now mid new var node inv.fit.sizes inv.only p.reach_leaf.ensures.only leaf p.reach_leaf.ensures.reached;
            fit = p.reach_leaf.ensures.fit;
            guards = λ view of. one_leaf_reached n e now mid new var node inv.fit.sizes inv.only p.reach_leaf.ensures.only leaf p.reach_leaf.ensures.reached view of (inv.guards view of);
          })
      | else-is_leaf p ↦
          let inner : is_leaf_block now.told.grid (block_at now.told.grid node) ≡ false = subst (λ (h : Grid). is_leaf_block h (block_at h node) ≡ false) grid (sym c.is_leaf.ensures ∙ p.if-is_leaf.false) in
          rw p.world-is (record {
            only = inv.only;
            fit = inv.fit;
            guards = λ view of. below_more (λ k. IsLeafNode now.told.grid k → NodeReached mid var view k) node (inv.guards view of) (λ leaf. (let yes = leaf.leaf in cc));
          })
    ]
