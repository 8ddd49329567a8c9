use Rattle.std.proofs.Common.{◌≡◌, ◌∙◌, ap, arith, subst, sym, length, true, false, below_more}
use Rattle.mesh_model.specs.declared.fields.values.Var.TheVariants.{Cell}
use Rattle.mesh_model.specs.Tree.Kinds.{Grid, is_leaf_block}
use Rattle.mesh_model.specs.Tree.Order.{nodes}
use Rattle.mesh_model.specs.Fields.Ranks.{Told}
use Rattle.block_tree.specs.Numbered.{IsNode, block_at}
use Rattle.rank_world.specs.Holding.{IsLeafNode}
use Rattle.guard_fill.specs.Filling.{NodeAsked}
use Rattle.guard_fill.proofs.Filled.{one_filled, one_guarded}
use Rattle.guard_fill.proofs.Restricted.{ready_after}
use Rattle.guard_fill.proofs.filling.fill_variable.Goals as goal
use Rattle.guard_fill.proofs.filling.fill_variable.Goals.{else-is_leaf, then-is_leaf}

pub is_leaf-requires : goal.is_leaf-requires
is_leaf-requires g c =
    let now = c.args.world.now in
    let told = c.loop-node.invariant.only.only.told in
    let count = ap (λ (h : Grid). length (nodes h.leaves)) c.tree.ensures in
    let there : IsNode now.told.grid c.loop-node.node = (let many = c.len-node-end.ensures.value in let test = c.loop-node-test.true in omega arith) in
    subst (λ (h : Grid). IsNode h c.loop-node.node) (ap (λ (t : Told). t.grid) (sym told) ∙ sym c.tree-in-loop-node.ensures) there

pub fill_leaf-requires : goal.fill_leaf-requires
fill_leaf-requires g c =
    let now = c.args.world.now in
    let mid = c.loop-node.world in
    let node = c.loop-node.node in
    let told = c.loop-node.invariant.only.only.told in
    let count = ap (λ (h : Grid). length (nodes h.leaves)) c.tree.ensures in
    let there : IsNode now.told.grid node = (let many = c.len-node-end.ensures.value in let test = c.loop-node-test.true in omega arith) in
    let leaf : IsLeafNode mid.told.grid node = record {
      there = subst (λ (t : Told). IsNode t.grid node) (sym told) there;
      leaf = subst (λ (h : Grid). is_leaf_block h (block_at h node) ≡ true) c.tree-in-loop-node.ensures (sym c.is_leaf.ensures ∙ c.if-is_leaf.true);
    } in (
      omega arith,
      (
        ready_after g.row.N g.row.G now mid (Cell c.args.v) c.requires.ready c.loop-node.invariant.fit told,
        (leaf, c.loop-node.auto.room ∙ c.requires.room),
      ),
    )

pub loop-node-preserved : goal.loop-node-preserved
loop-node-preserved g c =
    let n = g.row.N in
    let e = g.row.G in
    let now = c.args.world.now in
    let mid = c.loop-node.world in
    let v = c.args.v in
    let node = c.loop-node.node in
    let inv = c.loop-node.invariant in
    let told = inv.only.only.told in
    let grid = c.tree-in-loop-node.ensures ∙ ap (λ (t : Told). t.grid) told in
    let count = ap (λ (h : Grid). length (nodes h.leaves)) c.tree.ensures in
    let there : IsNode now.told.grid node = (let many = c.len-node-end.ensures.value in let test = c.loop-node-test.true in omega arith) in
    elim c.if-is_leaf.branch [
      | then-is_leaf p ↦
          let new = p.fill_leaf.new.world in
          let leaf : IsLeafNode now.told.grid node = record {
            there = there;
            leaf = subst (λ (h : Grid). is_leaf_block h (block_at h node) ≡ true) grid (sym c.is_leaf.ensures ∙ p.if-is_leaf.true);
          } in
          rw p.world-is (record {
            only = one_filled n e c.args.guards now mid new v node inv.fit.sizes inv.only p.fill_leaf.ensures.only leaf p.fill_leaf.ensures.gathered;
            fit = p.fill_leaf.ensures.fit;
            guards = λ content holds. one_guarded n e c.args.guards now mid new v node inv.fit.sizes inv.only p.fill_leaf.ensures.only leaf p.fill_leaf.ensures.gathered content holds (inv.guards content holds);
          })
      | else-is_leaf p ↦
          let inner : is_leaf_block now.told.grid (block_at now.told.grid node) ≡ false = subst (λ (h : Grid). is_leaf_block h (block_at h node) ≡ false) grid (sym c.is_leaf.ensures ∙ p.if-is_leaf.false) in
          rw p.world-is (record {
            only = inv.only;
            fit = inv.fit;
            guards = λ content holds. below_more (λ k. IsLeafNode now.told.grid k → NodeAsked c.args.guards mid v content k) node (inv.guards content holds) (λ leaf. (let yes = leaf.leaf in cc));
          })
    ]
