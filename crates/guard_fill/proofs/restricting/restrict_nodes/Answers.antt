use Rattle.std.proofs.Common.{◌≡◌, ◌+◌, ◌-◌, ◌<◌, ◌≤◌, ◌⊎◌, ◌∙◌, ap, subst, sym, arith, ℕ, ℤ, true, false, inl, inr, length}
use Rattle.std.proofs.lemmas.Bool.{cases_order}
use Rattle.amr_num.specs.declared.CellAt.{CellAt}
use Rattle.mesh_model.specs.declared.fields.values.Var.{Var}
use Rattle.mesh_model.specs.Geometry.Blocks.{InDomain, child_block}
use Rattle.mesh_model.specs.Tree.Kinds.{Grid, is_leaf_block, is_split_block}
use Rattle.mesh_model.specs.Tree.Order.{nodes}
use Rattle.mesh_model.specs.Fields.Arrays.{array_in}
use Rattle.mesh_model.specs.Fields.ArrayPlaces.{IsSize, extents_of, number_at}
use Rattle.mesh_model.specs.Fields.FinePlaces.{FineSumsAreSmall}
use Rattle.mesh_model.specs.Fields.Ranks.{IsSized, Told, WorldState, rank_at}
use Rattle.block_tree.specs.declared.tree.Tree.{Tree}
use Rattle.block_tree.specs.GridOf.{grid_of}
use Rattle.block_tree.specs.Numbered.{IsNode, IsNumberOf, block_at}
use Rattle.block_tree.proofs.Facts.{known}
use Rattle.block_tree.proofs.Later.{child_later}
use Rattle.block_tree.proofs.Leaves.{node_inside}
use Rattle.block_tree.proofs.Numbers.{node_in_all, splits}
use Rattle.rank_world.specs.Holding.{IsLeafNode}
use Rattle.guard_fill.specs.Restricting.{AddUp, ChildrenHave, HasViews, HaveSmallViews, LeavesHave, NodeHas, OnlyParentArrays, SplitViewsAreSmall, numbers_at}
use Rattle.guard_fill.proofs.Restricted.{has_along, parents_step, ready_after, sums_small}
use Rattle.guard_fill.proofs.restricting.restrict_nodes.Goals as goal

-- what is known of a node that is reached
module _ (now mid : WorldState) (var : Var) (node : ℕ) (t : Tree) (grid : grid_of t ≡ mid.told.grid) (only : OnlyParentArrays now mid var) (there : IsNode now.told.grid node) where
  told : mid.told ≡ now.told
  told = only.told

  there_tree : IsNode (grid_of t) node
  there_tree = subst (λ (h : Grid). IsNode h node) (sym grid) (subst (λ (u : Told). IsNode u.grid node) (sym told) there)

  module _ (inner : is_leaf_block (grid_of t) (block_at (grid_of t) node) ≡ false) where
    inner_mid : is_leaf_block mid.told.grid (block_at mid.told.grid node) ≡ false
    inner_mid = subst (λ (h : Grid). is_leaf_block h (block_at h node) ≡ false) grid inner

    inner_now : is_leaf_block now.told.grid (block_at now.told.grid node) ≡ false
    inner_now = subst (λ (u : Told). is_leaf_block u.grid (block_at u.grid node) ≡ false) told inner_mid

    module _ (done : (view : CellAt → ℤ) → AddUp var view → LeavesHave now var view → (k : ℕ) → node + 1 ≤ k → IsNode now.told.grid k → NodeHas mid var view k) where
      children_hold : (view : CellAt → ℤ) → AddUp var view → LeavesHave now var view → ChildrenHave mid var view node
      children_hold view sums leaves q child hq found =
          let found_tree = subst (λ (h : Grid). IsNumberOf h (child_block (block_at h node) q) child) (sym grid) found in
          let later = child_later t node q child there_tree inner hq found_tree in
          done view sums leaves child (omega arith) (subst (λ (u : Told). IsNode u.grid child) told found.there)

      children_small : (n e : ℕ) → HaveSmallViews now var → IsSize n e → IsSized n e mid.told.grid.shape →
          (q child : ℕ) → q < 8 → IsNumberOf mid.told.grid (child_block (block_at mid.told.grid node) q) child → FineSumsAreSmall n e var (number_at (extents_of n e var) (array_in (rank_at mid 0).own.values var child))
      children_small n e few sizes sized q child hq found =
          let g = mid.told.grid in
          let size = subst (λ m. (m ≡ 4) ⊎ (m ≡ 8)) (sym sized.cells) sizes.cells in
          let split : is_split_block g (block_at g node) ≡ true = subst (λ (h : Grid). is_split_block h (block_at h node) ≡ true) grid (splits t node there_tree inner) in
          let inside : InDomain g.shape (block_at g node) = subst (λ (h : Grid). InDomain h.shape (block_at h node)) grid (node_inside (grid_of t) (known t).valid (block_at (grid_of t) node) (node_in_all t node there_tree)) in
          let views = subst (λ d. HasViews g.shape var few.view d (numbers_at mid var child)) found.block (children_hold few.view few.sums few.leaves q child hq found) in
          sums_small g size n e var few.view (block_at g node) q (array_in (rank_at mid 0).own.values var child) sized few.sums (subst (λ (u : Told). SplitViewsAreSmall u.grid var few.view) (sym told) few.small) split inside views

pub restrict_node-requires : goal.restrict_node-requires
restrict_node-requires g c =
    let now = c.args.world.now in
    let mid = c.loop-node.world in
    let var = c.args.var in
    let node = c.loop-node.node - 1 in
    let tree = c.tree-in-loop-node.result.now in
    let only = c.loop-node.invariant.only in
    let count = ap (λ (h : Grid). length (nodes h.leaves)) c.tree.ensures in
    let there : IsNode now.told.grid node = (let many = c.len-node.ensures.value in let most = c.loop-node.auto.node in omega arith) in
    let inner = sym c.is_leaf.ensures ∙ c.if-not-is_leaf.true in
    let done : (view : CellAt → ℤ) → AddUp var view → LeavesHave now var view → (k : ℕ) → node + 1 ≤ k → IsNode now.told.grid k → NodeHas mid var view k = λ view sums leaves k h.
    c.loop-node.invariant.done view sums leaves k (omega arith) in
    let grid = c.tree-in-loop-node.ensures in
    let told = only.told in (
      omega arith,
      (
        ready_after g.row.N g.row.G now mid var c.requires.ready c.loop-node.invariant.fit told,
        (
          subst (λ (t : Told). IsNode t.grid node) (sym told) there,
          (
            inner_mid now mid var node tree grid only there inner,
            (
              c.loop-node.auto.room ∙ c.requires.room,
              children_small now mid var node tree grid only there inner done g.row.N g.row.G c.requires.field c.requires.ready.size c.loop-node.invariant.fit.sizes,
            ),
          ),
        ),
      ),
    )

pub loop-node-preserved-then-not-is_leaf : goal.loop-node-preserved-then-not-is_leaf
loop-node-preserved-then-not-is_leaf g c =
    let now = c.args.world.now in
    let mid = c.loop-node.world in
    let new = c.restrict_node.new.world in
    let var = c.args.var in
    let node = c.loop-node.node - 1 in
    let tree = c.tree-in-loop-node.result.now in
    let only = c.loop-node.invariant.only in
    let count = ap (λ (h : Grid). length (nodes h.leaves)) c.tree.ensures in
    let there : IsNode now.told.grid node = (let many = c.len-node.ensures.value in let most = c.loop-node.auto.node in omega arith) in
    let inner = sym c.is_leaf.ensures ∙ c.if-not-is_leaf.true in
    let done : (view : CellAt → ℤ) → AddUp var view → LeavesHave now var view → (k : ℕ) → node + 1 ≤ k → IsNode now.told.grid k → NodeHas mid var view k = λ view sums leaves k h.
    c.loop-node.invariant.done view sums leaves k (omega arith) in
    let grid = c.tree-in-loop-node.ensures in
    let here = c.restrict_node.ensures.only in
    record {
      only = parents_step now mid new var node only here (inner_now now mid var node tree grid only there inner);
      fit = c.restrict_node.ensures.fit;
      done = λ view sums leaves k le is. elim (cases_order k node) [
        | inl same ↦ subst (NodeHas new var view) (sym same) (c.restrict_node.ensures.views view sums (children_hold now mid var node tree grid only there inner done view sums leaves))
        | inr (inl less) ↦ absurd (omega arith)
        | inr (inr more) ↦ has_along mid new var view k here.told (here.here.others var k (λ e s. absurd (omega arith))) (done view sums leaves k (omega arith) is)
      ];
    }

pub loop-node-preserved : goal.loop-node-preserved
loop-node-preserved g c =
    let now = c.args.world.now in
    let mid = c.loop-node.world in
    let var = c.args.var in
    let node = c.loop-node.node - 1 in
    let only = c.loop-node.invariant.only in
    let grid = c.tree-in-loop-node.ensures ∙ ap (λ (t : Told). t.grid) only.told in
    let leaf : is_leaf_block now.told.grid (block_at now.told.grid node) ≡ true = subst (λ (h : Grid). is_leaf_block h (block_at h node) ≡ true) grid (sym c.is_leaf.ensures ∙ c.if-not-is_leaf.false) in
    record {
      only = only;
      fit = c.loop-node.invariant.fit;
      done = λ view sums leaves k le is. elim (cases_order k node) [
        | inl same ↦ subst (NodeHas mid var view) (sym same)
            (let is_leaf_node : IsLeafNode now.told.grid node = record { there = subst (IsNode now.told.grid) same is; leaf = leaf } in
            has_along now mid var view node only.told (only.leaves node is_leaf_node) (leaves node is_leaf_node))
        | inr (inl less) ↦ absurd (omega arith)
        | inr (inr more) ↦ c.loop-node.invariant.done view sums leaves k (omega arith) is
      ];
    }
