-- Nodes that are summed, octant by octant and node by node.
use Rattle.std.proofs.Common.{◌≡◌, ℕ, suc, ◌+◌, ◌/◌, ◌<◌, ◌^◌, ◌⊎◌, true, false, List, ℤ, sym, ap, subst, ◌∙◌, arith, below_more}
use Rattle.amr_num.specs.declared.BlockAt.{BlockAt}
use Rattle.amr_num.specs.declared.CellAt.{CellAt}
use Rattle.amr_num.specs.Numbers.{Within}
use Rattle.mesh_model.specs.declared.fields.values.Var.{Var}
use Rattle.mesh_model.specs.declared.fields.values.Var.TheVariants.{Cell}
use Rattle.mesh_model.specs.declared.geometry.Shape.{Shape}
use Rattle.mesh_model.specs.Geometry.Blocks.{InDomain, child_block}
use Rattle.mesh_model.specs.Geometry.Limits.{IsShape}
use Rattle.mesh_model.specs.Tree.Kinds.{Grid, is_leaf_block, is_split_block}
use Rattle.mesh_model.specs.Fields.Arrays.{HasVar, array_in}
use Rattle.mesh_model.specs.Fields.ArrayPlaces.{HoldsViews, extents_of, number_at}
use Rattle.mesh_model.specs.Fields.FinePlaces.{FineSumsAreSmall, IsSummed}
use Rattle.mesh_model.specs.Fields.Octants.{cells_of, half_at}
use Rattle.mesh_model.specs.Fields.Ranks.{IsFit, IsSized, OnlyOf, Told, WorldState, rank_at}
use Rattle.block_tree.specs.Numbered.{IsNumberOf, block_at}
use Rattle.rank_world.specs.Holding.{IsLeafNode, NodeHolds, OnlyCells, cell_array}
use Rattle.restrict_op.proofs.FineOctants as octants
use Rattle.guard_fill.specs.Restricting.{AddUp, HasViews, HaveSmallViews, IsReady, LeavesHave, NodeHas, OctantHas, OnlyParentArrays, SplitViewsAreSmall}

-- ---- octants

-- sums in the sizes of a world's blocks and in the grid's
summed_sized : (n e q : ℕ) (var : Var) (s : Shape) (child old new : List ℤ) → IsSized n e s → IsSummed n e var q child old new → IsSummed s.n s.g var q child old new
summed_sized n e q var s child old new sized is =
    subst (λ m. IsSummed m s.g var q child old new) (sym sized.cells) (subst (λ m. IsSummed n m var q child old new) (sym sized.guards) is)

small_sized : (n e : ℕ) (var : Var) (s : Shape) (child : List ℤ) → IsSized n e s → FineSumsAreSmall s.n s.g var (number_at (extents_of s.n s.g var) child) →
    FineSumsAreSmall n e var (number_at (extents_of n e var) child)
small_sized n e var s child sized few =
    subst (λ m. FineSumsAreSmall m e var (number_at (extents_of m e var) child)) sized.cells
    (subst (λ m. FineSumsAreSmall s.n m var (number_at (extents_of s.n m var) child)) sized.guards few)

module _ (s : Shape) (size : (s.n ≡ 4) ⊎ (s.n ≡ 8)) (n e : ℕ) (sized : IsSized n e s) (var : Var) (view : CellAt → ℤ) (sums : AddUp var view) (b : BlockAt) where
  -- one more octant is summed
  pub octant_step : (q : ℕ) (child old new : List ℤ) → IsSummed n e var q child old new → HasViews s var view (child_block b q) (number_at (extents_of s.n s.g var) child) →
      ((p : ℕ) → p < q → OctantHas s var view b p (number_at (extents_of s.n s.g var) old)) → (p : ℕ) → p < q + 1 → OctantHas s var view b p (number_at (extents_of s.n s.g var) new)
  octant_step q child old new is views so_far =
      let here = summed_sized n e q var s child old new sized is in
      below_more (λ p. OctantHas s var view b p (number_at (extents_of s.n s.g var) new)) q
      (λ p l. record { at = octants.other_octant s.n s.g size var view sums.sum b q p child old new here views.at (so_far p l).at })
      (record { at = octants.octant_summed s.n s.g size var view sums.sum b q child old new here views.at })

  -- a block whose octants have views has views
  pub octants_make : (numbers : ℕ → ℕ → ℕ → ℤ) → ((q : ℕ) → q < 8 → OctantHas s var view b q numbers) → HasViews s var view b numbers
  octants_make numbers each = record { at = octants.octants_make s.n s.g size var view sums.sum b numbers (λ q h. (each q h).at) }

-- the sums of the numbers of a split block's child are small enough
pub sums_small : (g : Grid) (size : (g.shape.n ≡ 4) ⊎ (g.shape.n ≡ 8)) (n e : ℕ) (var : Var) (view : CellAt → ℤ) (b : BlockAt) (q : ℕ) (child : List ℤ) → IsSized n e g.shape → AddUp var view →
    SplitViewsAreSmall g var view → is_split_block g b ≡ true → InDomain g.shape b → HasViews g.shape var view (child_block b q) (number_at (extents_of g.shape.n g.shape.g var) child) →
    FineSumsAreSmall n e var (number_at (extents_of n e var) child)
sums_small g size n e var view b q child sized sums small split inside views =
    small_sized n e var g.shape child sized (λ i j k hi hj hk.
    let m = g.shape.n in
    let along = octants.var_along m var in
    subst (Within (2 ^ 62)) (sym (octants.fine_view m g.shape.g size var view sums.sum b q (number_at (extents_of m g.shape.g var) child) views.at i j k hi hj hk))
    (small b (half_at m q + i) (half_at m (q / 2) + j) (half_at m (q / 4) + k) split inside
    (octants.whole_below m _ _ q i size along.x hi) (octants.whole_below m _ _ (q / 2) j size along.y hj) (octants.whole_below m _ _ (q / 4) k size along.z hk)))

-- a child is another node, and so it has its numbers while the node is written
module _ (now mid : WorldState) (var : Var) (node q child : ℕ) (g : Grid) (grid : g ≡ mid.told.grid) (only : OnlyOf now mid 0 var node) (is : IsNumberOf g (child_block (block_at g node) q) child) where
  pub child_found : IsNumberOf now.told.grid (child_block (block_at now.told.grid node) q) child
  child_found = subst (λ (h : Grid). IsNumberOf h (child_block (block_at h node) q) child) (grid ∙ ap (λ (t : Told). t.grid) only.told) is

  pub child_same : array_in (rank_at mid 0).own.values var child ≡ array_in (rank_at now 0).own.values var child
  child_same = only.here.others var child (λ u same.
      (let level : (block_at now.told.grid node).level ≡ suc (block_at now.told.grid node).level = ap (λ i. (block_at now.told.grid i).level) (sym same) ∙ ap (λ (x : BlockAt). x.level) child_found.block in
      omega arith))

-- ---- worlds

-- what a node has stays where its array and what is told do
pub has_along : (a b : WorldState) (var : Var) (view : CellAt → ℤ) (node : ℕ) → b.told ≡ a.told → array_in (rank_at b 0).own.values var node ≡ array_in (rank_at a 0).own.values var node →
    NodeHas a var view node → NodeHas b var view node
has_along a b var view node told same has =
    subst (λ (t : Told). HasViews t.grid.shape var view (block_at t.grid node) (number_at (extents_of t.grid.shape.n t.grid.shape.g var) (array_in (rank_at b 0).own.values var node))) (sym told)
    (subst (λ xs. HasViews a.told.grid.shape var view (block_at a.told.grid node) (number_at (extents_of a.told.grid.shape.n a.told.grid.shape.g var) xs)) (sym same) has)

pub leaves_along : (a b : WorldState) (var : Var) (view : CellAt → ℤ) → b.told ≡ a.told →
    ((node : ℕ) → IsLeafNode a.told.grid node → array_in (rank_at b 0).own.values var node ≡ array_in (rank_at a 0).own.values var node) → LeavesHave a var view → LeavesHave b var view
leaves_along a b var view told same leaves node leaf =
    let was : IsLeafNode a.told.grid node = subst (λ (t : Told). IsLeafNode t.grid node) told leaf in
    has_along a b var view node told (same node was) (leaves node was)

pub small_along : (a b : WorldState) (var : Var) → b.told ≡ a.told →
    ((node : ℕ) → IsLeafNode a.told.grid node → array_in (rank_at b 0).own.values var node ≡ array_in (rank_at a 0).own.values var node) → HaveSmallViews a var → HaveSmallViews b var
small_along a b var told same few = record {
  view = few.view;
  sums = few.sums;
  leaves = leaves_along a b var few.view told same few.leaves;
  small = subst (λ (t : Told). SplitViewsAreSmall t.grid var few.view) (sym told) few.small;
}

pub node_along : (a b : WorldState) (v : ℕ) (content : CellAt → ℤ) (node : ℕ) → b.told ≡ a.told → cell_array b v node ≡ cell_array a v node → NodeHolds a v content node → NodeHolds b v content node
node_along a b v content node told same holds =
    subst (λ (t : Told). HoldsViews t.grid content (block_at t.grid node) (cells_of t.grid (cell_array b v node))) (sym told)
    (subst (λ xs. HoldsViews a.told.grid content (block_at a.told.grid node) (cells_of a.told.grid xs)) (sym same) holds)

pub cells_step : (a b c : WorldState) (v node : ℕ) → OnlyCells a b v → OnlyOf b c 0 (Cell v) node → OnlyCells a c v
cells_step a b c v node before here = record {
  told = here.told ∙ before.told;
  others = λ u k apart. here.here.others u k (λ is at. apart is) ∙ before.others u k apart;
}

pub parents_step : (a b c : WorldState) (var : Var) (node : ℕ) → OnlyParentArrays a b var → OnlyOf b c 0 var node → is_leaf_block a.told.grid (block_at a.told.grid node) ≡ false → OnlyParentArrays a c var
parents_step a b c var node before here inner = record {
  told = here.told ∙ before.told;
  others = λ u k apart. here.here.others u k (λ is at. apart is) ∙ before.others u k apart;
  leaves = λ k leaf.
      here.here.others var k (λ e s. (let yes : is_leaf_block a.told.grid (block_at a.told.grid node) ≡ true = ap (λ i. is_leaf_block a.told.grid (block_at a.told.grid i)) (sym s) ∙ leaf.leaf in cc))
      ∙ before.leaves k leaf;
}

-- ---- sizes

-- a variable of a world may be worked on, and after a step too
pub ready_now : (n e : ℕ) (w : WorldState) (var : Var) (s : Shape) → IsShape s → s ≡ w.told.grid.shape → IsFit n e w → HasVar w.told.counts var → IsReady n e w var
ready_now n e w var s shape same fit variable =
    let here : IsShape w.told.grid.shape = subst IsShape same shape in
    record {
      size = record {
        cells = subst (λ m. (m ≡ 4) ⊎ (m ≡ 8)) fit.sizes.cells here.cells;
        guards = subst (λ m. (m ≡ 1) ⊎ ((m ≡ 2) ⊎ (m ≡ 4))) fit.sizes.guards here.guards;
      };
      fit = fit;
      variable = variable;
    }

pub ready_after : (n e : ℕ) (a b : WorldState) (var : Var) → IsReady n e a var → IsFit n e b → b.told ≡ a.told → IsReady n e b var
ready_after n e a b var ready fit told = record { size = ready.size; fit = fit; variable = subst (λ (t : Told). HasVar t.counts var) (sym told) ready.variable }
