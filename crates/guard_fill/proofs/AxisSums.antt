-- Arrays that stand one on each axis, summed one after the other.
use Rattle.std.proofs.Common.{◌≡◌, ℕ, ℤ, sym, subst, ◌∙◌}
use Rattle.amr_num.specs.declared.Axis.{Axis}
use Rattle.amr_num.specs.declared.Axis.TheVariants.{X, Y, Z}
use Rattle.amr_num.specs.declared.CellAt.{CellAt}
use Rattle.mesh_model.specs.declared.fields.values.Var.{Var}
use Rattle.mesh_model.specs.Fields.Arrays.{array_in}
use Rattle.mesh_model.specs.Fields.Ranks.{Told, WorldState, rank_at}
use Rattle.block_tree.specs.Numbered.{IsNode}
use Rattle.rank_world.specs.Holding.{IsLeafNode}
use Rattle.guard_fill.specs.Restricting.{AddUp, HaveSmallViews, LeavesHave, NodesHave, OnlyParentArrays, OnlyParentAxes}
use Rattle.guard_fill.proofs.Restricted.{has_along, leaves_along, small_along}

-- the arrays of an axis are not those of another
abbrev pub Apart : (Axis → Var) → Type 0
Apart var = (a b : Axis) → var a ≡ var b → a ≡ b

module _ (var : Axis → Var) (apart : Apart var) (w x : WorldState) (b : Axis) (only : OnlyParentArrays w x (var b)) where
  -- one axis is summed, and another stays
  other_stays : (a : Axis) → (a ≡ b → ⊥) → (node : ℕ) → array_in (rank_at x 0).own.values (var a) node ≡ array_in (rank_at w 0).own.values (var a) node
  other_stays a ne node = only.others (var a) node (λ is. ne (apart a b is))

  -- the leaves stay on all
  leaf_stays : (a : Axis) (node : ℕ) → IsLeafNode w.told.grid node → array_in (rank_at x 0).own.values (var a) node ≡ array_in (rank_at w 0).own.values (var a) node
  leaf_stays X node leaf = same b only
    where
      same : (d : Axis) → OnlyParentArrays w x (var d) → array_in (rank_at x 0).own.values (var X) node ≡ array_in (rank_at w 0).own.values (var X) node
      same X o = o.leaves node leaf
      same Y o = o.others (var X) node (λ is. absurd (let e = apart X Y is in cc))
      same Z o = o.others (var X) node (λ is. absurd (let e = apart X Z is in cc))
  leaf_stays Y node leaf = same b only
    where
      same : (d : Axis) → OnlyParentArrays w x (var d) → array_in (rank_at x 0).own.values (var Y) node ≡ array_in (rank_at w 0).own.values (var Y) node
      same X o = o.others (var Y) node (λ is. absurd (let e = apart Y X is in cc))
      same Y o = o.leaves node leaf
      same Z o = o.others (var Y) node (λ is. absurd (let e = apart Y Z is in cc))
  leaf_stays Z node leaf = same b only
    where
      same : (d : Axis) → OnlyParentArrays w x (var d) → array_in (rank_at x 0).own.values (var Z) node ≡ array_in (rank_at w 0).own.values (var Z) node
      same X o = o.others (var Z) node (λ is. absurd (let e = apart Z X is in cc))
      same Y o = o.others (var Z) node (λ is. absurd (let e = apart Z Y is in cc))
      same Z o = o.leaves node leaf

  pub still_small : (a : Axis) → HaveSmallViews w (var a) → HaveSmallViews x (var a)
  still_small a few = small_along w x (var a) only.told (leaf_stays a) few

  pub still_have : (a : Axis) (view : CellAt → ℤ) → LeavesHave w (var a) view → LeavesHave x (var a) view
  still_have a view leaves = leaves_along w x (var a) view only.told (leaf_stays a) leaves

  pub nodes_stay : (a : Axis) → (a ≡ b → ⊥) → (view : CellAt → ℤ) → NodesHave w (var a) view → NodesHave x (var a) view
  nodes_stay a ne view nodes node there =
      has_along w x (var a) view node only.told (other_stays a ne node) (nodes node (subst (λ (t : Told). IsNode t.grid node) only.told there))

-- three axes, one after the other
module _ (var : Axis → Var) (apart : Apart var) (w x y z : WorldState) (on_x : OnlyParentArrays w x (var X)) (on_y : OnlyParentArrays x y (var Y)) (on_z : OnlyParentArrays y z (var Z)) where
  pub three_only : OnlyParentAxes var w z
  three_only = record {
    only = record {
      told = on_z.told ∙ on_y.told ∙ on_x.told;
      others = λ u node none. on_z.others u node (none Z) ∙ on_y.others u node (none Y) ∙ on_x.others u node (none X);
    };
    leaves = λ a node leaf.
        let leaf_x : IsLeafNode x.told.grid node = subst (λ (t : Told). IsLeafNode t.grid node) (sym on_x.told) leaf in
        let leaf_y : IsLeafNode y.told.grid node = subst (λ (t : Told). IsLeafNode t.grid node) (sym on_y.told) leaf_x in
        leaf_stays var apart y z Z on_z a node leaf_y ∙ leaf_stays var apart x y Y on_y a node leaf_x ∙ leaf_stays var apart w x X on_x a node leaf;
  }

  module _ (view : Axis → CellAt → ℤ) (sums : (a : Axis) → AddUp (var a) (view a)) (leaves : (a : Axis) → LeavesHave w (var a) (view a))
      (made_x : LeavesHave w (var X) (view X) → NodesHave x (var X) (view X)) (made_y : LeavesHave x (var Y) (view Y) → NodesHave y (var Y) (view Y)) (made_z : LeavesHave y (var Z) (view Z) → NodesHave z (var Z) (view Z)) where
    pub three_views : (a : Axis) → NodesHave z (var a) (view a)
    three_views X = nodes_stay var apart y z Z on_z X (λ e. absurd cc) (view X) (nodes_stay var apart x y Y on_y X (λ e. absurd cc) (view X) (made_x (leaves X)))
    three_views Y = nodes_stay var apart y z Z on_z Y (λ e. absurd cc) (view Y) (made_y (still_have var apart w x X on_x Y (view Y) (leaves Y)))
    three_views Z = made_z (still_have var apart x y Y on_y Z (view Z) (still_have var apart w x X on_x Z (view Z) (leaves Z)))
