-- Leaves that are filled hold the filled contents.
use Rattle.std.proofs.Common.{◌≡◌, ℕ, ◌+◌, ◌<◌, ◌≤◌, true, false, List, ℤ, refl, sym, ap, subst, ◌∙◌, arith, inl, inr}
use Rattle.std.specs.Prelude.{if◌then◌else◌}
use Rattle.std.proofs.lemmas.Bool.{cases_lt}
use Rattle.amr_num.specs.declared.BlockAt.{BlockAt}
use Rattle.amr_num.specs.declared.CellAt.{CellAt}
use Rattle.mesh_model.specs.declared.fields.values.Var.TheVariants.{Cell}
use Rattle.mesh_model.specs.Fields.ArrayPlaces.{HoldsViews}
use Rattle.mesh_model.specs.Fields.Octants.{cells_of}
use Rattle.mesh_model.specs.Fields.Ranks.{IsSized, OnlyOf, Told, WorldState}
use Rattle.mesh_model.specs.Geometry.Places.{in_block}
use Rattle.mesh_model.specs.Tree.Kinds.{Grid, is_leaf, is_leaf_block}
use Rattle.mesh_model.specs.Tree.ValidGrid.{Valid}
use Rattle.mesh_model.proofs.FieldLemmas.BlockOctants.{block_of_cell}
use Rattle.mesh_model.proofs.FieldLemmas.CellSums.{view_leaf}
use Rattle.mesh_model.proofs.FieldLemmas.ValidGrid.{leaf_whole}
use Rattle.block_tree.specs.Numbered.{block_at}
use Rattle.rank_world.specs.Holding.{IsLeafNode, LeavesHold, NodeHolds, cell_array}
use Rattle.rank_world.specs.Holding.{OnlyCells}
use Rattle.amr_engine.specs.Filling.{IsFilled}
use Rattle.amr_engine.specs.Regions.{covers, filled_content}
use Rattle.amr_engine.specs.declared.region.Fill.{Fill}
use Rattle.rank_world.proofs.Meshes.{holds_same}

-- a fill in the sizes of the world's blocks
pub filled_sized : (n e : ℕ) (g : Grid) (b : BlockAt) (fill : Fill) (old new : List ℤ) → IsSized n e g.shape → IsFilled n e b fill old new → IsFilled g.shape.n g.shape.g b fill old new
filled_sized n e g b fill old new sized is =
    subst (λ m. IsFilled m g.shape.g b fill old new) (sym sized.cells) (subst (λ m. IsFilled n m b fill old new) (sym sized.guards) is)

-- an array that holds a field holds the filled one after the fill of a leaf
pub array_filled : (g : Grid) (b : BlockAt) (fill : Fill) (content : CellAt → ℤ) (old new : List ℤ) → Valid g → is_leaf_block g b ≡ true → IsFilled g.shape.n g.shape.g b fill old new →
    HoldsViews g content b (cells_of g old) → HoldsViews g (filled_content fill content) b (cells_of g new)
array_filled g b fill content old new valid leaf is holds = record {
  at = λ i j k hi hj hk.
      let c = in_block g.shape.n b i j k in
      let here : is_leaf g c ≡ true = ap (is_leaf_block g) (block_of_cell g.shape.n b i j k hi hj hk) ∙ leaf in
      let whole = leaf_whole g valid c here in
      is.written i j k hi hj hk
      ∙ ap (λ x. if covers fill.region c then fill.value else x) (holds.at i j k hi hj hk ∙ view_leaf g content c whole here)
      ∙ sym (view_leaf g (filled_content fill content) c whole here);
}

-- one more node of a variable is written
pub cells_again : (a b c : WorldState) (v node : ℕ) → OnlyCells a b v → OnlyOf b c 0 (Cell v) node → OnlyCells a c v
cells_again a b c v node before only = record {
  told = only.told ∙ before.told;
  others = λ u k apart. only.here.others u k (λ is at. apart is) ∙ before.others u k apart;
}

pub only_none : (a : WorldState) (v : ℕ) → OnlyCells a a v
only_none a v = record { told = refl; others = λ u node apart. refl }

-- the leaves below a node are filled, and the arrays from it on are as they were
pub record AreFilledBelow (m : ℕ) (old new : WorldState) (v : ℕ) (fill : Fill) : Type 0 where
  pub done : (content : CellAt → ℤ) → LeavesHold old v content → (k : ℕ) → k < m → IsLeafNode old.told.grid k → NodeHolds new v (filled_content fill content) k
  pub waits : (k : ℕ) → m ≤ k → cell_array new v k ≡ cell_array old v k

pub none_below : (w : WorldState) (v : ℕ) (fill : Fill) → AreFilledBelow 0 w w v fill
none_below w v fill = record { done = λ content holds k h leaf. absurd (omega arith); waits = λ k h. refl }

module _ (n g : ℕ) (m : ℕ) (old now new : WorldState) (v : ℕ) (fill : Fill) (is : AreFilledBelow m old now v fill) (before : OnlyCells old now v) where
  -- a leaf is filled
  pub leaf_filled : Valid now.told.grid → IsSized n g now.told.grid.shape → IsLeafNode now.told.grid m → OnlyOf now new 0 (Cell v) m → IsFilled n g (block_at now.told.grid m) fill (cell_array now v m) (cell_array new v m) →
      AreFilledBelow (m + 1) old new v fill
  leaf_filled valid sized leaf only filled = record {
    done = λ content holds k h there. elim (cases_lt k m) [
      | inl less ↦ holds_same now new v k (filled_content fill content) only.told (only.here.others (Cell v) k (λ u e. omega arith)) (is.done content holds k less there)
      | inr more ↦ (
          let last : k ≡ m = omega arith in
          let grid = now.told.grid in
          let was : NodeHolds now v content m = holds_same old now v m content before.told (is.waits m (omega arith)) (subst (NodeHolds old v content) last (holds k there)) in
          let xs = cell_array new v m in
          let here : HoldsViews grid (filled_content fill content) (block_at grid m) (cells_of grid xs) =
          array_filled grid (block_at grid m) fill content (cell_array now v m) xs valid leaf.leaf (filled_sized n g grid (block_at grid m) fill (cell_array now v m) xs sized filled) was in
          subst (NodeHolds new v (filled_content fill content)) (sym last)
          (subst (λ (t : Told). HoldsViews t.grid (filled_content fill content) (block_at t.grid m) (cells_of t.grid xs)) (sym only.told) here))
    ];
    waits = λ k h. only.here.others (Cell v) k (λ u e. omega arith) ∙ is.waits k (omega arith);
  }

  -- a node that is no leaf is passed over
  pub node_passed : is_leaf_block now.told.grid (block_at now.told.grid m) ≡ false → AreFilledBelow (m + 1) old now v fill
  node_passed inner = record {
    done = λ content holds k h there. elim (cases_lt k m) [
      | inl less ↦ is.done content holds k less there
      | inr more ↦ absurd (
          let last : k ≡ m = omega arith in
          let leaf : is_leaf_block now.told.grid (block_at now.told.grid m) ≡ true = subst (λ (t : Told). is_leaf_block t.grid (block_at t.grid m) ≡ true) (sym before.told) (subst (λ u. is_leaf_block old.told.grid (block_at old.told.grid u) ≡ true) last there.leaf) in
          cc)
    ];
    waits = λ k h. is.waits k (omega arith);
  }
