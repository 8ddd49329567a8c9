-- Leaves that are settled, one after the other, and that take over their work cells.
use Rattle.std.proofs.Common.{◌≡◌, ℕ, ◌+◌, ◌<◌, ◌≤◌, ◌^◌, true, false, length, ℤ, None, refl, sym, ap, subst, ◌∙◌, arith, inl, inr}
use Rattle.std.specs.Prelude.{find, flat_map}
use Rattle.std.proofs.lemmas.Bool.{cases_lt}
use Rattle.amr_num.specs.Numbers.{Within, number_range, sum_below}
use Rattle.amr_num.specs.declared.Axis.{Axis}
use Rattle.amr_num.specs.declared.Axis.TheVariants.{X, Y, Z}
use Rattle.amr_num.specs.declared.BlockAt.{BlockAt}
use Rattle.amr_num.specs.declared.CellAt.{CellAt}
use Rattle.mesh_model.specs.declared.fields.values.Var.{Var}
use Rattle.mesh_model.specs.declared.fields.values.Var.TheVariants.{Cell, CellWork, FaceWork}
use Rattle.mesh_model.specs.Fields.Advect.{Speeds, advected, flux, keeps_courant, outflow}
use Rattle.mesh_model.specs.Fields.ArrayPlaces.{HoldsFaceField, HoldsViews, face_extents, number_at}
use Rattle.mesh_model.specs.Fields.Arrays.{array_in}
use Rattle.mesh_model.specs.Fields.Octants.{cells_of}
use Rattle.mesh_model.specs.Fields.RangeWalk.{cells_walked, is_above}
use Rattle.mesh_model.specs.Fields.Ranks.{IsFit, OnlyOf, Told, WorldState, rank_at}
use Rattle.mesh_model.specs.Geometry.Places.{block_cells, in_block, longer_on}
use Rattle.mesh_model.specs.Tree.Kinds.{Grid, is_leaf, is_leaf_block}
use Rattle.mesh_model.specs.Tree.Order.{Sorted, nodes}
use Rattle.mesh_model.specs.Tree.ValidGrid.{Valid}
use Rattle.mesh_model.proofs.FieldLemmas.BlockOctants.{block_of_cell}
use Rattle.mesh_model.proofs.FieldLemmas.CellSums.{view_leaf}
use Rattle.mesh_model.proofs.FieldLemmas.FirstFound.{found_first, one_more_none}
use Rattle.mesh_model.proofs.FieldLemmas.Totals.{total_by_levels}
use Rattle.mesh_model.proofs.FieldLemmas.ValidGrid.{leaf_whole}
use Rattle.block_tree.specs.Numbered.{block_at}
use Rattle.block_tree.proofs.Leaves.{leaves_are}
use Rattle.rank_world.specs.Exchanging.{IsWorldExchanged}
use Rattle.rank_world.specs.Holding.{IsLeafNode, LeavesHold, cell_array}
use Rattle.flux_conserve.specs.Work.{IsJumpNode, work_array}
use Rattle.guard_fill.specs.Filling.{HoldsSides, LeavesSided}
use Rattle.rank_world.proofs.Walked.{found_filtered}
use Rattle.mesh_steps.specs.Flowing.{IsReady}
use Rattle.mesh_steps.specs.Settling.{AreFluxed, HoldsContents, IsRefused, IsSettled, MaySettle, OnlyCellsAndWork, OnlyWorkCells, WorkCellsHold, WorkNodeHolds, above_below, lost, node_above, work_cells}
use Rattle.mesh_steps.specs.declared.hindrance.Above.{Above}
use Rattle.rank_world.specs.NodeSums.{node_sum}
use Rattle.rank_world.proofs.NodeSums.{node_sums}

-- the contents of a leaf's cells are the views of them
pub views_of_contents : (g : Grid) (content : CellAt → ℤ) (b : BlockAt) (numbers : ℕ → ℕ → ℕ → ℤ) → Valid g → is_leaf_block g b ≡ true → HoldsContents g content b numbers → HoldsViews g content b numbers
views_of_contents g content b numbers valid leaf holds = record {
  at = λ i j k hi hj hk.
      let c = in_block g.shape.n b i j k in
      let here : is_leaf g c ≡ true = ap (is_leaf_block g) (block_of_cell g.shape.n b i j k hi hj hk) ∙ leaf in
      holds.at i j k hi hj hk ∙ sym (view_leaf g content c (leaf_whole g valid c here) here);
}

-- the leaves below a node took over their work cells, and no other work cells changed
pub record AreTakenBelow (m : ℕ) (old new : WorldState) (v : ℕ) : Type 0 where
  pub done : (k : ℕ) → k < m → IsLeafNode old.told.grid k → cell_array new v k ≡ work_cells old k
  pub rest : (k : ℕ) → m ≤ k → work_cells new k ≡ work_cells old k

pub none_taken : (w : WorldState) (v : ℕ) → AreTakenBelow 0 w w v
none_taken w v = record { done = λ k h leaf. absurd (omega arith); rest = λ k h. refl }

module _ (m : ℕ) (old now new : WorldState) (v : ℕ) (is : AreTakenBelow m old now v) (before : OnlyCellsAndWork old now v) where
  -- a leaf does
  module _ (taken : IsWorldExchanged now new m (Cell v) CellWork) where
    elsewhere : (u : Var) (k : ℕ) → (k ≡ m → ⊥) → array_in (rank_at new 0).own.values u k ≡ array_in (rank_at now 0).own.values u k
    elsewhere u k ne = taken.here.arrays.others u k (λ e at. ne at) (λ e at. ne at)

    pub leaf_taken : AreTakenBelow (m + 1) old new v
    leaf_taken = record {
      done = λ k h there. elim (cases_lt k m) [
        | inl less ↦ elsewhere (Cell v) k (λ e. omega arith) ∙ is.done k less there
        | inr more ↦ (
            let last : k ≡ m = omega arith in
            ap (cell_array new v) last ∙ taken.here.arrays.first ∙ is.rest m (omega arith) ∙ ap (work_cells old) (sym last))
      ];
      rest = λ k h. elsewhere CellWork k (λ e. omega arith) ∙ is.rest k (omega arith);
    }

    pub only_taken : OnlyCellsAndWork old new v
    only_taken = record {
      told = taken.told ∙ before.told;
      others = λ u k no_cell no_work. taken.here.arrays.others u k (λ e at. no_cell e) (λ e at. no_work e) ∙ before.others u k no_cell no_work;
    }

  -- a node that is no leaf is passed over
  pub node_not_taken : is_leaf_block now.told.grid (block_at now.told.grid m) ≡ false → AreTakenBelow (m + 1) old now v
  node_not_taken inner = record {
    done = λ k h there. elim (cases_lt k m) [
      | inl less ↦ is.done k less there
      | inr more ↦ absurd (
          let last : k ≡ m = omega arith in
          let leaf : is_leaf_block now.told.grid (block_at now.told.grid m) ≡ true = subst (λ (t : Told). is_leaf_block t.grid (block_at t.grid m) ≡ true) (sym before.told) (subst (λ u. is_leaf_block old.told.grid (block_at old.told.grid u) ≡ true) last there.leaf) in
          cc)
    ];
    rest = λ k h. is.rest k (omega arith);
  }

-- so all leaves hold what their work cells held
pub all_taken : (m : ℕ) (old new : WorldState) (v : ℕ) → Valid old.told.grid → OnlyCellsAndWork old new v → AreTakenBelow m old new v → ((k : ℕ) → IsLeafNode old.told.grid k → k < m) →
    (content : CellAt → ℤ) → WorkCellsHold old content → LeavesHold new v content
all_taken m old new v valid only is all content holds k leaf =
    let grid = old.told.grid in
    let there : IsLeafNode grid k = subst (λ (t : Told). IsLeafNode t.grid k) only.told leaf in
    let b = block_at grid k in
    let here : HoldsViews grid content b (cells_of grid (work_cells old k)) = views_of_contents grid content b (cells_of grid (work_cells old k)) valid there.leaf (holds k there) in
    subst (λ (t : Told). HoldsViews t.grid content (block_at t.grid k) (cells_of t.grid (cell_array new v k))) (sym only.told)
    (subst (λ xs. HoldsViews grid content b (cells_of grid xs)) (sym (is.done k (all k there) there)) here)

-- ---- worlds whose work cells are written

pub only_work_none : (a : WorldState) → OnlyWorkCells a a
only_work_none a = record { told = refl; others = λ u node apart. refl }

pub work_again : (a b c : WorldState) (node : ℕ) → OnlyWorkCells a b → OnlyOf b c 0 CellWork node → OnlyWorkCells a c
work_again a b c node before only = record {
  told = only.told ∙ before.told;
  others = λ u k apart. only.here.others u k (λ is at. apart is) ∙ before.others u k apart;
}

module _ (old now : WorldState) (v : ℕ) (before : OnlyWorkCells old now) where
  cells_same : (u k : ℕ) → cell_array now u k ≡ cell_array old u k
  cells_same u k = before.others (Cell u) k (λ e. cc)

  faces_same : (a : Axis) (k : ℕ) → work_array now a k ≡ work_array old a k
  faces_same a k = before.others (FaceWork a) k (λ e. cc)

  guarded_still : (content : CellAt → ℤ) → LeavesSided old v content → LeavesSided now v content
  guarded_still content guarded k leaf =
      let was = guarded k (subst (λ (t : Told). IsLeafNode t.grid k) before.told leaf) in
      subst (λ (t : Told). HoldsSides t.grid content (block_at t.grid k) (cells_of t.grid (cell_array now v k))) (sym before.told)
      (subst (λ xs. HoldsSides old.told.grid content (block_at old.told.grid k) (cells_of old.told.grid xs)) (sym (cells_same v k)) was)

  -- a step may be made of them still
  pub ready_still : (n g : ℕ) (speeds : Speeds) → IsFit n g now → IsReady n g old v speeds → IsReady n g now v speeds
  ready_still n g speeds fit ready = record {
    fit = fit;
    variable = subst (λ (t : Told). v < t.counts.cells) (sym before.told) ready.variable;
    guarded = record { content = ready.guarded.content; guarded = guarded_still ready.guarded.content ready.guarded.guarded; small = ready.guarded.small };
    courant = subst (λ (t : Told). keeps_courant t.grid.shape speeds ≡ true) (sym before.told) ready.courant;
  }

  -- the leaves hold the contents and the fluxes that they held
  pub fluxed_still : (content : CellAt → ℤ) (n : Speeds) → AreFluxed old v content n → AreFluxed now v content n
  fluxed_still content n are = record {
    cells = λ k leaf.
        let was = are.cells k (subst (λ (t : Told). IsLeafNode t.grid k) before.told leaf) in
        subst (λ (t : Told). HoldsViews t.grid content (block_at t.grid k) (cells_of t.grid (cell_array now v k))) (sym before.told)
        (subst (λ xs. HoldsViews old.told.grid content (block_at old.told.grid k) (cells_of old.told.grid xs)) (sym (cells_same v k)) was);
    guarded = guarded_still content are.guarded;
    faces = λ k a leaf.
        let was = are.faces k a (subst (λ (t : Told). IsJumpNode t.grid k) before.told leaf) in
        subst (λ (t : Told). HoldsFaceField t.grid (flux t.grid content n) a (block_at t.grid k) (number_at (face_extents t.grid.shape.n t.grid.shape.g a) (work_array now a k))) (sym before.told)
        (subst (λ xs. HoldsFaceField old.told.grid (flux old.told.grid content n) a (block_at old.told.grid k) (number_at (face_extents old.told.grid.shape.n old.told.grid.shape.g a) xs)) (sym (faces_same a k)) was);
  }

  -- and their numbers are as small as they were
  pub may_still : (n g : ℕ) → IsFit n g now → MaySettle n g old v → MaySettle n g now v
  may_still n g fit may = record {
    fit = fit;
    variable = subst (λ (t : Told). v < t.counts.cells) (sym before.told) may.variable;
    range = λ u k declared leaf.
        let was = may.range u k (subst (λ (t : Told). u < t.counts.cells) before.told declared) (subst (λ (t : Told). IsLeafNode t.grid k) before.told leaf) in
        record {
          cells = subst (λ (t : Told). (x y z : ℕ) → x < t.grid.shape.n → y < t.grid.shape.n → z < t.grid.shape.n →
              Within number_range (cells_of t.grid (cell_array now u k) (t.grid.shape.g + x) (t.grid.shape.g + y) (t.grid.shape.g + z))) (sym before.told)
              (subst (λ xs. (x y z : ℕ) → x < old.told.grid.shape.n → y < old.told.grid.shape.n → z < old.told.grid.shape.n →
              Within number_range (cells_of old.told.grid xs (old.told.grid.shape.g + x) (old.told.grid.shape.g + y) (old.told.grid.shape.g + z))) (sym (cells_same u k)) was.cells);
        };
    small = λ k a leaf.
        let was = may.small k a (subst (λ (t : Told). IsJumpNode t.grid k) before.told leaf) in
        record {
          at = subst (λ (t : Told). (x y z : ℕ) → x < longer_on a X t.grid.shape.n → y < longer_on a Y t.grid.shape.n → z < longer_on a Z t.grid.shape.n →
              Within (2 ^ 58) (number_at (face_extents t.grid.shape.n t.grid.shape.g a) (work_array now a k) (t.grid.shape.g + x) (t.grid.shape.g + y) (t.grid.shape.g + z))) (sym before.told)
              (subst (λ xs. (x y z : ℕ) → let s = old.told.grid.shape in x < longer_on a X s.n → y < longer_on a Y s.n → z < longer_on a Z s.n →
              Within (2 ^ 58) (number_at (face_extents s.n s.g a) xs (s.g + x) (s.g + y) (s.g + z))) (sym (faces_same a k)) was.at);
        };
  }

-- ---- leaves that are settled

-- the leaves below a node are settled
pub record AreSettledBelow (m : ℕ) (old new : WorldState) (v : ℕ) (n : Speeds) : Type 0 where
  pub made : (content : CellAt → ℤ) → AreFluxed old v content n → (k : ℕ) → k < m → IsLeafNode old.told.grid k → WorkNodeHolds new (advected old.told.grid content n) k
  pub none : (content : CellAt → ℤ) → AreFluxed old v content n → above_below old.told.grid content n m ≡ None

pub none_settled : (w : WorldState) (v : ℕ) (n : Speeds) → AreSettledBelow 0 w w v n
none_settled w v n = record { made = λ content are k h leaf. absurd (omega arith); none = λ content are. refl }

module _ (m : ℕ) (old now new : WorldState) (v : ℕ) (n : Speeds) (is : AreSettledBelow m old now v n) (before : OnlyWorkCells old now) where
  -- one more node is
  pub node_settled : OnlyOf now new 0 CellWork m → ((content : CellAt → ℤ) → AreFluxed now v content n → IsSettled now new content n m) → AreSettledBelow (m + 1) old new v n
  node_settled only settled = record {
    made = λ content are k h there. elim (cases_lt k m) [
      | inl less ↦ (
          let field = advected old.told.grid content n in
          subst (λ (t : Told). HoldsContents t.grid field (block_at t.grid k) (cells_of t.grid (work_cells new k))) (sym only.told)
          (subst (λ xs. HoldsContents now.told.grid field (block_at now.told.grid k) (cells_of now.told.grid xs)) (sym (only.here.others CellWork k (λ u e. omega arith))) (is.made content are k less there)))
      | inr more ↦ (
          let last : k ≡ m = omega arith in
          let here = (settled content (fluxed_still old now v before content n are)).made in
          let made : IsLeafNode old.told.grid m → WorkNodeHolds new (advected old.told.grid content n) m = subst (λ (t : Told). IsLeafNode t.grid m → WorkNodeHolds new (advected t.grid content n) m) before.told here in
          subst (WorkNodeHolds new (advected old.told.grid content n)) (sym last) (made (subst (IsLeafNode old.told.grid) last there)))
    ];
    none = λ content are.
        one_more_none m (node_above old.told.grid content n) (is.none content are)
        (subst (λ (t : Told). node_above t.grid content n m ≡ None) before.told (settled content (fluxed_still old now v before content n are)).none);
  }

-- ---- the walk over the leaves

module _ (g : Grid) (content : CellAt → ℤ) (n : Speeds) (valid : Valid g) where
  -- the first cell that is refused
  pub walked_above : find (λ c. is_above number_range (advected g content n c)) (cells_walked g) ≡ above_below g content n (length (nodes g.leaves))
  unfolding block_at
  walked_above =
      let above = λ (c : CellAt). is_above number_range (advected g content n c) in
      ap (λ ls. find above (flat_map (block_cells g.shape.n) ls)) (sym (leaves_are g valid)) ∙ found_filtered above (block_cells g.shape.n) (is_leaf_block g) (nodes g.leaves)

  -- what all nodes lose flows out
  pub lost_outflow : Sorted g.leaves → sum_below (length (nodes g.leaves)) (node_sum g (lost g content n)) ≡ outflow g content n
  lost_outflow order = node_sums g (lost g content n) valid ∙ total_by_levels g (lost g content n) valid order

  pub walk_refused : (m : ℕ) (above : Above) → m < length (nodes g.leaves) → above_below g content n m ≡ None → IsRefused g content n (node_above g content n m) above →
      IsRefused g content n (find (λ c. is_above number_range (advected g content n c)) (cells_walked g)) above
  walk_refused m above there none refused = record {
    first_is = walked_above ∙ found_first (length (nodes g.leaves)) m (node_above g content n) above.cell none refused.first_is there;
    value_is = refused.value_is;
  }
