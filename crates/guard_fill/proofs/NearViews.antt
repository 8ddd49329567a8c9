-- The views in the nearest layer of guard cells of a leaf are small: a cell beside a leaf is split at most once.
use Rattle.std.proofs.Common.{◌≡◌, ℕ, zero, suc, ◌+◌, ◌-◌, ◌*◌, ◌/◌, ◌%◌, ◌<◌, true, false, ℤ, refl, sym, ap, subst, ◌∙◌, arith, inl, inr}
use Rattle.std.proofs.lemmas.Bool.{cases_Bool}
use Rattle.amr_num.specs.declared.Axis.TheVariants.{X, Y, Z}
use Rattle.amr_num.specs.declared.BlockAt.{BlockAt}
use Rattle.amr_num.specs.declared.CellAt.{CellAt}
use Rattle.amr_num.specs.Numbers.{Within, part}
use Rattle.amr_num.proofs.Sizes.{part_size, sum_within}
use Rattle.mesh_model.specs.Fields.ArrayPlaces.{cell_there, side}
use Rattle.mesh_model.specs.Fields.Ranks.{WorldState}
use Rattle.mesh_model.specs.Fields.Views.{cell_view, view_at}
use Rattle.mesh_model.specs.Geometry.Coordinates.{octant_of, parent_cell, sub_cell}
use Rattle.mesh_model.specs.Tree.Kinds.{Grid, is_leaf, is_split}
use Rattle.mesh_model.specs.Tree.Order.{IsIn}
use Rattle.mesh_model.specs.Tree.ValidGrid.{Valid}
use Rattle.mesh_model.proofs.FieldLemmas.Beside.{three}
use Rattle.mesh_model.proofs.FieldLemmas.CellSums.{at_inner, at_leaf, cell_view_sum}
use Rattle.mesh_model.proofs.FieldLemmas.ValidGrid.{tree}
use Rattle.mesh_model.proofs.TreeLemmas.Tests.{refuted}
use Rattle.mesh_model.proofs.TreeLemmas.Tiling.{leaf_says}
use Rattle.guard_fill.proofs.AxisStrips.{guards_least}
use Rattle.guard_fill.proofs.NearCells.{NextTo, next_cell, sub_calm}
use Rattle.block_tree.specs.Numbered.{block_at}
use Rattle.rank_world.specs.Holding.{IsLeafNode, numbers_of}
use Rattle.guard_fill.specs.Filling.{NodeGuarded}
use Rattle.guard_fill.specs.Near.{IsNear}

-- ---- views of cells that are not split

module _ (g : Grid) (content : CellAt → ℤ) (most : ℕ) (valid : Valid g) (small : (c : CellAt) → Within most (content c)) where
  part_within : (q : ℕ) (n : ℤ) → Within most n → Within most (part q n 8)
  part_within q n h = let size = part_size q 8 n (omega arith) in omega arith

  -- the cell round one that is neither split nor a leaf cell is not split
  whole_round : (c : CellAt) → 0 < c.level → is_split g c ≡ false → is_leaf g c ≡ false → is_split g (parent_cell c) ≡ false
  whole_round c up whole none = refuted _ (λ split.
      let o = octant_of c in
      let level : suc (c.level - 1) ≡ c.level = omega arith in
      let x : 2 * (c.x / 2) + o % 2 ≡ c.x = omega arith in
      let y : 2 * (c.y / 2) + o / 2 % 2 ≡ c.y = omega arith in
      let z : 2 * (c.z / 2) + o / 4 % 2 ≡ c.z = omega arith in
      let is : sub_cell (parent_cell c) o ≡ c = (λ t. record { level = level t; x = x t; y = y t; z = z t }) in
      let leaf = (tree g valid).below_split (parent_cell c) o split (ap (is_split g) is ∙ whole) in
      let yes : is_leaf g c ≡ true = sym (ap (is_leaf g) is) ∙ leaf in
      cc)

  first : (c : CellAt) → is_split g c ≡ false → view_at g content zero c ≡ content c
  unfolding view_at
  first c whole = rw (whole, view_at) refl

  whole_at : (l : ℕ) (c : CellAt) → c.level ≡ l → is_split g c ≡ false → Within most (view_at g content l c)
  whole_at zero c level whole = subst (Within most) (sym (first c whole)) (small c)
  whole_at (suc l) c level whole = elim (cases_Bool (is_leaf g c)) [
    | inl leaf ↦ subst (Within most) (sym (at_leaf g content (suc l) c whole leaf)) (small c)
    | inr none ↦ subst (Within most) (sym (at_inner g content l c whole none))
        (part_within (octant_of c) (view_at g content l (parent_cell c)) (whole_at l (parent_cell c) (omega arith) (whole_round c (omega arith) whole none)))
  ]

  whole_small : (c : CellAt) → is_split g c ≡ false → Within most (cell_view g content c)
  whole_small c whole = whole_at c.level c refl whole

  -- a cell none of whose sub-cells is split
  once_split : (c : CellAt) → ((q : ℕ) → is_split g (sub_cell c q) ≡ false) → Within (8 * most) (cell_view g content c)
  once_split c whole =
      subst (Within (8 * most)) (sym (cell_view_sum g content (tree g valid) c)) (sum_within 8 most (λ q. cell_view g content (sub_cell c q)) (λ q h. whole_small (sub_cell c q) (whole q)))

-- ---- the views near a leaf

-- the view at a place of a leaf, or of its nearest guard cells, is at most eight times the greatest content
pub near_view_within : (g : Grid) (content : CellAt → ℤ) (most : ℕ) (b : BlockAt) (i j k : ℕ) → Valid g → ((c : CellAt) → Within most (content c)) → IsIn b g.leaves →
    IsNear g.shape i → IsNear g.shape j → IsNear g.shape k → Within (8 * most) (cell_view g content (cell_there g.shape b i j k))
near_view_within g content most b i j k valid small leaf hi hj hk =
    let s = g.shape in
    let c = cell_there s b i j k in
    let domain = valid.tiles.inside b leaf in
    let next : NextTo g b c = record { level = refl; axes = three _ (next_cell s X b.level b.x i valid.shape domain.x hi) (next_cell s Y b.level b.y j valid.shape domain.y hj) (next_cell s Z b.level b.z k valid.shape domain.z hk) } in
    elim (cases_Bool (is_split g c)) [
      | inl split ↦ once_split g content most valid small c (λ q. sub_calm g valid b leaf c next q split)
      | inr whole ↦ (let here = whole_small g content most valid small c whole in omega arith)
    ]

-- so are the numbers of a leaf that has its guard cells
pub near_number_within : (w : WorldState) (v node i j k : ℕ) (content : CellAt → ℤ) (most : ℕ) → Valid w.told.grid → ((c : CellAt) → Within most (content c)) → IsLeafNode w.told.grid node →
    NodeGuarded w v content node → let s = w.told.grid.shape in IsNear s i → IsNear s j → IsNear s k → Within (8 * most) (numbers_of w v node i j k)
near_number_within w v node i j k content most valid small leaf guarded hi hj hk =
    let g = w.told.grid in
    let inside : (t : ℕ) → IsNear g.shape t → t < side g.shape.n g.shape.g = (λ t near. (let few = guards_least {n = g.shape.n} (record { cells = valid.shape.cells; guards = valid.shape.guards }) in let high = near.high in omega arith)) in
    subst (Within (8 * most)) (sym (guarded.at i j k (inside i hi) (inside j hj) (inside k hk)))
    (near_view_within g content most (block_at g node) i j k valid small (leaf_says g (block_at g node) leaf.leaf) hi hj hk)
