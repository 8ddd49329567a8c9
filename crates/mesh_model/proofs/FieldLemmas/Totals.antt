-- The total is the sum of the views on level 0, so it does not depend on the tree, and regrid keeps it.
use Rattle.std.proofs.Common.{◌≡◌, ℕ, true, ℤ, sym, ◌∙◌, inl, inr}
use Rattle.std.proofs.lemmas.Bool.{cases_Bool}
use Rattle.amr_num.specs.declared.CellAt.{CellAt}
use Rattle.mesh_model.specs.Tree.Kinds.{Grid, is_leaf, is_split}
use Rattle.mesh_model.specs.Fields.Plain.{marked, Mesh}
use Rattle.mesh_model.specs.Tree.ValidGrid.{Valid}
use Rattle.mesh_model.specs.Fields.Valid.{valid_marked, ValidMesh}
use Rattle.mesh_model.specs.Fields.Views.{cell_view}
use Rattle.mesh_model.specs.Tree.Order.{Sorted}
use Rattle.mesh_model.specs.Fields.Totals.{level_sum, leaf_sum, total}
use Rattle.mesh_model.specs.Fields.Regrid.{regrid}
use Rattle.mesh_model.specs.Tree.Regrown.{new_grid}
use Rattle.mesh_model.proofs.FieldLemmas.ValidGrid.{kinds, tree}
use Rattle.mesh_model.proofs.FieldLemmas.CellSums.{cell_view_sum, view_leaf}
use Rattle.mesh_model.proofs.FieldLemmas.CellKinds.{Kinds}
use Rattle.mesh_model.proofs.TreeLemmas.Ruled.{new_grid_valid}
use Rattle.mesh_model.proofs.TreeLemmas.Sorting.{new_grid_sorted}
use Rattle.mesh_model.proofs.FieldLemmas.BlockSums.{sum_by_leaves}
use Rattle.mesh_model.proofs.FieldLemmas.LeafSums.{leaf_sum_is, leaf_same, leaf_twice}

-- a leaf cell is seen as its content
pub view_of_leaf : (g : Grid) (k : Kinds g) (v : CellAt → ℤ) (c : CellAt) → is_leaf g c ≡ true → cell_view g v c ≡ v c
view_of_leaf g k v c h = elim (cases_Bool (is_split g c)) [
  | inl s ↦ let n = k.one c s in cc
  | inr n ↦ view_leaf g v c n h
]

-- the total by levels: over the levels and the cells of each, the contents of leaf cells
pub total_by_levels : (g : Grid) (v : CellAt → ℤ) → Valid g → Sorted g.leaves → total g v ≡ leaf_sum g v
total_by_levels g v valid order = sym (sum_by_leaves g v valid order)

leaves_of_views : (g : Grid) (v : CellAt → ℤ) → Valid g → leaf_sum g v ≡ level_sum g.shape 0 (cell_view g v)
leaves_of_views g v valid =
    leaf_same g _ _ (λ c i t. sym (view_of_leaf g (kinds g valid) v c t)) ∙ leaf_sum_is g (cell_view g v) (kinds g valid) (cell_view_sum g v (tree g valid))

pub total_of_views : (g : Grid) (v : CellAt → ℤ) → Valid g → Sorted g.leaves → total g v ≡ level_sum g.shape 0 (cell_view g v)
total_of_views g v valid order = total_by_levels g v valid order ∙ leaves_of_views g v valid

-- regrid keeps the total of each variable
pub regrid_keeps_total : (m : Mesh) (var : ℕ) → ValidMesh m → total (regrid m).grid ((regrid m).cells var) ≡ total m.grid (m.cells var)
regrid_keeps_total m var valid =
    let v = m.cells var in
    total_by_levels (new_grid (marked m)) _ (new_grid_valid (marked m) (valid_marked m valid)) (new_grid_sorted (marked m) (valid_marked m valid))
    ∙ leaf_twice (new_grid (marked m)) (cell_view m.grid v)
    ∙ leaf_sum_is (new_grid (marked m)) (cell_view m.grid v) (kinds (new_grid (marked m)) (new_grid_valid (marked m) (valid_marked m valid))) (cell_view_sum m.grid v (tree m.grid valid.grid))
    ∙ sym (total_of_views m.grid v valid.grid valid.order)
