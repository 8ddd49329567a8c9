-- Where every leaf cell balances, every cell does, so regrid keeps that.
use Rattle.std.proofs.Common.{◌≡◌, ℕ, zero, suc, ◌-◌, ◌<◌, true, false, ℤ, pos, refl, sym, ap, ◌∙◌, arith, inl, inr}
use Rattle.std.proofs.lemmas.Bool.{cases_Bool}
use Rattle.amr_num.specs.declared.Axis.{Axis}
use Rattle.amr_num.specs.declared.Axis.TheVariants.{X, Y, Z}
use Rattle.amr_num.specs.declared.CellAt.{CellAt}
use Rattle.amr_num.specs.declared.FaceAt.{FaceAt}
use Rattle.amr_num.specs.Numbers.{sum_below}
use Rattle.mesh_model.specs.Geometry.Coordinates.{sub_cell, parent_cell, octant_of, face_of, after, extent, Inside}
use Rattle.mesh_model.specs.Tree.Kinds.{Grid, is_leaf, is_split}
use Rattle.mesh_model.specs.Fields.Plain.{marked, Mesh}
use Rattle.mesh_model.specs.Tree.ValidGrid.{Valid}
use Rattle.mesh_model.specs.Fields.Valid.{valid_marked, ValidMesh}
use Rattle.mesh_model.specs.Fields.Views.{face_view}
use Rattle.mesh_model.specs.Fields.Circulation.{net_flux}
use Rattle.mesh_model.specs.Fields.Balance.{Balanced}
use Rattle.mesh_model.specs.Tree.Regrown.{new_grid}
use Rattle.mesh_model.specs.Fields.Regrid.{regrid}
use Rattle.mesh_model.proofs.FieldLemmas.ValidGrid.{leaf_inside}
use Rattle.mesh_model.proofs.FieldLemmas.Slots.{same_cell}
use Rattle.mesh_model.proofs.FieldLemmas.Round.{parent_inside}
use Rattle.mesh_model.proofs.TreeLemmas.Ruled.{new_grid_valid}
use Rattle.mesh_model.proofs.FieldLemmas.Adding.{net_flux_sum}
use Rattle.mesh_model.proofs.FieldLemmas.CellKinds.{Kinds, kinds_of_tiles, wide_of}
use Rattle.mesh_model.proofs.FieldLemmas.Divergence.{net_of_new}
use Rattle.mesh_model.proofs.FieldLemmas.Inside.{sub_cells_balance}
use Rattle.mesh_model.proofs.FieldLemmas.LeafFaces.{face_adds, face_deep}
use Rattle.mesh_model.proofs.FieldLemmas.Sums.{sum_below_zero}

sub_of_parent : (c : CellAt) → 0 < c.level → sub_cell (parent_cell c) (octant_of c) ≡ c
sub_of_parent c h = same_cell _ _ (omega arith) (omega arith) (omega arith) (omega arith)

octant_small : (c : CellAt) → octant_of c < 8
octant_small c = omega arith

module _ (g : Grid) (valid : Valid g) (faces : FaceAt → ℤ) (balanced : Balanced g faces) where
  kinds : Kinds g
  kinds = kinds_of_tiles g valid.tiles valid.shape

  wide : (a : Axis) (l : ℕ) → 0 < extent g.shape a l
  wide = wide_of g.shape valid.shape

  net : CellAt → ℤ
  net c = net_flux g (face_view g faces) c

  net_adds : (c : CellAt) → net c ≡ sum_below 8 (λ q. net (sub_cell c q))
  unfolding net
  net_adds c = net_flux_sum g (face_view g faces) c (record {
    low = λ a. face_adds g kinds valid.shape wide faces (face_of a c);
    high = λ a. face_adds g kinds valid.shape wide faces (face_of a (after g.shape a c));
  })

  -- a split cell has the net fluxes of the leaf cells in it
  net_down : (d : ℕ) (c : CellAt) → d ≡ 10 - c.level → is_split g c ≡ true → net c ≡ pos 0
  unfolding net
  net_down zero c e s = let lt = kinds.tree.split_level c s in absurd (omega arith)
  net_down (suc d) c e s = net_adds c ∙ sum_below_zero 8 _ (λ q p. elim (cases_Bool (is_split g (sub_cell c q))) [
    | inl t ↦ net_down d (sub_cell c q) (omega arith) t
    | inr n ↦ balanced.at_leaf (sub_cell c q) (kinds.tree.below_split c q s n)
  ])

  -- a cell inside a coarser leaf cell balances by the inner rule
  net_up : (l : ℕ) (c : CellAt) → c.level ≡ l → Inside g.shape c → is_split g c ≡ false → is_leaf g c ≡ false → net c ≡ pos 0
  unfolding net
  net_up zero c e i n off = let t = kinds.root c e i n in cc
  net_up (suc l) c e i n off =
      let p = parent_cell c in
      let back : sub_cell p (octant_of c) ≡ c = sub_of_parent c (omega arith) in
      let i' : Inside g.shape p = parent_inside g.shape l c e i in
      let none : is_split g (sub_cell p (octant_of c)) ≡ false = ap (is_split g) back ∙ n in
      let no_leaf : is_leaf g (sub_cell p (octant_of c)) ≡ false = ap (is_leaf g) back ∙ off in
      let whole : is_split g p ≡ false = elim (cases_Bool (is_split g p)) [
        | inl s ↦ let t = kinds.tree.below_split p (octant_of c) s none in cc
        | inr w ↦ w
      ] in
      let parent : net p ≡ pos 0 = elim (cases_Bool (is_leaf g p)) [
        | inl t ↦ balanced.at_leaf p t
        | inr o ↦ net_up l p (omega arith) i' whole o
      ] in
      sym (ap net back) ∙ sub_cells_balance g kinds.tree wide faces p whole (i' X) (i' Y) (i' Z) (face_deep g kinds valid.shape wide) parent (octant_of c) (octant_small c)

  pub balanced_everywhere : (c : CellAt) → Inside g.shape c → net_flux g (face_view g faces) c ≡ pos 0
  unfolding net
  balanced_everywhere c i = elim (cases_Bool (is_split g c)) [
    | inl s ↦ net_down (10 - c.level) c refl s
    | inr n ↦ elim (cases_Bool (is_leaf g c)) [
      | inl t ↦ balanced.at_leaf c t
      | inr o ↦ net_up c.level c refl i n o
    ]
  ]

-- where each leaf cell has net flux 0, each has after a regrid
pub regrid_balances : (m : Mesh) → ValidMesh m → Balanced m.grid m.faces → Balanced (regrid m).grid (regrid m).faces
regrid_balances m valid h = record {
  at_leaf = λ c t.
      let after = new_grid_valid (marked m) (valid_marked m valid) in
      let shape = valid.grid.shape in
      let i = leaf_inside (new_grid (marked m)) after c t in
      net_of_new (new_grid (marked m)) after (face_view m.grid m.faces) (λ f s. face_adds m.grid (kinds_of_tiles m.grid valid.grid.tiles shape) shape (wide_of m.grid.shape shape) m.faces f) c i t
      ∙ balanced_everywhere m.grid valid.grid m.faces h c i;
}
