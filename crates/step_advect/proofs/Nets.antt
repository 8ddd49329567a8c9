-- The net outflow of a leaf block's cells is the mesh's.
use Rattle.std.proofs.Common.{◌≡◌, ℕ, suc, ◌+◌, ◌*◌, ◌<◌, Bool, true, false, List, ℤ, pos, ◌+ℤ◌, ◌-ℤ◌, refl, sym, ap, ap₂, ◌∙◌, arith}
use Rattle.std.specs.Prelude.{if◌then◌else◌}
use Rattle.amr_num.specs.declared.Axis.{Axis}
use Rattle.amr_num.specs.declared.Axis.TheVariants.{X, Y, Z}
use Rattle.amr_num.specs.declared.BlockAt.{BlockAt}
use Rattle.amr_num.specs.declared.CellAt.{CellAt}
use Rattle.amr_num.specs.declared.FaceAt.{FaceAt}
use Rattle.mesh_model.specs.Geometry.Canonical.{canonical_on}
use Rattle.mesh_model.specs.Geometry.Coordinates.{after, extent, face_of, is_periodic, on, with, wrapped}
use Rattle.mesh_model.specs.Geometry.Places.{in_block}
use Rattle.mesh_model.specs.Tree.Kinds.{Grid, is_leaf, is_leaf_block}
use Rattle.mesh_model.specs.Tree.ValidGrid.{Valid}
use Rattle.mesh_model.specs.Fields.Advect.{Speeds, advected, flux}
use Rattle.mesh_model.specs.Fields.ArrayPlaces.{HoldsFaceField, HoldsViews, cell_extents, number_at}
use Rattle.mesh_model.specs.Fields.Circulation.{net_flux}
use Rattle.mesh_model.specs.Fields.Views.{cell_view}
use Rattle.mesh_model.proofs.FieldLemmas.BlockOctants.{block_of_cell}
use Rattle.mesh_model.proofs.FieldLemmas.CellSums as cell_sums
use Rattle.mesh_model.proofs.FieldLemmas.Sums.{wrapped_inside}
use Rattle.mesh_model.proofs.FieldLemmas.ValidGrid.{leaf_inside, leaf_whole}
use Rattle.mesh_model.proofs.GeometryLemmas.OnAxes.{with_same}
use Rattle.step_advect.specs.Applied.{IsApplied, flows_in, inner, left_at, net_at}
use Rattle.step_advect.specs.Lifts.{HoldsFlows}

-- the number at the next place on an axis
abbrev pub upper : Axis → (ℕ → ℕ → ℕ → ℤ) → ℕ → ℕ → ℕ → ℤ
upper X f i j k = f (i + 1) j k
upper Y f i j k = f i (j + 1) k
upper Z f i j k = f i j (k + 1)

own_wrapped : (periodic : Bool) (e p : ℕ) → p < e → wrapped periodic e p ≡ p
unfolding wrapped
own_wrapped true e p h = wrapped_inside e p h
own_wrapped false e p h = refl

next_place : (n b i : ℕ) → n * b + (i + 1) ≡ suc (n * b + i)
next_place n b i = omega arith

module _ (g : Grid) (b : BlockAt) (valid : Valid g) (leaf : is_leaf_block g b ≡ true) (i j k : ℕ) (hi : i < g.shape.n) (hj : j < g.shape.n) (hk : k < g.shape.n) where
  abbrev pub c : CellAt
  c = in_block g.shape.n b i j k

  pub leaf_cell : is_leaf g c ≡ true
  leaf_cell = ap (is_leaf_block g) (block_of_cell g.shape.n b i j k hi hj hk) ∙ leaf

  pub view_of_leaf : (content : CellAt → ℤ) → cell_view g content c ≡ content c
  view_of_leaf content = cell_sums.view_leaf g content c (leaf_whole g valid c leaf_cell) leaf_cell

  -- the names of the faces on the low and the high side of a cell
  low_name : (a : Axis) → canonical_on g.shape a c ≡ c
  low_name a = with_same a (wrapped (is_periodic g.shape a) (extent g.shape a c.level) (on a c)) c (own_wrapped (is_periodic g.shape a) (extent g.shape a c.level) (on a c) (leaf_inside g valid c leaf_cell a))

  module _ (at : FaceAt → ℤ) (numbers : ℕ → ℕ → ℕ → ℤ) where
    pub low_read : (a : Axis) → HoldsFaceField g at a b numbers → inner g.shape.g numbers i j k ≡ at (face_of a c)
    low_read X holds = holds.at i j k (omega arith) hj hk ∙ ap (λ d. at (face_of X d)) (low_name X)
    low_read Y holds = holds.at i j k hi (omega arith) hk ∙ ap (λ d. at (face_of Y d)) (low_name Y)
    low_read Z holds = holds.at i j k hi hj (omega arith) ∙ ap (λ d. at (face_of Z d)) (low_name Z)

    pub high_read : (a : Axis) → HoldsFaceField g at a b numbers → upper a (inner g.shape.g numbers) i j k ≡ at (face_of a (after g.shape a c))
    high_read X holds =
        holds.at (i + 1) j k (omega arith) hj hk ∙ ap (λ p. at (face_of X (with X (wrapped (is_periodic g.shape X) (extent g.shape X b.level) p) c))) (next_place g.shape.n b.x i)
    high_read Y holds =
        holds.at i (j + 1) k hi (omega arith) hk ∙ ap (λ p. at (face_of Y (with Y (wrapped (is_periodic g.shape Y) (extent g.shape Y b.level) p) c))) (next_place g.shape.n b.y j)
    high_read Z holds =
        holds.at i j (k + 1) hi hj (omega arith) ∙ ap (λ p. at (face_of Z (with Z (wrapped (is_periodic g.shape Z) (extent g.shape Z b.level) p) c))) (next_place g.shape.n b.z k)

  module _ (content : CellAt → ℤ) (n : Speeds) (cells fx fy fz : List ℤ) (holds : HoldsFlows g content n b cells fx fy fz) where
    net_is : net_at (flows_in g.shape.n g.shape.g cells fx fy fz) i j k ≡ net_flux g (flux g content n) c
    net_is =
        let at = flux g content n in
        ap₂ (λ r s. r +ℤ s)
        (ap₂ (λ r s. r +ℤ s) (ap₂ (λ r s. r -ℤ s) (high_read at _ X holds.along_x) (low_read at _ X holds.along_x)) (ap₂ (λ r s. r -ℤ s) (high_read at _ Y holds.along_y) (low_read at _ Y holds.along_y)))
        (ap₂ (λ r s. r -ℤ s) (high_read at _ Z holds.along_z) (low_read at _ Z holds.along_z))

    pub left_is : left_at (flows_in g.shape.n g.shape.g cells fx fy fz) i j k ≡ advected g content n c
    left_is =
        ap₂ (λ r s. r -ℤ s) (holds.views.at i j k hi hj hk ∙ view_of_leaf content) net_is
        ∙ sym (ap (λ t. if t then content c -ℤ net_flux g (flux g content n) c else pos 0) leaf_cell)

-- what is left of a leaf block's cells is what the mesh has after advect
pub left_advected : (g : Grid) (content : CellAt → ℤ) (n : Speeds) (b : BlockAt) (cells fx fy fz : List ℤ) → Valid g → HoldsFlows g content n b cells fx fy fz →
    (i j k : ℕ) → i < g.shape.n → j < g.shape.n → k < g.shape.n → left_at (flows_in g.shape.n g.shape.g cells fx fy fz) i j k ≡ advected g content n (in_block g.shape.n b i j k)
left_advected g content n b cells fx fy fz valid holds i j k hi hj hk = left_is g b valid holds.leaf i j k hi hj hk content n cells fx fy fz holds

-- so a block that the step is applied to has the views of the advected field
pub applied_advected : (g : Grid) (content : CellAt → ℤ) (n : Speeds) (b : BlockAt) (cells fx fy fz old new : List ℤ) → Valid g → HoldsFlows g content n b cells fx fy fz →
    IsApplied g.shape.n g.shape.g (flows_in g.shape.n g.shape.g cells fx fy fz) old new → HoldsViews g (advected g content n) b (number_at (cell_extents g.shape.n g.shape.g) new)
applied_advected g content n b cells fx fy fz old new valid holds applied = record {
  at = λ i j k hi hj hk.
      applied.written i j k hi hj hk ∙ left_advected g content n b cells fx fy fz valid holds i j k hi hj hk
      ∙ sym (view_of_leaf g b valid holds.leaf i j k hi hj hk (advected g content n));
}
