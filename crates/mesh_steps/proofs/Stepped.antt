-- The arrays of a leaf before and after a step.
use Rattle.std.proofs.Common.{◌≡◌, ℕ, ◌+◌, ◌*◌, ◌^◌, ◌<◌, ◌≤◌, Bool, true, false, List, ℤ, pos, ◌+ℤ◌, Option, Some, None, refl, sym, ap, subst, ◌∙◌, arith, inl, inr}
use Rattle.std.specs.Prelude.{if◌then◌else◌, length}
use Rattle.std.specs.Option.{option_map}
use Rattle.amr_num.specs.Numbers.{Within}
use Rattle.amr_num.specs.declared.Axis.{Axis}
use Rattle.amr_num.specs.declared.Axis.TheVariants.{X, Y, Z}
use Rattle.amr_num.specs.declared.BlockAt.{BlockAt}
use Rattle.amr_num.specs.declared.CellAt.{CellAt}
use Rattle.amr_num.proofs.Sizes.{sum_within, within_add, within_less}
use Rattle.block_store.specs.Above.{first_in_block}
use Rattle.block_store.specs.declared.above.Above as stores
use Rattle.block_tree.specs.Numbered.{block_at}
use Rattle.mesh_model.specs.Fields.Advect.{Speeds, advected, flux}
use Rattle.mesh_model.specs.Fields.ArrayPlaces.{HoldsFaceField, IsSize, cell_extents, face_extents, number_at, size_of}
use Rattle.mesh_model.specs.Fields.Octants.{cells_of}
use Rattle.mesh_model.specs.Fields.Ranks.{IsSized, WorldState}
use Rattle.mesh_model.specs.Fields.Totals.{block_sum}
use Rattle.mesh_model.specs.declared.fields.values.Var.TheVariants.{FaceWork}
use Rattle.mesh_model.proofs.FieldLemmas.Worlds.{has_array}
use Rattle.mesh_model.specs.Geometry.Places.{in_block}
use Rattle.mesh_model.specs.Tree.Kinds.{Grid}
use Rattle.mesh_model.specs.Tree.ValidGrid.{Valid}
use Rattle.mesh_model.specs.declared.geometry.Shape.{Shape}
use Rattle.rank_world.specs.Holding.{IsLeafNode, cell_array}
use Rattle.flux_conserve.specs.Jumps.{is_at_jump}
use Rattle.flux_conserve.specs.Work.{IsJumpNode, work_array}
use Rattle.flux_conserve.proofs.Fields.{fluxes_own}
use Rattle.rank_world.proofs.Found.{inside_of}
use Rattle.step_advect.specs.Applied.{AreInRange, Flows, IsApplied, face_on, first_out, flows_in, inner, is_chosen, left_at, out_along, out_through, side_sum}
use Rattle.step_advect.specs.Fluxed.{AreFacesWithin}
use Rattle.step_advect.specs.Lifts.{AreOuterSides, HoldsFlows, first_above}
use Rattle.step_advect.specs.declared.update.RangeAt.{RangeAt}
use Rattle.step_advect.proofs.Nets.{left_advected}
use Rattle.step_advect.proofs.OuterSides.{all_lost}
use Rattle.step_advect.proofs.Ranges.{first_told, told}
use Rattle.step_advect.proofs.Refusals.{none_refused, refused_first}
use Rattle.mesh_steps.specs.Flowing.{AreFluxes}
use Rattle.mesh_steps.specs.Settling.{AreFluxed, AreStepFaces, HoldsContents, IsLost, IsRefused, MaySettle, flows_at, lost, node_above}
use Rattle.mesh_steps.specs.declared.hindrance.Above.{Above}

-- what holds in the grid's sizes holds in those of the code
pub in_sizes : (P : ℕ → ℕ → Type 0) (n e : ℕ) (s : Shape) → IsSized n e s → P s.n s.g → P n e
in_sizes P n e s sized p = subst (λ m. P m e) sized.cells (subst (P s.n) sized.guards p)

pub in_shape : (P : ℕ → ℕ → Type 0) (n e : ℕ) (s : Shape) → IsSized n e s → P n e → P s.n s.g
in_shape P n e s sized p = subst (λ m. P m s.g) (sym sized.cells) (subst (P n) (sym sized.guards) p)

module _ (n e : ℕ) (w : WorldState) (v node : ℕ) where
  -- a leaf's numbers are small
  pub range_of : MaySettle n e w v → IsLeafNode w.told.grid node → AreInRange n (inner e (number_at (cell_extents n e) (cell_array w v node)))
  range_of may leaf =
      let s = w.told.grid.shape in
      let here : AreInRange s.n (inner s.g (number_at (cell_extents s.n s.g) (cell_array w v node))) = record { at = (may.range v node may.variable leaf).cells } in
      in_sizes (λ m d. AreInRange m (inner d (number_at (cell_extents m d) (cell_array w v node)))) n e s may.fit.sizes here

  pub faces_of : (a : Axis) → MaySettle n e w v → IsJumpNode w.told.grid node → AreFacesWithin (2 ^ 58) n e a (number_at (face_extents n e a) (work_array w a node))
  faces_of a may leaf =
      let s = w.told.grid.shape in
      let here : AreFacesWithin (2 ^ 58) s.n s.g a (number_at (face_extents s.n s.g a) (work_array w a node)) = record { at = (may.small node a leaf).at } in
      in_sizes (λ m d. AreFacesWithin (2 ^ 58) m d a (number_at (face_extents m d a) (work_array w a node))) n e s may.fit.sizes here

  -- arrays that are lent are the node's
  pub in_flows : (P : Flows → Type 0) (cells fx fy fz : List ℤ) → cells ≡ cell_array w v node → fx ≡ work_array w X node → fy ≡ work_array w Y node → fz ≡ work_array w Z node →
      P (flows_in n e cells fx fy fz) → P (flows_at n e w v node)
  in_flows P cells fx fy fz is_cells is_x is_y is_z p =
      let ys = work_array w Y node in
      let xs = work_array w X node in
      subst (λ u. P (flows_in n e u xs ys (work_array w Z node))) is_cells
      (subst (λ u. P (flows_in n e cells u ys (work_array w Z node))) is_x
      (subst (λ u. P (flows_in n e cells fx u (work_array w Z node))) is_y
      (subst (λ u. P (flows_in n e cells fx fy u)) is_z p)))

-- fluxes of a leaf are small enough for a step
module _ (n e : ℕ) (w : WorldState) (v node : ℕ) (speeds : Speeds) (sized : IsSized n e w.told.grid.shape) where
  few_along : (a : Axis) (xs : List ℤ) → AreFluxes w.told.grid speeds a (block_at w.told.grid node) (cell_array w v node) xs → AreFacesWithin (2 ^ 58) n e a (number_at (face_extents n e a) xs)
  few_along a xs fluxes =
      let s = w.told.grid.shape in
      let here : AreFacesWithin (2 ^ 58) s.n s.g a (number_at (face_extents s.n s.g a) xs) = record { at = λ i j k hi hj hk. let one = fluxes.within i j k hi hj hk in omega arith } in
      in_sizes (λ m d. AreFacesWithin (2 ^ 58) m d a (number_at (face_extents m d a) xs)) n e s sized here

  pub step_faces_of : (x y z : List ℤ) → length x ≡ size_of (face_extents n e X) → length y ≡ size_of (face_extents n e Y) → length z ≡ size_of (face_extents n e Z) →
      AreFluxes w.told.grid speeds X (block_at w.told.grid node) (cell_array w v node) x → AreFluxes w.told.grid speeds Y (block_at w.told.grid node) (cell_array w v node) y →
      AreFluxes w.told.grid speeds Z (block_at w.told.grid node) (cell_array w v node) z → AreStepFaces n e x y z
  step_faces_of x y z long_x long_y long_z on_x on_y on_z = record {
    along_x = record { whole = long_x; small = few_along X x on_x };
    along_y = record { whole = long_y; small = few_along Y y on_y };
    along_z = record { whole = long_z; small = few_along Z z on_z };
  }

-- so are the work faces of a leaf at a jump
pub work_faces : (n e : ℕ) (w : WorldState) (v node : ℕ) → IsSize n e → MaySettle n e w v → IsJumpNode w.told.grid node → AreStepFaces n e (work_array w X node) (work_array w Y node) (work_array w Z node)
work_faces n e w v node size may jump =
    let along : (a : Axis) → length (work_array w a node) ≡ size_of (face_extents n e a) = λ a. may.fit.whole.each (FaceWork a) node (has_array n e w (FaceWork a) node may.fit jump.own.there tt) in
    record {
      along_x = record { whole = along X; small = faces_of n e w v node X may jump };
      along_y = record { whole = along Y; small = faces_of n e w v node Y may jump };
      along_z = record { whole = along Z; small = faces_of n e w v node Z may jump };
    }

-- the work faces of a leaf at a jump have the mesh's fluxes
pub jump_flows : (w : WorldState) (v node : ℕ) (content : CellAt → ℤ) (speeds : Speeds) → IsJumpNode w.told.grid node → AreFluxed w v content speeds →
    HoldsFlows w.told.grid content speeds (block_at w.told.grid node) (cell_array w v node) (work_array w X node) (work_array w Y node) (work_array w Z node)
jump_flows w v node content speeds jump are = record {
  leaf = jump.own.leaf;
  views = are.cells node jump.own;
  along_x = are.faces node X jump;
  along_y = are.faces node Y jump;
  along_z = are.faces node Z jump;
}

-- at no jump a leaf's own fluxes are the mesh's
module _ (w : WorldState) (v node : ℕ) (content : CellAt → ℤ) (speeds : Speeds) (valid : Valid w.told.grid) (leaf : IsLeafNode w.told.grid node)
    (calm : is_at_jump w.told.grid (block_at w.told.grid node) ≡ false) (are : AreFluxed w v content speeds) where
  held_along : (a : Axis) (xs : List ℤ) → AreFluxes w.told.grid speeds a (block_at w.told.grid node) (cell_array w v node) xs →
      HoldsFaceField w.told.grid (flux w.told.grid content speeds) a (block_at w.told.grid node) (number_at (face_extents w.told.grid.shape.n w.told.grid.shape.g a) xs)
  held_along a xs fluxes =
      let own = fluxes.fluxes content (are.guarded node leaf) in
      record { at = λ i j k hi hj hk. own.at i j k hi hj hk ∙ sym (fluxes_own w.told.grid content speeds (block_at w.told.grid node) a valid leaf.leaf calm i j k hi hj hk) }

  pub calm_flows : (fx fy fz : List ℤ) → AreFluxes w.told.grid speeds X (block_at w.told.grid node) (cell_array w v node) fx →
      AreFluxes w.told.grid speeds Y (block_at w.told.grid node) (cell_array w v node) fy → AreFluxes w.told.grid speeds Z (block_at w.told.grid node) (cell_array w v node) fz →
      HoldsFlows w.told.grid content speeds (block_at w.told.grid node) (cell_array w v node) fx fy fz
  calm_flows fx fy fz x y z = record {
    leaf = leaf.leaf;
    views = are.cells node leaf;
    along_x = held_along X fx x;
    along_y = held_along Y fy y;
    along_z = held_along Z fz z;
  }

-- ---- what a step makes of a leaf

module _ (n e : ℕ) (w : WorldState) (v node : ℕ) (content : CellAt → ℤ) (speeds : Speeds) (valid : Valid w.told.grid) (sized : IsSized n e w.told.grid.shape)
    (fx fy fz : List ℤ) (held : HoldsFlows w.told.grid content speeds (block_at w.told.grid node) (cell_array w v node) fx fy fz) where
  abbrev grid : Grid
  grid = w.told.grid

  abbrev block : BlockAt
  block = block_at w.told.grid node

  abbrev flows : ℕ → ℕ → Flows
  flows m d = flows_in m d (cell_array w v node) fx fy fz

  pub leaf_made : (old new : List ℤ) → IsApplied n e (flows n e) old new → HoldsContents grid (advected grid content speeds) block (cells_of grid new)
  leaf_made old new applied =
      let is = in_shape (λ m d. IsApplied m d (flows m d) old new) n e grid.shape sized applied in
      record {
        at = λ i j k hi hj hk.
            is.written i j k hi hj hk
            ∙ left_advected grid content speeds block (cell_array w v node) fx fy fz valid held i j k hi hj hk;
      }

  pub leaf_lost : (sides : List Bool) (flown : ℤ) → AreOuterSides grid.shape block sides → flown ≡ out_through n (flows n e) sides → IsLost w content speeds node flown
  leaf_lost sides flown outer is =
      let here : flown ≡ out_through grid.shape.n (flows grid.shape.n grid.shape.g) sides =
      in_shape (λ m d. flown ≡ out_through m (flows m d) sides) n e grid.shape sized is in
      here
      ∙ all_lost grid block sides valid held.leaf outer content speeds (cell_array w v node) fx fy fz held
      ∙ sym (ap (λ t. if t then block_sum grid.shape.n (lost grid content speeds) block else pos 0) held.leaf)

  pub leaf_none : AreInRange n (left_at (flows n e)) → node_above grid content speeds node ≡ None
  leaf_none within =
      let here = in_shape (λ m d. AreInRange m (left_at (flows m d))) n e grid.shape sized within in
      ap (λ t. if t then first_above grid content speeds block else None) held.leaf
      ∙ none_refused grid content speeds block (cell_array w v node) fx fy fz valid held here

  pub leaf_refused : (at : RangeAt) (above : Above) → first_out n (left_at (flows n e)) ≡ Some at → above ≡ record { cell = in_block n block at.i at.j at.k; value = at.value } →
      IsRefused grid content speeds (node_above grid content speeds node) above
  leaf_refused at above is made =
      let here = in_shape (λ m d. first_out m (left_at (flows m d)) ≡ Some at) n e grid.shape sized is in
      let first = refused_first grid content speeds block (cell_array w v node) fx fy fz valid held at here in
      let told : above ≡ record { cell = in_block grid.shape.n block at.i at.j at.k; value = at.value } =
      subst (λ m. above ≡ record { cell = in_block m block at.i at.j at.k; value = at.value }) (sym sized.cells) made in
      subst (IsRefused grid content speeds (node_above grid content speeds node)) (sym told) (record {
        first_is = ap (λ t. if t then first_above grid content speeds block else None) held.leaf ∙ first.0;
        value_is = first.1;
      })

-- the place that is refused lies in the block
pub refused_inside : (n : ℕ) (left : ℕ → ℕ → ℕ → ℤ) (at : RangeAt) → first_out n left ≡ Some at → (at.i < n) × (at.j < n) × (at.k < n)
refused_inside n left at is = inside (first_in_block left n) refl
  where
    inside : (found : Option stores.Above) → first_in_block left n ≡ found → (at.i < n) × (at.j < n) × (at.k < n)
    inside None none = absurd (
        let here = sym is ∙ first_told n left left (first_in_block left n) refl (λ i j k hi hj hk. refl) ∙ ap (option_map told) none in
        cc)
    inside (Some a) some =
        let same : at ≡ told a = (let here = sym is ∙ first_told n left left (first_in_block left n) refl (λ i j k hi hj hk. refl) ∙ ap (option_map told) some in cc) in
        subst (λ (r : RangeAt). (r.i < n) × (r.j < n) × (r.k < n)) (sym same) (inside_of left n a some)

-- ---- how much flows out of a leaf

face_small : (most n g : ℕ) (a : Axis) (faces : ℕ → ℕ → ℕ → ℤ) → AreFacesWithin most n g a faces → (p s t : ℕ) → p ≤ n → s < n → t < n → Within most (face_on a (inner g faces) p s t)
face_small most n g X faces within p s t hp hs ht = within.at p s t (omega arith) hs ht
face_small most n g Y faces within p s t hp hs ht = within.at s p t hs (omega arith) ht
face_small most n g Z faces within p s t hp hs ht = within.at s t p hs ht (omega arith)

side_small : (most n g : ℕ) (a : Axis) (faces : ℕ → ℕ → ℕ → ℤ) → AreFacesWithin most n g a faces → (p : ℕ) → p ≤ n → Within (n * (n * most)) (side_sum n a (inner g faces) p)
side_small most n g a faces within p hp =
    sum_within n (n * most) _ (λ t ht. sum_within n most _ (λ s hs. face_small most n g a faces within p s t hp hs ht))

chosen_small : (most : ℕ) (t : Bool) (z : ℤ) → Within most z → Within most (if t then z else pos 0)
chosen_small most true z within = within
chosen_small most false z within = omega arith

along_small : (most n g : ℕ) (a : Axis) (faces : ℕ → ℕ → ℕ → ℤ) (low high : Bool) → AreFacesWithin most n g a faces →
    Within (n * (n * most) + n * (n * most)) (out_along n a (inner g faces) low high)
along_small most n g a faces low high within =
    within_less (n * (n * most)) (n * (n * most)) (if high then side_sum n a (inner g faces) n else pos 0) (if low then side_sum n a (inner g faces) 0 else pos 0)
    (chosen_small (n * (n * most)) high (side_sum n a (inner g faces) n) (side_small most n g a faces within n (omega arith)))
    (chosen_small (n * (n * most)) low (side_sum n a (inner g faces) 0) (side_small most n g a faces within 0 (omega arith)))

pub out_small : (n e : ℕ) (cells fx fy fz : List ℤ) (sides : List Bool) → IsSize n e → AreStepFaces n e fx fy fz → Within (2 ^ 70) (out_through n (flows_in n e cells fx fy fz) sides)
out_small n e cells fx fy fz sides size faces =
    let side = n * (n * 2 ^ 58) in
    let few : side ≤ 2 ^ 64 = elim size.cells [
      | inl is ↦ subst (λ m. m * (m * 2 ^ 58) ≤ 2 ^ 64) (sym is) (omega arith)
      | inr is ↦ subst (λ m. m * (m * 2 ^ 58) ≤ 2 ^ 64) (sym is) (omega arith)
    ] in
    let f = flows_in n e cells fx fy fz in
    let x_out = out_along n X f.x (is_chosen sides 0) (is_chosen sides 1) in
    let y_out = out_along n Y f.y (is_chosen sides 2) (is_chosen sides 3) in
    let z_out = out_along n Z f.z (is_chosen sides 4) (is_chosen sides 5) in
    let x = along_small (2 ^ 58) n e X (number_at (face_extents n e X) fx) (is_chosen sides 0) (is_chosen sides 1) faces.along_x.small in
    let y = along_small (2 ^ 58) n e Y (number_at (face_extents n e Y) fy) (is_chosen sides 2) (is_chosen sides 3) faces.along_y.small in
    let z = along_small (2 ^ 58) n e Z (number_at (face_extents n e Z) fz) (is_chosen sides 4) (is_chosen sides 5) faces.along_z.small in
    let all : Within ((side + side) + (side + side) + (side + side)) (out_through n f sides) =
    within_add ((side + side) + (side + side)) (side + side) (x_out +ℤ y_out) z_out (within_add (side + side) (side + side) x_out y_out x y) z in
    omega (arith, all, few)
