-- What the fluxes and the step of a block are in the mesh.
use Rattle.std.specs.Prelude.{◌≡◌, ℕ, suc, ◌+◌, ◌-◌, ◌*◌, ◌^◌, ◌<◌, ◌≤◌, Bool, true, not, ◌&&◌, ◌==◌, List, ℤ, Option, Some, None, find}
use Rattle.amr_num.specs.Numbers.{number_range}
use Rattle.amr_num.specs.declared.Axis.{Axis}
use Rattle.amr_num.specs.declared.Axis.TheVariants.{X, Y, Z}
use Rattle.amr_num.specs.declared.BlockAt.{BlockAt}
use Rattle.amr_num.specs.declared.CellAt.{CellAt}
use Rattle.mesh_model.specs.declared.geometry.Shape.{Shape}
use Rattle.mesh_model.specs.Geometry.Blocks.{InDomain}
use Rattle.mesh_model.specs.Geometry.Coordinates.{is_periodic, roots, side_index, side_kind, step}
use Rattle.mesh_model.specs.Geometry.Limits.{IsShape}
use Rattle.mesh_model.specs.Geometry.Touch.{block_on}
use Rattle.mesh_model.specs.Geometry.Places.{block_cells, in_block, longer_on}
use Rattle.mesh_model.specs.Tree.Kinds.{Grid, is_leaf_block}
use Rattle.mesh_model.specs.Tree.ValidGrid.{Valid}
use Rattle.mesh_model.specs.Fields.Advect.{Speeds, advected, flux, is_closed_kind, leaf_flux, on_outer, speed}
use Rattle.mesh_model.specs.Fields.ArrayPlaces.{HoldsFaceField, HoldsViews, cell_extents, cell_there, face_extents, number_at}
use Rattle.mesh_model.specs.Fields.Circulation.{net_flux}
use Rattle.mesh_model.specs.Fields.RangeWalk.{is_above}
use Rattle.mesh_model.specs.Fields.Views.{cell_view}
use Rattle.mesh_model.specs.Fields.Totals.{block_sum}
use Rattle.step_advect.specs.declared.update.RangeAt.{RangeAt}
use Rattle.step_advect.specs.Applied.{AreInRange, IsApplied, first_out, flows_in, is_chosen, left_at, out_through}
use Rattle.step_advect.specs.Fluxed.{Flow, IsFluxed, lower_by}

-- the low and the high side of a block on an axis lie on those of the domain
abbrev pub is_at_low_side : Axis → BlockAt → Bool
is_at_low_side a b = block_on a b == 0

abbrev pub is_at_high_side : Shape → Axis → BlockAt → Bool
is_at_high_side s a b = suc (block_on a b) == roots s a * 2 ^ b.level

-- a block is flowed through along an axis as in the mesh: at its level and the axis's speed, and its sides are closed where they lie on a closed
-- side of the domain
pub record IsFlowOf (s : Shape) (n : Speeds) (a : Axis) (b : BlockAt) (flow : Flow) : Type 0 where
  pub level : flow.level ≡ b.level
  pub speed_of : flow.speed ≡ speed n a
  pub closed_low : flow.closed_low ≡ (is_at_low_side a b && is_closed_kind (side_kind s.sides (side_index a)))
  pub closed_high : flow.closed_high ≡ (is_at_high_side s a b && is_closed_kind (side_kind s.sides (suc (side_index a))))

-- on both sides of each face of a block normal to an axis, numbers by places are the views of a field at the cells that stand for these places
pub record HoldsBeside (g : Grid) (content : CellAt → ℤ) (a : Axis) (b : BlockAt) (numbers : ℕ → ℕ → ℕ → ℤ) : Type 0 where
  pub at : (i j k h : ℕ) → i < longer_on a X g.shape.n → j < longer_on a Y g.shape.n → k < longer_on a Z g.shape.n → h ≤ 1 →
      lower_by h a numbers (g.shape.g + i) (g.shape.g + j) (g.shape.g + k)
      ≡ cell_view g content (cell_there g.shape b (g.shape.g + i - (step a h).x) (g.shape.g + j - (step a h).y) (g.shape.g + k - (step a h).z))

-- where the array of a block's cells has the views there, each of its faces gets the mesh's flux through it, as leaves have it
abbrev pub FluxesAreOfLeaves : Type 0
FluxesAreOfLeaves = (g : Grid) (content : CellAt → ℤ) (n : Speeds) (a : Axis) (b : BlockAt) (flow : Flow) (cells old new : List ℤ) →
    IsShape g.shape → InDomain g.shape b → IsFlowOf g.shape n a b flow →
    HoldsBeside g content a b (number_at (cell_extents g.shape.n g.shape.g) cells) →
    IsFluxed g.shape.n g.shape.g a flow cells old new →
    HoldsFaceField g (leaf_flux g content n) a b (number_at (face_extents g.shape.n g.shape.g a) new)

-- ---- the step

-- the sides of a block that lie on outer sides, which are those of axes that are not periodic, are chosen, and no others
pub record AreOuterSides (s : Shape) (b : BlockAt) (sides : List Bool) : Type 0 where
  pub low : (a : Axis) → is_chosen sides (side_index a) ≡ (is_at_low_side a b && not (is_periodic s a))
  pub high : (a : Axis) → is_chosen sides (suc (side_index a)) ≡ (is_at_high_side s a b && not (is_periodic s a))

-- the arrays of a leaf block before a step: its cells have a field's views, and its faces the mesh's fluxes, a face with a split side the sum of
-- its subfaces'
pub record HoldsFlows (g : Grid) (content : CellAt → ℤ) (n : Speeds) (b : BlockAt) (cells fx fy fz : List ℤ) : Type 0 where
  pub leaf : is_leaf_block g b ≡ true
  pub views : HoldsViews g content b (number_at (cell_extents g.shape.n g.shape.g) cells)
  pub along_x : HoldsFaceField g (flux g content n) X b (number_at (face_extents g.shape.n g.shape.g X) fx)
  pub along_y : HoldsFaceField g (flux g content n) Y b (number_at (face_extents g.shape.n g.shape.g Y) fy)
  pub along_z : HoldsFaceField g (flux g content n) Z b (number_at (face_extents g.shape.n g.shape.g Z) fz)

-- what is left of a leaf block's cells is what the mesh has after advect
abbrev pub LeftIsAdvected : Type 0
LeftIsAdvected = (g : Grid) (content : CellAt → ℤ) (n : Speeds) (b : BlockAt) (cells fx fy fz : List ℤ) → Valid g → HoldsFlows g content n b cells fx fy fz →
    (i j k : ℕ) → i < g.shape.n → j < g.shape.n → k < g.shape.n →
    left_at (flows_in g.shape.n g.shape.g cells fx fy fz) i j k ≡ advected g content n (in_block g.shape.n b i j k)

-- so a block that the step is applied to has the views of the advected field
abbrev pub AppliedIsAdvected : Type 0
AppliedIsAdvected = (g : Grid) (content : CellAt → ℤ) (n : Speeds) (b : BlockAt) (cells fx fy fz old new : List ℤ) → Valid g → HoldsFlows g content n b cells fx fy fz →
    IsApplied g.shape.n g.shape.g (flows_in g.shape.n g.shape.g cells fx fy fz) old new →
    HoldsViews g (advected g content n) b (number_at (cell_extents g.shape.n g.shape.g) new)

-- the first of a block's cells with an advected content out of range
abbrev pub first_above : Grid → (CellAt → ℤ) → Speeds → BlockAt → Option CellAt
first_above g content n b = find (λ c. is_above number_range (advected g content n c)) (block_cells g.shape.n b)

-- the cell that is refused is the first, with its advected content; where all are in range there is none
abbrev pub RefusedIsFirst : Type 0
RefusedIsFirst = (g : Grid) (content : CellAt → ℤ) (n : Speeds) (b : BlockAt) (cells fx fy fz : List ℤ) (at : RangeAt) → Valid g → HoldsFlows g content n b cells fx fy fz →
    first_out g.shape.n (left_at (flows_in g.shape.n g.shape.g cells fx fy fz)) ≡ Some at →
    let c = in_block g.shape.n b at.i at.j at.k in
    (first_above g content n b ≡ Some c) × (at.value ≡ advected g content n c)

abbrev pub NoneIsRefused : Type 0
NoneIsRefused = (g : Grid) (content : CellAt → ℤ) (n : Speeds) (b : BlockAt) (cells fx fy fz : List ℤ) → Valid g → HoldsFlows g content n b cells fx fy fz →
    AreInRange g.shape.n (left_at (flows_in g.shape.n g.shape.g cells fx fy fz)) → first_above g content n b ≡ None

-- what flows out through the outer sides of a block is what its cells lose through those of the domain
abbrev pub OutIsLost : Type 0
OutIsLost = (g : Grid) (content : CellAt → ℤ) (n : Speeds) (b : BlockAt) (cells fx fy fz : List ℤ) (sides : List Bool) → Valid g → HoldsFlows g content n b cells fx fy fz →
    AreOuterSides g.shape b sides →
    out_through g.shape.n (flows_in g.shape.n g.shape.g cells fx fy fz) sides ≡ block_sum g.shape.n (net_flux g (on_outer g.shape (flux g content n))) b
