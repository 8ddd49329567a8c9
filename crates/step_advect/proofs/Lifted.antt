-- The fluxes of a block that has its guard values are the mesh's.
use Rattle.std.proofs.Common.{◌≡◌, ℕ, suc, ◌*◌, ◌^◌, ◌<◌, Bool, ◌&&◌, ◌||◌, ◌==◌, List, ℤ, pos, ap₂, ◌∙◌, arith}
use Rattle.std.specs.Prelude.{if◌then◌else◌}
use Rattle.amr_num.specs.Numbers.{carry}
use Rattle.amr_num.specs.declared.Axis.{Axis}
use Rattle.amr_num.specs.declared.Axis.TheVariants.{X, Y, Z}
use Rattle.amr_num.specs.declared.BlockAt.{BlockAt}
use Rattle.amr_num.specs.declared.CellAt.{CellAt}
use Rattle.mesh_model.specs.declared.geometry.Shape.{Shape}
use Rattle.mesh_model.specs.Geometry.Blocks.{InDomain}
use Rattle.mesh_model.specs.Geometry.Coordinates.{face_of, roots, side_index, side_kind}
use Rattle.mesh_model.specs.Geometry.Limits.{IsShape}
use Rattle.mesh_model.specs.Geometry.Places.{in_block, is_on_side, longer_on}
use Rattle.mesh_model.specs.Geometry.Touch.{block_on}
use Rattle.mesh_model.specs.Tree.Kinds.{Grid}
use Rattle.mesh_model.specs.Fields.Advect.{Speeds, blown_from, is_closed_kind, leaf_flux, on_closed_side}
use Rattle.mesh_model.specs.Fields.ArrayPlaces.{HoldsFaceField, cell_extents, face_extents, number_at}
use Rattle.mesh_model.specs.Fields.Views.{cell_view}
use Rattle.mesh_model.proofs.GeometryLemmas.ShapeLimits.{cells_some}
use Rattle.step_advect.specs.Flux.{flux_between}
use Rattle.step_advect.specs.Fluxed.{Flow, IsFluxed, along}
use Rattle.step_advect.specs.Lifts.{HoldsBeside, IsFlowOf}
use Rattle.step_advect.proofs.Donors.{block_inside, donor_is, position_is, position_within}
use Rattle.step_advect.proofs.Seams.{flux_named}
use Rattle.mesh_model.proofs.GeometryLemmas.Sides.{on_domain_side}

pub extent_turned : (r n m : ℕ) → n * (r * m) ≡ r * n * m
extent_turned r n m = grind arith

module _ (s : Shape) (n : Speeds) (a : Axis) (b : BlockAt) (flow : Flow) (shape : IsShape s) (inside : InDomain s b) (is : IsFlowOf s n a b flow)
    (i j k : ℕ) (hi : i < longer_on a X s.n) (hj : j < longer_on a Y s.n) (hk : k < longer_on a Z s.n) where
  abbrev low : Bool
  low = is_closed_kind (side_kind s.sides (side_index a))

  abbrev high : Bool
  high = is_closed_kind (side_kind s.sides (suc (side_index a)))

  -- a face is on a closed side of the block where it is on one of the domain
  pub closed_is : is_on_side s.n flow.closed_low flow.closed_high (along a i j k) ≡ on_closed_side s (face_of a (in_block s.n b i j k))
  closed_is =
      ap₂ (λ p q. is_on_side s.n p q (along a i j k)) is.closed_low is.closed_high
      ∙ on_domain_side s.n (block_on a b) (along a i j k) (roots s a * 2 ^ b.level) low high (cells_some shape) (block_inside s a b inside) (position_within s.n a i j k hi hj hk)
      ∙ ap₂ (λ p e. ((p == 0) && low) || ((p == e) && high)) (position_is s.n a b i j k) (extent_turned (roots s a) s.n (2 ^ b.level))

pub fluxes_of_leaves : (g : Grid) (content : CellAt → ℤ) (n : Speeds) (a : Axis) (b : BlockAt) (flow : Flow) (cells old new : List ℤ) → IsShape g.shape → InDomain g.shape b →
    IsFlowOf g.shape n a b flow → HoldsBeside g content a b (number_at (cell_extents g.shape.n g.shape.g) cells) → IsFluxed g.shape.n g.shape.g a flow cells old new →
    HoldsFaceField g (leaf_flux g content n) a b (number_at (face_extents g.shape.n g.shape.g a) new)
unfolding flux_between
fluxes_of_leaves g content n a b flow cells old new shape inside is beside fluxed = record {
  at = λ i j k hi hj hk.
      let c : CellAt = in_block g.shape.n b i j k in
      let numbers = number_at (cell_extents g.shape.n g.shape.g) cells in
      fluxed.written i j k hi hj hk
      ∙ ap₂ (λ t v. if t then pos 0 else carry flow.speed flow.level v) (closed_is g.shape n a b flow shape inside is i j k hi hj hk)
      (donor_is g content a b numbers shape inside beside i j k hi hj hk flow.speed)
      ∙ ap₂ (λ m l. if on_closed_side g.shape (face_of a c) then pos 0 else carry m l (cell_view g content (blown_from g.shape a m c))) is.speed_of is.level
      ∙ flux_named g content n a c shape;
}
