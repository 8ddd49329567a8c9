-- What flows out through the outer sides of a block is what its cells lose through those of the domain.
use Rattle.std.proofs.Common.{◌≡◌, ℕ, suc, ◌+◌, ◌*◌, ◌^◌, ◌<◌, ◌≤◌, Bool, true, false, not, ◌&&◌, ◌||◌, ◌==◌, List, ℤ, pos, ◌+ℤ◌, ◌-ℤ◌, refl, sym, ap, ap₂, ◌∙◌, arith}
use Rattle.std.specs.Prelude.{if◌then◌else◌}
use Rattle.amr_num.specs.declared.Axis.{Axis}
use Rattle.amr_num.specs.declared.Axis.TheVariants.{X, Y, Z}
use Rattle.amr_num.specs.declared.BlockAt.{BlockAt}
use Rattle.amr_num.specs.declared.CellAt.{CellAt}
use Rattle.amr_num.specs.declared.FaceAt.{FaceAt}
use Rattle.mesh_model.specs.Geometry.Blocks.{InDomain}
use Rattle.mesh_model.specs.Geometry.Coordinates.{after, extent, face_of, is_periodic, on, roots, side_index, wrapped}
use Rattle.mesh_model.specs.Geometry.Places.{in_block, is_on_side}
use Rattle.mesh_model.specs.Geometry.Touch.{block_on}
use Rattle.mesh_model.specs.Tree.Kinds.{Grid, is_leaf_block}
use Rattle.mesh_model.specs.Tree.ValidGrid.{Valid}
use Rattle.mesh_model.specs.Fields.Advect.{Speeds, flux, on_outer, on_outer_side}
use Rattle.mesh_model.specs.Fields.ArrayPlaces.{HoldsFaceField, face_extents, number_at}
use Rattle.mesh_model.specs.Fields.Circulation.{net_flux}
use Rattle.mesh_model.specs.Fields.Totals.{block_sum}
use Rattle.mesh_model.proofs.FieldLemmas.Sums.{box_add, box_same}
use Rattle.mesh_model.proofs.GeometryLemmas.OnAxes.{on_with, with_level}
use Rattle.mesh_model.proofs.GeometryLemmas.ShapeLimits.{cells_some}
use Rattle.mesh_model.proofs.TreeLemmas.Tiling.{leaf_says}
use Rattle.step_advect.specs.Applied.{flows_in, inner, is_chosen, out_along, out_through}
use Rattle.step_advect.specs.Fluxed.{along}
use Rattle.step_advect.specs.Lifts.{AreOuterSides, HoldsFlows}
use Rattle.step_advect.proofs.Donors.{block_inside, position_is}
use Rattle.step_advect.proofs.Lifted.{extent_turned}
use Rattle.step_advect.proofs.Nets.{high_read, low_read, upper}
use Rattle.mesh_model.proofs.GeometryLemmas.Sides.{on_domain_side}
use Rattle.step_advect.proofs.Telescopes.{on_sides, out_up}

-- a test that is taken to both sides
share_test : (p q t : Bool) → ((p && t) || (q && t)) ≡ (t && (p || q))
share_test true true true = refl
share_test true false true = refl
share_test false true true = refl
share_test false false true = refl
share_test true true false = refl
share_test true false false = refl
share_test false true false = refl
share_test false false false = refl

-- a position beyond a periodic side is on no outer side
wrapped_outer : (periodic : Bool) (e p : ℕ) → (not periodic && ((p == 0) || (p == e))) ≡ (not periodic && ((wrapped periodic e p == 0) || (wrapped periodic e p == e)))
unfolding wrapped
wrapped_outer true e p = refl
wrapped_outer false e p = refl

upper_on : (n : ℕ) (low high : Bool) (a : Axis) (f : ℕ → ℕ → ℕ → ℤ) (i j k : ℕ) →
    upper a (on_sides n low high a f) i j k ≡ (if is_on_side n low high (along a i j k + 1) then upper a f i j k else pos 0)
upper_on n low high X f i j k = refl
upper_on n low high Y f i j k = refl
upper_on n low high Z f i j k = refl

along_below : (n : ℕ) (a : Axis) (i j k : ℕ) → i < n → j < n → k < n → along a i j k < n
along_below n X i j k hi hj hk = hi
along_below n Y i j k hi hj hk = hj
along_below n Z i j k hi hj hk = hk

module _ (g : Grid) (b : BlockAt) (sides : List Bool) (valid : Valid g) (leaf : is_leaf_block g b ≡ true) (outer : AreOuterSides g.shape b sides) where
  abbrev low : Axis → Bool
  low a = is_chosen sides (side_index a)

  abbrev high : Axis → Bool
  high a = is_chosen sides (suc (side_index a))

  inside : InDomain g.shape b
  inside = valid.tiles.inside b (leaf_says g b leaf)

  -- a position of the block's faces is on a chosen side where it is on an outer side of the domain
  chosen_is : (a : Axis) (q : ℕ) → q ≤ g.shape.n →
      let p = g.shape.n * block_on a b + q in is_on_side g.shape.n (low a) (high a) q ≡ (not (is_periodic g.shape a) && ((p == 0) || (p == extent g.shape a b.level)))
  chosen_is a q h =
      let p = g.shape.n * block_on a b + q in
      let open_side = not (is_periodic g.shape a) in
      ap₂ (λ s t. is_on_side g.shape.n s t q) (outer.low a) (outer.high a)
      ∙ on_domain_side g.shape.n (block_on a b) q (roots g.shape a * 2 ^ b.level) open_side open_side (cells_some valid.shape) (block_inside g.shape a b inside) h
      ∙ ap (λ e. ((p == 0) && open_side) || ((p == e) && open_side)) (extent_turned (roots g.shape a) g.shape.n (2 ^ b.level))
      ∙ share_test (p == 0) (p == extent g.shape a b.level) open_side

  module _ (at : FaceAt → ℤ) (a : Axis) (numbers : ℕ → ℕ → ℕ → ℤ) (holds : HoldsFaceField g at a b numbers) (i j k : ℕ) (hi : i < g.shape.n) (hj : j < g.shape.n) (hk : k < g.shape.n) where
    abbrev c : CellAt
    c = in_block g.shape.n b i j k

    abbrev f : ℕ → ℕ → ℕ → ℤ
    f = inner g.shape.g numbers

    low_side : is_on_side g.shape.n (low a) (high a) (along a i j k) ≡ on_outer_side g.shape (face_of a c)
    unfolding on_outer_side
    low_side =
        let below = along_below g.shape.n a i j k hi hj hk in
        chosen_is a (along a i j k) (omega arith)
        ∙ ap (λ p. not (is_periodic g.shape a) && ((p == 0) || (p == extent g.shape a b.level))) (position_is g.shape.n a b i j k)

    high_side : is_on_side g.shape.n (low a) (high a) (along a i j k + 1) ≡ on_outer_side g.shape (face_of a (after g.shape a c))
    unfolding on_outer_side
    high_side =
        let below = along_below g.shape.n a i j k hi hj hk in
        let position = position_is g.shape.n a b i j k in
        let next : g.shape.n * block_on a b + (along a i j k + 1) ≡ suc (on a c) = omega arith in
        let e = extent g.shape a b.level in
        let w = wrapped (is_periodic g.shape a) e (suc (on a c)) in
        chosen_is a (along a i j k + 1) (omega arith)
        ∙ ap (λ p. not (is_periodic g.shape a) && ((p == 0) || (p == e))) next
        ∙ wrapped_outer (is_periodic g.shape a) e (suc (on a c))
        ∙ sym (ap₂ (λ p l. not (is_periodic g.shape a) && ((p == 0) || (p == extent g.shape a l))) (on_with a w c) (with_level a w c))

    low_lost : on_sides g.shape.n (low a) (high a) a f i j k ≡ on_outer g.shape at (face_of a c)
    low_lost = ap₂ (λ t v. if t then v else pos 0) low_side (low_read g b valid leaf i j k hi hj hk at numbers a holds)

    high_lost : upper a (on_sides g.shape.n (low a) (high a) a f) i j k ≡ on_outer g.shape at (face_of a (after g.shape a c))
    high_lost =
        upper_on g.shape.n (low a) (high a) a f i j k
        ∙ ap₂ (λ t v. if t then v else pos 0) high_side (high_read g b valid leaf i j k hi hj hk at numbers a holds)

    pub rise_lost : upper a (on_sides g.shape.n (low a) (high a) a f) i j k -ℤ on_sides g.shape.n (low a) (high a) a f i j k
        ≡ on_outer g.shape at (face_of a (after g.shape a c)) -ℤ on_outer g.shape at (face_of a c)
    rise_lost = ap₂ (λ r s. r -ℤ s) high_lost low_lost

  -- what flows out along an axis
  along_lost : (at : FaceAt → ℤ) (a : Axis) (numbers : ℕ → ℕ → ℕ → ℤ) → HoldsFaceField g at a b numbers →
      out_along g.shape.n a (inner g.shape.g numbers) (low a) (high a)
      ≡ block_sum g.shape.n (λ d. on_outer g.shape at (face_of a (after g.shape a d)) -ℤ on_outer g.shape at (face_of a d)) b
  along_lost at a numbers holds =
      sym (out_up g.shape.n (low a) (high a) a (inner g.shape.g numbers) (cells_some valid.shape))
      ∙ box_same g.shape.n g.shape.n g.shape.n _ _ (λ i j k hi hj hk. rise_lost at a numbers holds i j k hi hj hk)

  pub all_lost : (content : CellAt → ℤ) (n : Speeds) (cells fx fy fz : List ℤ) → HoldsFlows g content n b cells fx fy fz →
      out_through g.shape.n (flows_in g.shape.n g.shape.g cells fx fy fz) sides ≡ block_sum g.shape.n (net_flux g (on_outer g.shape (flux g content n))) b
  all_lost content n cells fx fy fz holds =
      let m = g.shape.n in
      let at = flux g content n in
      let x = along_lost at X (number_at (face_extents m g.shape.g X) fx) holds.along_x in
      let y = along_lost at Y (number_at (face_extents m g.shape.g Y) fy) holds.along_y in
      let z = along_lost at Z (number_at (face_extents m g.shape.g Z) fz) holds.along_z in
      ap₂ (λ r s. r +ℤ s) (ap₂ (λ r s. r +ℤ s) x y ∙ sym (box_add m m m _ _)) z ∙ sym (box_add m m m _ _)
