-- The faces of a block within their array, and the size of what flows through them.
use Rattle.std.proofs.Common.{◌≡◌, ℕ, zero, suc, ◌+◌, ◌*◌, ◌/◌, ◌%◌, ◌^◌, ◌<◌, ◌≤◌, Bool, true, false, List, ℤ, pos, negsuc, ◌*ℤ◌, ap, subst, sym, ◌∙◌, arith}
use Rattle.std.specs.Prelude.{if◌then◌else◌, neg_ℤ, unsigned_abs}
use Rattle.amr_num.specs.Numbers.{Within, at, carry, floor_div}
use Rattle.amr_num.proofs.Sizes.{carried_size}
use Rattle.amr_num.specs.declared.Axis.{Axis}
use Rattle.amr_num.specs.declared.Axis.TheVariants.{X, Y, Z}
use Rattle.mesh_model.specs.Fields.ArrayPlaces.{Fits, face_extents}
use Rattle.step_advect.specs.Flux.{donor_of, flux_between}
use Rattle.mesh_model.specs.Geometry.Places.{is_on_side, longer_on}
use Rattle.step_advect.specs.Fluxed.{AreFacesWithin, AreSidesWithin, Flow, along, block_faces, donor_at, flux_at, flux_from}

pub faces_fit : (n g : ℕ) (a : Axis) → Fits (face_extents n g a) (block_faces n g a)
faces_fit n g X = record { x = omega arith; y = omega arith; z = omega arith }
faces_fit n g Y = record { x = omega arith; y = omega arith; z = omega arith }
faces_fit n g Z = record { x = omega arith; y = omega arith; z = omega arith }

neg_within : (most : ℕ) (z : ℤ) → Within most z → Within most (neg_ℤ z)
neg_within most (pos zero) h = h
neg_within most (pos (suc n)) h = h
neg_within most (negsuc n) h = h

-- what is carried of a number is no greater than it
carry_size : (speed : ℤ) (l : ℕ) (v : ℤ) → unsigned_abs speed * 2 ^ l ≤ 2 ^ 20 → Within (unsigned_abs v) (carry speed l v)
unfolding carry
carry_size (pos n) l v h = carried_size (n * 2 ^ l) v h
carry_size (negsuc n) l v h = neg_within (unsigned_abs v) (floor_div (pos (suc n * 2 ^ l) *ℤ v) (2 ^ 20)) (carried_size (suc n * 2 ^ l) v h)

donor_within : (most : ℕ) (speed low high : ℤ) → Within most low → Within most high → Within most (donor_of speed low high)
donor_within most (pos n) low high hl hh = hl
donor_within most (negsuc n) low high hl hh = hh

-- so a flux is no greater than the numbers of both cells
pub flux_within : (most l : ℕ) (speed low high : ℤ) (closed : Bool) → unsigned_abs speed * 2 ^ l ≤ 2 ^ 20 → Within most low → Within most high →
    Within most (flux_between l speed low high closed)
unfolding flux_between
flux_within most l speed low high true h hl hh = omega arith
flux_within most l speed low high false h hl hh =
    let donor = donor_within most speed low high hl hh in
    let carried = carry_size speed l (donor_of speed low high) h in
    omega arith

-- the flux from the donor is that between the two cells
from_donor : (n : ℕ) (a : Axis) (flow : Flow) (low high donor : ℤ) (i j k : ℕ) → donor ≡ donor_of flow.speed low high →
    flux_from n a flow donor i j k ≡ flux_between flow.level flow.speed low high (is_on_side n flow.closed_low flow.closed_high (along a i j k))
unfolding flux_from flux_between
from_donor n a flow low high donor i j k is = ap (λ v. if is_on_side n flow.closed_low flow.closed_high (along a i j k) then pos 0 else carry flow.speed flow.level v) is

-- a row of fluxes from a row of donors
module _ (n g : ℕ) (a : Axis) (speed : ℤ) (cells : ℕ → ℕ → ℕ → ℤ) (donors : List ℤ) (j k : ℕ)
    (are : (t : ℕ) → t < longer_on a X n → at donors t ≡ donor_at a speed cells (g + t) (g + j) (g + k)) where
  pub donors_within : (most : ℕ) → AreSidesWithin most n g a cells → j < longer_on a Y n → k < longer_on a Z n → (t : ℕ) → t < longer_on a X n → Within most (at donors t)
  donors_within most small hj hk t h = subst (Within most) (sym (are t h)) (donor_within most speed _ _ (small.low t j k h hj hk) (small.high t j k h hj hk))

pub row_fluxes : (n g : ℕ) (a : Axis) (flow : Flow) (cells : ℕ → ℕ → ℕ → ℤ) (donors new : List ℤ) (rows m : ℕ) → rows ≡ longer_on a Y n →
    ((t : ℕ) → t < longer_on a X n → at donors t ≡ donor_at a flow.speed cells (g + t) (g + m % rows) (g + m / rows)) →
    ((t : ℕ) → t < longer_on a X n → at new t ≡ flux_from n a flow (at donors t) t (m % rows) (m / rows)) →
    (t : ℕ) → t < longer_on a X n → at new t ≡ flux_at n g a flow cells t (m % longer_on a Y n) (m / longer_on a Y n)
row_fluxes n g a flow cells donors new rows m same are is t h =
    subst (λ r. at new t ≡ flux_at n g a flow cells t (m % r) (m / r)) same
    (is t h ∙ from_donor n a flow _ _ (at donors t) t (m % rows) (m / rows) (are t h))

-- where numbers on both sides of faces are small, fluxes are
pub fluxes_within : (most n g : ℕ) (a : Axis) (flow : Flow) (cells faces : ℕ → ℕ → ℕ → ℤ) → unsigned_abs flow.speed * 2 ^ flow.level ≤ 2 ^ 20 → AreSidesWithin most n g a cells →
    ((i j k : ℕ) → i < longer_on a X n → j < longer_on a Y n → k < longer_on a Z n → faces (g + i) (g + j) (g + k) ≡ flux_at n g a flow cells i j k) → AreFacesWithin most n g a faces
fluxes_within most n g a flow cells faces speed small are = record {
  at = λ i j k hi hj hk.
      subst (Within most) (sym (are i j k hi hj hk))
      (flux_within most flow.level flow.speed _ _ (is_on_side n flow.closed_low flow.closed_high (along a i j k)) speed (small.low i j k hi hj hk) (small.high i j k hi hj hk));
}
