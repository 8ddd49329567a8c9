-- An array all of whose numbers are small.
use Rattle.std.proofs.Common.{ℕ, ◌+◌, ◌-◌, ◌≤◌, ◌^◌, List, ℤ, pos, length, inl, inr, subst, sym, arith}
use Rattle.std.specs.List.{All}
use Rattle.std.proofs.lemmas.Bool.{cases_lt}
use Rattle.std.proofs.lemmas.List.{get_or_past}
use Rattle.std.proofs.lemmas.List.Elements.{All-get_or}
use Rattle.amr_num.specs.Numbers.{Within, at}
use Rattle.amr_num.specs.declared.Axis.{Axis}
use Rattle.mesh_model.specs.Geometry.Coordinates.{step}
use Rattle.mesh_model.specs.Fields.ArrayPlaces.{Extents, number_at, place_in}
use Rattle.step_advect.specs.Applied.{AreInRange, inner}
use Rattle.step_advect.specs.Fluxed.{AreFacesWithin, AreSidesWithin}

at_small : (xs : List ℤ) → All (Within (2 ^ 40)) xs → (p : ℕ) → Within (2 ^ 40) (at xs p)
at_small xs all p = elim (cases_lt p (length xs)) [
  | inl less ↦ All-get_or (Within (2 ^ 40)) xs p (pos 0) less all
  | inr past ↦ subst (Within (2 ^ 40)) (sym (get_or_past xs p (pos 0) past)) (omega arith)
]

wider : (xs : List ℤ) → All (Within (2 ^ 40)) xs → (most : ℕ) → 2 ^ 40 ≤ most → (p : ℕ) → Within most (at xs p)
wider xs all most le p = let own = at_small xs all p in omega arith

module _ (e : Extents) (xs : List ℤ) (all : All (Within (2 ^ 40)) xs) where
  pub small_cells : (n g : ℕ) → AreInRange n (inner g (number_at e xs))
  small_cells n g = record { at = λ i j k hi hj hk. at_small xs all (place_in e (g + i) (g + j) (g + k)) }

  pub small_sides : (most n g : ℕ) (a : Axis) → 2 ^ 40 ≤ most → AreSidesWithin most n g a (number_at e xs)
  small_sides most n g a le = record {
    low = λ i j k hi hj hk. wider xs all most le (place_in e (g + i - (step a 1).x) (g + j - (step a 1).y) (g + k - (step a 1).z));
    high = λ i j k hi hj hk. wider xs all most le (place_in e (g + i) (g + j) (g + k));
  }

  pub small_faces : (most n g : ℕ) (a : Axis) → 2 ^ 40 ≤ most → AreFacesWithin most n g a (number_at e xs)
  small_faces most n g a le = record { at = λ i j k hi hj hk. wider xs all most le (place_in e (g + i) (g + j) (g + k)) }
