-- Fluxes through the faces of a block normal to an axis, from the numbers of its cells with their guards, by places.
use Rattle.std.specs.Prelude.{ℕ, ◌+◌, ◌-◌, ◌*◌, ◌^◌, ◌<◌, ◌≤◌, Bool, ◌&&◌, ◌||◌, ◌==◌, List, ℤ, pos, if◌then◌else◌, unsigned_abs}
use Rattle.amr_num.specs.Numbers.{Within, carry}
use Rattle.amr_num.specs.declared.Axis.{Axis}
use Rattle.amr_num.specs.declared.Axis.TheVariants.{X, Y, Z}
use Rattle.mesh_model.specs.Geometry.Coordinates.{on, step}
use Rattle.mesh_model.specs.Geometry.Places.{is_on_side, longer_on}
use Rattle.mesh_model.specs.Fields.ArrayPlaces.{Box, IsWritten, cell_extents, face_extents, number_at}
use Rattle.step_advect.specs.declared.fluxes.FlowAlong.{FlowAlong}
use Rattle.step_advect.specs.Flux.{donor_of, flux_between}

-- the faces of a block among the places of their array
abbrev pub block_faces : ℕ → ℕ → Axis → Box
block_faces n g a = record { x = g; y = g; z = g; along_x = longer_on a X n; along_y = longer_on a Y n; along_z = longer_on a Z n }

-- the place on an axis
abbrev pub along : Axis → ℕ → ℕ → ℕ → ℕ
along a i j k = on a (record { level = 0; x = i; y = j; z = k })

-- the number at the place so many places lower on an axis
abbrev pub lower_by : ℕ → Axis → (ℕ → ℕ → ℕ → ℤ) → ℕ → ℕ → ℕ → ℤ
lower_by h a numbers i j k = numbers (i - (step a h).x) (j - (step a h).y) (k - (step a h).z)

-- the content of the cell that a speed on an axis comes from, at the face below a place
abbrev pub donor_at : Axis → ℤ → (ℕ → ℕ → ℕ → ℤ) → ℕ → ℕ → ℕ → ℤ
donor_at a speed cells i j k = donor_of speed (lower_by 1 a cells i j k) (cells i j k)

-- how a block is flowed through along an axis: at which level and speed, and which of its two sides are closed
pub record Flow : Type 0 where
  pub level : ℕ
  pub speed : ℤ
  pub closed_low : Bool
  pub closed_high : Bool

-- the level is one of a mesh, and the speed moves at most one cell of it a step
pub record IsSlow (f : Flow) : Type 0 where
  pub level : f.level ≤ 10
  pub speed : unsigned_abs f.speed * 2 ^ f.level ≤ 2 ^ 20

-- as the code has it
abbrev pub flow_of : FlowAlong → Flow
flow_of f = record { level = f.level; speed = f.speed; closed_low = f.closed_low; closed_high = f.closed_high }

-- the flux through a face at a place of a block from the content of its donor
unfoldable pub flux_from : ℕ → Axis → Flow → ℤ → ℕ → ℕ → ℕ → ℤ
flux_from n a flow donor i j k = if is_on_side n flow.closed_low flow.closed_high (along a i j k) then pos 0 else carry flow.speed flow.level donor

-- and from the numbers of the cells on both sides
abbrev pub flux_at : ℕ → ℕ → Axis → Flow → (ℕ → ℕ → ℕ → ℤ) → ℕ → ℕ → ℕ → ℤ
flux_at n g a flow cells i j k =
    flux_between flow.level flow.speed (lower_by 1 a cells (g + i) (g + j) (g + k)) (cells (g + i) (g + j) (g + k))
    (is_on_side n flow.closed_low flow.closed_high (along a i j k))

-- each face of the block has its flux, and all else of the array is as it was
abbrev pub IsFluxed : ℕ → ℕ → Axis → Flow → List ℤ → List ℤ → List ℤ → Type 0
IsFluxed n g a flow cells old new = IsWritten (face_extents n g a) (block_faces n g a) (flux_at n g a flow (number_at (cell_extents n g) cells)) old new

-- the cells on both sides of each face have numbers that are at most so great in absolute value
pub record AreSidesWithin (most n g : ℕ) (a : Axis) (cells : ℕ → ℕ → ℕ → ℤ) : Type 0 where
  pub low : (i j k : ℕ) → i < longer_on a X n → j < longer_on a Y n → k < longer_on a Z n → Within most (lower_by 1 a cells (g + i) (g + j) (g + k))
  pub high : (i j k : ℕ) → i < longer_on a X n → j < longer_on a Y n → k < longer_on a Z n → Within most (cells (g + i) (g + j) (g + k))

-- each face has such a number
pub record AreFacesWithin (most n g : ℕ) (a : Axis) (faces : ℕ → ℕ → ℕ → ℤ) : Type 0 where
  pub at : (i j k : ℕ) → i < longer_on a X n → j < longer_on a Y n → k < longer_on a Z n → Within most (faces (g + i) (g + j) (g + k))
