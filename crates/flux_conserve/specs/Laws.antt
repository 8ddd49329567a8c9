-- What jumps make of fluxes.
use Rattle.std.specs.Prelude.{◌≡◌, ℕ, ◌<◌, true, false, ℤ}
use Rattle.amr_num.specs.declared.Axis.{Axis}
use Rattle.amr_num.specs.declared.Axis.TheVariants.{X, Y, Z}
use Rattle.amr_num.specs.declared.BlockAt.{BlockAt}
use Rattle.amr_num.specs.declared.CellAt.{CellAt}
use Rattle.mesh_model.specs.Fields.Advect.{Speeds, flux, leaf_flux}
use Rattle.mesh_model.specs.Fields.ArrayPlaces.{HoldsFaceField}
use Rattle.mesh_model.specs.Geometry.Canonical.{canonical_on}
use Rattle.mesh_model.specs.Geometry.Coordinates.{face_of}
use Rattle.mesh_model.specs.Geometry.Places.{in_block, longer_on}
use Rattle.mesh_model.specs.Tree.Kinds.{Grid, is_leaf_block}
use Rattle.mesh_model.specs.Tree.ValidGrid.{Valid}
use Rattle.flux_conserve.specs.Jumps.{is_at_jump, jumped}

-- the flux through a face of a leaf is what the leaf's own step gives, or the sum of what finer leaves' steps give at a jump
abbrev pub FluxesAreJumped : Type 0
FluxesAreJumped = (g : Grid) (content : CellAt → ℤ) (n : Speeds) (b : BlockAt) (a : Axis) (i j k : ℕ) → Valid g → is_leaf_block g b ≡ true →
    i < longer_on a X g.shape.n → j < longer_on a Y g.shape.n → k < longer_on a Z g.shape.n →
    let f = face_of a (canonical_on g.shape a (in_block g.shape.n b i j k)) in flux g content n f ≡ jumped g (leaf_flux g content n) f

-- faces of a leaf that hold these jumped fluxes hold the mesh's fluxes
abbrev pub FluxesAreHeld : Type 0
FluxesAreHeld = (g : Grid) (content : CellAt → ℤ) (n : Speeds) (b : BlockAt) (a : Axis) (numbers : ℕ → ℕ → ℕ → ℤ) → Valid g → is_leaf_block g b ≡ true →
    HoldsFaceField g (jumped g (leaf_flux g content n)) a b numbers → HoldsFaceField g (flux g content n) a b numbers

-- where no level jumps across a leaf's sides its own fluxes are the mesh's
abbrev pub CalmFluxesAreOwn : Type 0
CalmFluxesAreOwn = (g : Grid) (content : CellAt → ℤ) (n : Speeds) (b : BlockAt) (a : Axis) (numbers : ℕ → ℕ → ℕ → ℤ) → Valid g → is_leaf_block g b ≡ true →
    is_at_jump g b ≡ false → HoldsFaceField g (leaf_flux g content n) a b numbers → HoldsFaceField g (flux g content n) a b numbers
