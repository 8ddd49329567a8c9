-- What the work faces of leaves at a jump have.
use Rattle.std.specs.Prelude.{ℕ, true, List, ℤ}
use Rattle.amr_num.specs.declared.Axis.{Axis}
use Rattle.amr_num.specs.declared.FaceAt.{FaceAt}
use Rattle.mesh_model.specs.Fields.Ranks.{WorldState}
use Rattle.flux_conserve.specs.Jumps.{BlockFaces}
use Rattle.flux_conserve.specs.FaceArrays.{FacesHave, FacesHold, FacesWithin, OnlyFaces, stored}
pub use Rattle.flux_conserve.specs.FaceArrays.{HasNoJump, IsJumpNode}

-- the array of a node's work faces normal to an axis
abbrev pub work_array : WorldState → Axis → ℕ → List ℤ
work_array w a node = stored true w a node

-- the work faces of each leaf at a jump hold a field, by canonical names
abbrev pub WorkHolds : WorldState → (FaceAt → ℤ) → Type 0
WorkHolds w field = FacesHold true w field

-- their numbers on the block's faces are at most so great in absolute value
abbrev pub WorkWithin : WorldState → ℕ → Type 0
WorkWithin w most = FacesWithin true w most

-- they have these numbers
abbrev pub WorkHas : WorldState → BlockFaces → Type 0
WorkHas w faces = FacesHave true w faces

-- arrays may have other numbers where they are work faces of leaves, and all else is as it was
abbrev pub OnlyWorkFaces : WorldState → WorldState → Type 0
OnlyWorkFaces old new = OnlyFaces true old new
