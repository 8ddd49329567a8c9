-- What a command does, or why it stops.
use Rattle.std.specs.Prelude.{◌≡◌, ℕ, List, Option, Some, None, Result, Ok, Err, ℤ}
use Rattle.mesh_steps.specs.declared.hindrance.FaceHindrance.{FaceHindrance}
use Rattle.mesh_steps.specs.declared.hindrance.FaceHindrance.TheVariants as faces
use Rattle.mesh_steps.specs.declared.hindrance.Hindrance.{Hindrance}
use Rattle.mesh_steps.specs.declared.hindrance.Hindrance.TheVariants.{TooFast, Content, FlowedOut}
use Rattle.amr_engine.specs.declared.cause.Cause.{Cause}
use Rattle.amr_engine.specs.declared.cause.Cause.TheVariants.{Range, Courant, Level, Place, PlaceBlock, Blocks, WriteFault, DiskFault, OutOfMemory}
use Rattle.amr_engine.specs.declared.cause.StoppedBy.{StoppedBy}
use Rattle.amr_engine.specs.declared.cause.StoppedBy.TheVariants as by
use Rattle.mesh_model.specs.declared.language.script.Command.{Command}
use Rattle.mesh_model.specs.declared.fields.values.Group.TheVariants.{Cell, Face}
use Rattle.mesh_model.specs.declared.run.stops.Refusal.TheVariants as refusals
use Rattle.mesh_model.specs.declared.fields.spot.Spot.TheVariants as spots
use Rattle.mesh_model.specs.Fields.Plain.{Mesh}
use Rattle.mesh_model.specs.Run.Runs.{TheDisk, TheMemory, TheSink, mesh_after, needs, text_of}
use Rattle.mesh_model.specs.Run.Stops.{refusal}
use Rattle.rank_world.specs.declared.faces.FaceAbove.{FaceAbove}
use Rattle.regrid_move.specs.declared.regridding.RegridStop.{RegridStop}
use Rattle.regrid_move.specs.declared.regridding.RegridStop.TheVariants as regrids
use Rattle.outside_io.specs.Moved.{Rose, Takes, TakesPrefix}

-- what stopped a command, as its cause tells it: here alone causes are told apart
abbrev pub stopped_by : Cause → StoppedBy
stopped_by (Range stop) = by.Mesh (refusals.Range stop)
stopped_by (Courant speeds) = by.Mesh (refusals.Courant speeds)
stopped_by (Level stop) = by.Mesh (refusals.Level stop)
stopped_by (Place spot) = by.Mesh (refusals.Place spot)
stopped_by (PlaceBlock at) = by.Mesh (refusals.PlaceBlock at)
stopped_by (Blocks count) = by.Mesh (refusals.Blocks count)
stopped_by WriteFault = by.Sink
stopped_by DiskFault = by.Disk
stopped_by OutOfMemory = by.Memory

-- what may stop a command: the mesh that refuses it, for this reason; the sink, where the command needs it and is not refused; the
-- disk, where the command needs it; or want of memory, where the command needs some
abbrev pub MayStop : StoppedBy → Mesh → Command → Type 0
MayStop (by.Mesh why) m command = refusal m command ≡ Some why
MayStop by.Sink m command = (needs command ≡ TheSink) × (refusal m command ≡ None)
MayStop by.Disk m command = needs command ≡ TheDisk
MayStop by.Memory m command = needs command ≡ TheMemory

-- a command that prints nothing is done, and makes this mesh of that one; or it is stopped, and leaves it
abbrev pub Changes : Result (Unit {0}) Cause → Mesh → Command → Mesh → Type 0
Changes (Ok done) before command after = (refusal before command ≡ None) × (after ≡ mesh_after before command)
Changes (Err cause) before command after = MayStop (stopped_by cause) before command × (after ≡ before)

-- the sink before and after, by the bytes that it took and its faults
pub record Written : Type 0 where
  pub before : Option (List ℕ)
  pub after : Option (List ℕ)
  pub faults : ℕ
  pub new_faults : ℕ

-- nothing was written
pub record IsUntouched (w : Written) : Type 0 where
  pub taken : w.after ≡ w.before
  pub calm : w.new_faults ≡ w.faults

-- the text was written, without a fault
pub record Wrote (text : List ℕ) (w : Written) : Type 0 where
  pub takes : Takes w.before text w.after
  pub calm : w.new_faults ≡ w.faults

-- the first bytes of the text were written, and then the sink failed
pub record WrotePart (text : List ℕ) (w : Written) : Type 0 where
  pub takes : TakesPrefix w.before text w.after
  pub rose : Rose w.faults w.new_faults

-- what a command that was stopped wrote of its text: nothing, unless the sink failed within it
abbrev pub Leaves : StoppedBy → List ℕ → Written → Type 0
Leaves (by.Mesh why) text w = IsUntouched w
Leaves by.Sink text w = WrotePart text w
Leaves by.Disk text w = IsUntouched w
Leaves by.Memory text w = IsUntouched w

-- why a command stopped, and what it had written by then
abbrev pub IsCause : Cause → Mesh → Command → Written → Type 0
IsCause cause m command w = MayStop (stopped_by cause) m command × Leaves (stopped_by cause) (text_of m command) w

-- what a command does: it is not refused, makes the mesh after it and prints its text; or it is stopped, and leaves the mesh
abbrev pub Acts : Result (Unit {0}) Cause → Mesh → Command → Mesh → Written → Type 0
Acts (Ok done) before command after w = (refusal before command ≡ None) × (after ≡ mesh_after before command) × Wrote (text_of before command) w
Acts (Err cause) before command after w = (after ≡ before) × IsCause cause before command w

-- the cause that tells why an advect of a variable at these speeds is hindered
abbrev pub cause_told : ℕ → List ℤ → Hindrance → Cause
cause_told var speeds TooFast = Courant speeds
cause_told var speeds (Content above) = Range (record { var = Cell var; spot = spots.Cell above.cell; value = above.value })
cause_told var speeds (FlowedOut out) = Range (record { var = Cell var; spot = spots.Out; value = out })

-- the cause that tells why a regrid stops
abbrev pub cause_of_regrid : RegridStop → Cause
cause_of_regrid (regrids.Blocks count) = Blocks count
cause_of_regrid (regrids.Range stop) = Range stop
cause_of_regrid regrids.OutOfMemory = OutOfMemory

-- the cause that tells of a face out of range
abbrev pub cause_of_faces : FaceAbove → Cause
cause_of_faces found = Range (record { var = Face; spot = spots.Face found.face; value = found.value })

-- the cause that tells why an induct at these speeds is hindered
abbrev pub cause_of_induct : List ℤ → FaceHindrance → Cause
cause_of_induct speeds faces.TooFast = Courant speeds
cause_of_induct speeds (faces.Number found) = cause_of_faces found
