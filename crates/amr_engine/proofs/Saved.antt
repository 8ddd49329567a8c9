-- What commands do to the disk.
use Rattle.std.proofs.Common.{◌≡◌, ◌≢◌, ◌⊎◌, inl, inr, ℕ, ℤ, List, [], ◌∷◌, Option, Result, Ok, Err, IfErr, OnOk, refl, ap, arith}
use Rattle.block_tree.specs.declared.marks.Marks.{Marks}
use Rattle.outside_io.specs.Areas.{Areas}
use Rattle.outside_io.specs.Crash.{LeavesOnly, Rests}
use Rattle.outside_io.proofs.Moments.{started, weaker}
use Rattle.check_disk.specs.Images.{FitsImage, images}
use Rattle.check_disk.specs.Stages.{IsStage}
use Rattle.mesh_model.specs.declared.language.script.Command.{Command}
use Rattle.mesh_model.specs.declared.language.script.Command.TheVariants as commands
use Rattle.mesh_model.specs.Fields.Plain.{Mesh}
use Rattle.mesh_model.specs.Images.Held.{Found, Held, IsWhole, held}
use Rattle.mesh_model.specs.Run.Runs.{TheDisk, needs, saved_by}
use Rattle.mesh_model.specs.declared.images.BadImage.{BadImage}
use Rattle.mesh_model.specs.Fields.Ranks.{WorldState}
use Rattle.mesh_model.specs.Fields.Valid.{ValidMesh}
use Rattle.mesh_model.specs.Fields.VariableNames.{VariableNames}
use Rattle.mesh_model.specs.Images.Reading.{NamesFit}
use Rattle.amr_engine.specs.EngineMesh.{mesh_of}
use Rattle.amr_engine.specs.Saving.{CountsFault, HasSaved, StaysWhole}
use Rattle.amr_engine.specs.Stopping.{Acts, MayStop, Written, stopped_by}
use Rattle.amr_engine.specs.declared.cause.Cause.{Cause}
use Rattle.amr_engine.specs.declared.cause.StoppedBy.{StoppedBy}
use Rattle.amr_engine.specs.declared.cause.StoppedBy.TheVariants as by

-- what does not need the disk saves nothing
pub saves_nothing : (m : Mesh) (command : Command) → needs command ≢ TheDisk → saved_by m command ≡ []
saves_nothing m commands.Checkpoint not = absurd (not refl)
saves_nothing m other not = refl

-- what needs the disk saves the mesh
pub saves_mesh : (m : Mesh) (command : Command) → needs command ≡ TheDisk → saved_by m command ≡ m ∷ []
saves_mesh m commands.Checkpoint is = refl
saves_mesh m other is = absurd (cc is)

-- only a checkpoint needs the disk
pub aside : (command : Command) → (command ≡ commands.Checkpoint → ⊥) → needs command ≢ TheDisk
aside commands.Checkpoint not = absurd (not refl)
aside other not = λ e. cc e

-- a save leaves what was held or the mesh
pub one_stage : (m : Mesh) (first : Held Mesh BadImage) (c : Areas) → (held c.a c.b ≡ first) ⊎ (held c.a c.b ≡ Found m) → IsStage images first (m ∷ []) 1 c
one_stage m first c (inl e) = (0, omega arith, e)
one_stage m first c (inr e) = (1, omega arith, e)

-- a disk that is left alone
module _ {D : Type 0} (holds : D → Option Areas) (may_leave : D → Areas → Type 0) (moment : D → ℕ) (left_since : D → ℕ → Areas → Type 0)
    (only_now : (disk : D) (c : Areas) → left_since disk (moment disk) c → may_leave disk c) (disk : D) where
  pub stays_whole : StaysWhole holds may_leave moment left_since [] disk disk
  stays_whole areas rests whole = started moment left_since disk (IsStage images (held areas.a areas.b) [] 0) (λ c left. (0, omega arith, ap (λ (x : Areas). held x.a x.b) (rests.only c (only_now disk c left))))

  pub nothing_saved : HasSaved holds may_leave [] disk disk
  nothing_saved areas rests whole = (areas, rests, refl)

-- a valid mesh with such names has images
pub fits_image : (names : VariableNames) (w : WorldState) (outs : List ℤ) (marks : Marks) → ValidMesh (mesh_of names w outs marks) → NamesFit names → FitsImage (mesh_of names w outs marks)
unfolding mesh_of
fits_image names w outs marks valid named = record { valid = valid; names = named }

-- a command that does not need the disk leaves its count
counts_none : (stopper : StoppedBy) (m : Mesh) (command : Command) (faults : ℕ) → needs command ≢ TheDisk → MayStop stopper m command → CountsFault stopper faults faults
counts_none (by.Mesh why) m command faults not may = refl
counts_none by.Sink m command faults not may = refl
counts_none by.Disk m command faults not may = absurd (not may)
counts_none by.Memory m command faults not may = refl

pub no_fault : (result : Result (Unit {0}) Cause) (m after : Mesh) (command : Command) (w : Written) (faults : ℕ) → needs command ≢ TheDisk → Acts result m command after w → IfErr result (λ cause. CountsFault (stopped_by cause) faults faults)
no_fault (Ok done) m after command w faults not acts = tt
no_fault (Err cause) m after command w faults not acts = counts_none (stopped_by cause) m command faults not acts.1.0

pub on_ok : {A E : Type 0} (r : Result A E) (P : Type 0) → P → OnOk r P
on_ok (Ok x) P p = p
on_ok (Err e) P p = tt
