-- What the disk went through in a run, and what a crash leaves of it.
use Rattle.std.specs.Prelude.{◌≡◌, ◌⊎◌, ℕ, ◌+◌, ◌-◌, ◌≤◌, if◌then◌else◌, nat_lt, IfSome, List, ◌++◌, length, take, Option, Some, Result}
use Rattle.outside_io.specs.Areas.{Areas}
use Rattle.outside_io.specs.Crash.{LeavesOnly, Reads, Rests}
use Rattle.outside_io.specs.Moved.{Rose, Takes}
use Rattle.check_disk.specs.Images.{images}
use Rattle.check_disk.specs.Stages.{IsStage, stage}
use Rattle.mesh_model.specs.Fields.Plain.{Mesh}
use Rattle.mesh_model.specs.Images.Held.{Held, IsWhole, held}
use Rattle.mesh_model.specs.declared.images.BadImage.{BadImage}
use Rattle.amr_engine.specs.Saving.{HasSaved, StaysWhole}
use Rattle.amr_program.specs.declared.not_run.NotRun.{NotRun}
use Rattle.amr_program.specs.declared.status.Status.{Status}
use Rattle.amr_program.specs.declared.status.Status.TheVariants as status
use Rattle.amr_program.specs.Answer.{IsRestart, Job, MayFail, MayWant, answer_of, count_in, first_texts}
use Rattle.amr_program.specs.declared.words.Asked.{Asked}
use Rattle.amr_program.specs.Lines.{disk_line, memory_line, read_line}

-- what may be said of a disk before and after a run, or a part of one
pub record DiskRun : Type 1 where
  -- it was read at most
  pub untouched : Type 0
  -- these meshes were saved on it, one after another
  pub saved : List Mesh → Type 0
  -- all of these but the last were saved on it, and the last was begun
  pub begun : List Mesh → Type 0
  -- it did not fail, or it did
  pub calm : Type 0
  pub rose : Type 0

module _ {D : Type 0} (holds : D → Option Areas) (may_leave : D → Areas → Type 0) (moment : D → ℕ) (left_since : D → ℕ → Areas → Type 0) where
  -- where nothing was pending and nothing is damaged, a crash now leaves the last of the meshes or the one before
  abbrev pub LeavesLastTwo : List Mesh → D → D → Type 0
  LeavesLastTwo meshes old new = (areas : Areas) → Rests holds may_leave old areas → IsWhole (held areas.a areas.b) → (c : Areas) → may_leave new c →
      (held c.a c.b ≡ stage (held areas.a areas.b) meshes (length meshes - 1)) ⊎ (held c.a c.b ≡ stage (held areas.a areas.b) meshes (length meshes))

  abbrev pub disk_run : (D → ℕ) → D → D → DiskRun
  disk_run faults old new = record {
    untouched = Reads holds may_leave moment left_since old new;
    saved = λ meshes. StaysWhole holds may_leave moment left_since meshes old new × HasSaved holds may_leave meshes old new;
    begun = λ meshes. StaysWhole holds may_leave moment left_since meshes old new × LeavesLastTwo meshes old new;
    calm = faults new ≡ faults old;
    rose = Rose (faults old) (faults new);
  }

  -- a run of which n checkpoints were done: stopped at any moment it leaves what was held first or one of the meshes up to the n-th, and at
  -- return the n-th; where the disk failed in it, the next may have been begun, and may be left too
  pub record Lasts (failed : Type 0) (first : Held Mesh BadImage) (meshes : List Mesh) (n : ℕ) (old new : D) : Type 0 where
    pub begun : ℕ
    pub next : (begun ≡ n) ⊎ ((begun ≡ n + 1) × failed)
    pub moments : LeavesOnly moment left_since old new (IsStage images first meshes begun)
    pub at_return : (c : Areas) → may_leave new c → (held c.a c.b ≡ stage first meshes n) ⊎ (held c.a c.b ≡ stage first meshes begun)

-- ---- where a run ended

-- a sink that tells took the first bytes of a text, at least and at most so many
abbrev pub TookBetween : ℕ → ℕ → List ℕ → Option (List ℕ) → Option (List ℕ) → Type 0
TookBetween least most text before after = IfSome before (λ bytes. (n : ℕ) × (least ≤ n) × (n ≤ most) × (after ≡ Some (bytes ++ take n text)))

-- how many bytes the answer has up to the end of the command after the first k, and where there is none in all
abbrev pub reach : Result Job NotRun → ℕ → ℕ
reach job k = if nat_lt k (count_in job) then length (first_texts job (k + 1)) else length (answer_of job).text

-- the run ended at the first command whose text the sink did not take, after k commands; or at its last line
pub record IsCut (job : Result Job NotRun) (k : ℕ) (before after : Option (List ℕ)) : Type 0 where
  pub reached : k ≤ count_in job
  pub took : TookBetween (length (first_texts job k)) (reach job k) (answer_of job).text before after

-- the texts of the first k commands and then this line were printed, all of it or, where the sink failed, some
abbrev pub HasLine : Result Job NotRun → ℕ → List ℕ → Option (List ℕ) → Option (List ℕ) → Type 0
HasLine job k line before after = TookBetween (length (first_texts job k)) (length (first_texts job k ++ line)) (first_texts job k ++ line) before after

-- the status, or a fault of the sink in its place
abbrev pub IsOr : Status → Status → Type 0
IsOr ends result = (result ≡ ends) ⊎ (result ≡ status.WriteFault)

-- want of memory for the words ended the run before the source was read
abbrev pub EndsWanting : Status → Option (List ℕ) → Option (List ℕ) → Type 0
EndsWanting result before after = IsOr status.OutOfMemory result × TookBetween 0 (length memory_line) memory_line before after

-- a fault of the source, or of the disk at a restart, ended the run before its first command, and the disk was read at most (Kept)
abbrev pub EndsUnread : ℕ → Status → Type 0 → Type 0 → Option (List ℕ) → Option (List ℕ) → Type 0
EndsUnread k result Unread Kept before after = (k ≡ 0) × IsOr status.ReadFault result × Unread × Kept × TookBetween 0 (length read_line) read_line before after

abbrev pub EndsUnheld : Option Asked → ℕ → Status → Type 0 → Type 0 → Option (List ℕ) → Option (List ℕ) → Type 0
EndsUnheld asked k result Broken Kept before after = (k ≡ 0) × IsRestart asked × IsOr status.DiskFault result × Broken × Kept × TookBetween 0 (length disk_line) disk_line before after

-- it ended where its answer says, after all commands that are done
abbrev pub EndsAnswered : Result Job NotRun → ℕ → Status → Option (List ℕ) → Option (List ℕ) → Type 0
EndsAnswered job k result before after = (k ≡ count_in job) × (result ≡ (answer_of job).status) × Takes before (answer_of job).text after

-- it ended at the first command whose text the sink did not take whole, or with its last line
abbrev pub EndsCut : Result Job NotRun → ℕ → Status → Option (List ℕ) → Option (List ℕ) → Type 0
EndsCut job k result before after = (result ≡ status.WriteFault) × IsCut job k before after

-- it ended at the command that want of memory stopped, or that a fault of the disk stopped
abbrev pub EndsStarved : Result Job NotRun → ℕ → Status → Option (List ℕ) → Option (List ℕ) → Type 0
EndsStarved job k result before after = IsOr status.OutOfMemory result × MayWant job k × HasLine job k memory_line before after

abbrev pub EndsBroken : Result Job NotRun → ℕ → Status → Type 0 → Option (List ℕ) → Option (List ℕ) → Type 0
EndsBroken job k result Broken before after = IsOr status.DiskFault result × Broken × MayFail job k × HasLine job k disk_line before after

-- where a run ended: after so many commands
abbrev pub EndsAfter : Option Asked → Result Job NotRun → ℕ → Status → Type 0 → Type 0 → Type 0 → Option (List ℕ) → Option (List ℕ) → Type 0
EndsAfter asked job k result Unread Broken Kept before after =
    EndsUnread k result Unread Kept before after ⊎ (EndsUnheld asked k result Broken Kept before after ⊎ (EndsAnswered job k result before after
    ⊎ (EndsCut job k result before after ⊎ (EndsStarved job k result before after ⊎ EndsBroken job k result Broken before after))))
