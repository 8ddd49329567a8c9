-- The plain answer: what a run answers and prints, as a function of its words, of the bytes of its script, and of what the disk holds.
use Rattle.std.specs.Prelude.{◌≡◌, ◌≢◌, All, ℕ, ◌+◌, ◌≤◌, if◌then◌else◌, IfSome, List, [], ◌∷◌, ◌++◌, length, Option, Some, None, IsSome, Result, Ok, Err, ◌⊎◌, drop, take, option_map}
use Rattle.amr_engine.specs.Built.{is_built}
use Rattle.mesh_model.specs.Language.Commands.{PlainScript}
use Rattle.mesh_model.specs.Language.Grammar.{Fault, most_bytes, script_of}
use Rattle.mesh_model.specs.Language.Sample.{sample}
use Rattle.mesh_model.specs.Fields.Plain.{Mesh}
use Rattle.mesh_model.specs.Images.Codec.{IsBytes}
use Rattle.mesh_model.specs.Images.Held.{Held, Nothing, DamagedA, DamagedB, Found, held}
use Rattle.mesh_model.specs.Run.Runs.{AtEachCommand, Refused, Resource, TheDisk, TheMemory, checkpoints, declared_in, done, first_mesh, needs, stop, texts}
use Rattle.mesh_model.specs.Run.StopTexts.{stop_line}
use Rattle.mesh_model.specs.Fields.VariableNames.{VariableNames}
use Rattle.mesh_model.specs.declared.images.BadImage.{BadImage}
use Rattle.mesh_model.specs.declared.language.script.Command.{Command}
use Rattle.mesh_model.specs.declared.language.script.Declared.{Declared}
use Rattle.mesh_model.specs.declared.language.script.Line.{Line}
use Rattle.mesh_model.specs.declared.run.stops.Refusal as stops
use Rattle.mesh_model.specs.declared.run.stops.Refusal.TheVariants as why
use Rattle.outside_io.specs.Areas.{Areas}
use Rattle.outside_io.specs.Moved.{Takes, TakesPrefix}
use Rattle.outside_io.specs.declared.disk.Area.TheVariants.{A, B}
use Rattle.amr_program.specs.declared.status.Status.{Status}
use Rattle.amr_program.specs.declared.status.Status.TheVariants.{Done, Words, Script, Stopped, Level, ReadFault, NoCheckpoint, Damaged}
use Rattle.amr_program.specs.declared.not_run.NotRun.{NotRun}
use Rattle.amr_program.specs.declared.not_run.NotRun.TheVariants as reasons
use Rattle.amr_program.specs.declared.words.Asked.{Asked}
use Rattle.amr_program.specs.declared.words.Start.{Start}
use Rattle.amr_program.specs.declared.words.Start.TheVariants.{New, Restart, Sample}
use Rattle.amr_program.specs.Words.{asked_in}
use Rattle.amr_program.specs.Lines.{disk_line, memory_line, not_run_line, read_line}

-- ---- what is run

-- how many bytes are read of a source at most: one more than a script may have
abbrev pub most_read : ℕ
most_read = most_bytes + 1

-- the bytes of the script, where they are known: those of the sample, or the first ones that the source has
abbrev pub script_at : Start → Option (List ℕ) → Option (List ℕ)
script_at New left = option_map (λ bytes. take most_read bytes) left
script_at Restart left = option_map (λ bytes. take most_read bytes) left
script_at (Sample seed) left = Some (sample seed)

-- where the words are refused there are none
abbrev pub script_by : Option Asked → Option (List ℕ) → Option (List ℕ)
script_by None left = Some []
script_by (Some asked) left = script_at asked.start left

abbrev pub script_in : List (List ℕ) → Option (List ℕ) → Option (List ℕ)
script_in words left = script_by (asked_in words) left

-- with a sample the source is not read
abbrev pub ReadsAt : Start → Type 0
ReadsAt New = Unit {0}
ReadsAt Restart = Unit {0}
ReadsAt (Sample seed) = ⊥

abbrev pub ReadsSource : Option Asked → Type 0
ReadsSource None = ⊥
ReadsSource (Some asked) = ReadsAt asked.start

-- a restart is asked for
abbrev pub IsRestart : Option Asked → Type 0
IsRestart None = ⊥
IsRestart (Some asked) = asked.start ≡ Restart

-- what is run: the mesh with which the commands begin, and their lines
pub record Job : Type 0 where
  pub mesh : Mesh
  pub lines : List Line

-- a script that was read is run from a mesh where it is built, by the ranks and the workers that are asked for
abbrev pub job_from : Asked → (PlainScript → Mesh) → Result PlainScript Fault → Result Job NotRun
job_from asked from (Ok s) = if is_built s asked.ranks asked.workers then Ok (record { mesh = from s; lines = s.lines }) else Err reasons.NotBuilt
job_from asked from (Err fault) = Err (reasons.Fault fault.line fault.reason)

-- a run from the mesh of an image, by what the disk holds and what the script says
abbrev pub restarted : Asked → Held Mesh BadImage → (Option Declared → Result PlainScript Fault) → Result Job NotRun
restarted asked Nothing says = Err reasons.NoCheckpoint
restarted asked (DamagedA bad) says = Err (reasons.Damaged A bad)
restarted asked (DamagedB bad) says = Err (reasons.Damaged B bad)
restarted asked (Found m) says = job_from asked (λ s. m) (says (Some (declared_in m)))

-- what is run, or why nothing is
abbrev pub job_at : Start → Asked → Held Mesh BadImage → (Option Declared → Result PlainScript Fault) → Result Job NotRun
job_at New asked h says = job_from asked first_mesh (says None)
job_at Restart asked h says = restarted asked h says
job_at (Sample seed) asked h says = job_from asked first_mesh (says None)

abbrev pub job_by : Option Asked → Held Mesh BadImage → (Option Declared → Result PlainScript Fault) → Result Job NotRun
job_by None h says = Err reasons.Words
job_by (Some asked) h says = job_at asked.start asked h says

abbrev pub job_of : Option Asked → Held Mesh BadImage → List ℕ → Result Job NotRun
job_of asked h script = job_by asked h (λ given. script_of given script)

-- what a disk holds by what a read gives of its areas
abbrev pub held_in : Option Areas → Held Mesh BadImage
held_in None = Nothing
held_in (Some areas) = held areas.a areas.b

abbrev pub job_in : List (List ℕ) → Option Areas → List ℕ → Result Job NotRun
job_in words disk script = job_of (asked_in words) (held_in disk) script

-- a restart is told of where the disk tells its bytes
abbrev pub IsToldAt : Start → Option Areas → Type 0
IsToldAt New disk = Unit {0}
IsToldAt Restart disk = IsSome disk
IsToldAt (Sample seed) disk = Unit {0}

abbrev pub IsTold : Option Asked → Option Areas → Type 0
IsTold None disk = Unit {0}
IsTold (Some asked) disk = IsToldAt asked.start disk

-- what the areas of a restart's disk have are bytes
abbrev pub HasBytesAt : Start → Option Areas → Type 0
HasBytesAt New disk = Unit {0}
HasBytesAt Restart disk = IfSome disk (λ areas. IsBytes areas.a × IsBytes areas.b)
HasBytesAt (Sample seed) disk = Unit {0}

abbrev pub HasBytes : Option Asked → Option Areas → Type 0
HasBytes None disk = Unit {0}
HasBytes (Some asked) disk = HasBytesAt asked.start disk

-- ---- what it answers

-- the status, and all that is printed
pub record Answer : Type 0 where
  pub status : Status
  pub text : List ℕ

-- the status of a run that a refused command ends
abbrev pub status_of : stops.Refusal → Status
status_of (why.Range stop) = Stopped
status_of (why.Courant speeds) = Stopped
status_of (why.Level stop) = Level
status_of (why.Place spot) = Stopped
status_of (why.PlaceBlock at) = Stopped
status_of (why.Blocks count) = Stopped

-- the status where nothing is run
abbrev pub status_unrun : NotRun → Status
status_unrun reasons.Words = Words
status_unrun reasons.NoCheckpoint = NoCheckpoint
status_unrun (reasons.Damaged area bad) = Damaged
status_unrun (reasons.Fault line reason) = Script
status_unrun reasons.NotBuilt = Script

-- how a run ends: commands that are not stopped run to their end, and a refused command has the last line
abbrev pub ending : VariableNames → Option Refused → Answer
ending names None = record { status = Done; text = [] }
ending names (Some refused) = record { status = status_of refused.why; text = stop_line names refused.line refused.why }

-- the commands that are done, and the first that is refused
abbrev pub done_in : Job → List Line
done_in j = done j.mesh j.lines

abbrev pub stop_in : Job → Option Refused
stop_in j = stop j.mesh j.lines

-- what comes of a job: the texts of the commands that are done, and how the run ends
abbrev pub answer_of : Result Job NotRun → Answer
answer_of (Ok j) = record {
  status = (ending j.mesh.names (stop_in j)).status;
  text = texts j.mesh (done_in j) ++ (ending j.mesh.names (stop_in j)).text;
}
answer_of (Err reason) = record { status = status_unrun reason; text = not_run_line reason }

abbrev pub plain_answer : List (List ℕ) → List ℕ → Held Mesh BadImage → Answer
plain_answer words script h = answer_of (job_of (asked_in words) h script)

-- the status is the answer's, and a sink that tells took its text
pub record IsAnswer (answer : Answer) (status : Status) (before after : Option (List ℕ)) : Type 0 where
  pub status_is : status ≡ answer.status
  pub text_is : Takes before answer.text after

-- nothing is run, and this is the status
abbrev pub IsUnrunWith : Status → Result Job NotRun → Type 0
IsUnrunWith status (Ok j) = ⊥
IsUnrunWith status (Err reason) = status_unrun reason ≡ status

-- it is run, and none of its commands is refused
abbrev pub IsAccepted : Result Job NotRun → Type 0
IsAccepted (Ok j) = stop_in j ≡ None
IsAccepted (Err reason) = ⊥

-- it is run, and a command is refused with this status
abbrev pub IsStoppedWith : Status → Result Job NotRun → Type 0
IsStoppedWith status (Ok j) = (refused : Refused) × (stop_in j ≡ Some refused) × (status_of refused.why ≡ status)
IsStoppedWith status (Err reason) = ⊥

-- ---- where it ends otherwise

-- how many commands are done, and what the first k of them print
abbrev pub count_in : Result Job NotRun → ℕ
count_in (Ok j) = length (done_in j)
count_in (Err reason) = 0

abbrev pub first_texts : Result Job NotRun → ℕ → List ℕ
first_texts (Ok j) k = texts j.mesh (take k (done_in j))
first_texts (Err reason) k = []

-- the meshes that its checkpoints save, and how many of them are among the first k commands
abbrev pub saved_in : Result Job NotRun → List Mesh
saved_in (Ok j) = checkpoints j.mesh (done_in j)
saved_in (Err reason) = []

abbrev pub saved_by_then : Result Job NotRun → ℕ → ℕ
saved_by_then (Ok j) k = length (checkpoints j.mesh (take k (done_in j)))
saved_by_then (Err reason) k = 0

-- the command after the first k, which are done, needs this
pub record NeedsAfter (what : Resource) (k : ℕ) (m : Mesh) (lines : List Line) : Type 0 where
  pub line : Line
  pub rest : List Line
  pub reached : k ≤ length (done m lines)
  pub next : drop k lines ≡ line ∷ rest
  pub wants : needs line.command ≡ what

-- memory may be wanting after the first k commands: before all of them, or at one that needs it
abbrev pub MayWant : Result Job NotRun → ℕ → Type 0
MayWant (Ok j) k = (k ≡ 0) ⊎ NeedsAfter TheMemory k j.mesh j.lines
MayWant (Err reason) k = k ≡ 0

-- the disk may fail at the command after the first k, which is a checkpoint
abbrev pub MayFail : Result Job NotRun → ℕ → Type 0
MayFail (Ok j) k = NeedsAfter TheDisk k j.mesh j.lines
MayFail (Err reason) k = ⊥

-- a text that want of memory, or a fault of the disk at a restart or at a checkpoint, ends
abbrev pub MayEnd : Option Asked → Result Job NotRun → Type 0 → List ℕ → Type 0
MayEnd asked job Broken text =
    ((k : ℕ) × MayWant job k × (text ≡ first_texts job k ++ memory_line))
    ⊎ (Broken × ((IsRestart asked × (text ≡ disk_line)) ⊎ ((k : ℕ) × MayFail job k × (text ≡ first_texts job k ++ disk_line))))

-- a text that the run would have printed: the plain answer's, or what want of memory, a fault of the source where it is read, or one of the
-- disk ends
abbrev pub MayPrint : Option Asked → Result Job NotRun → Type 0 → Type 0 → List ℕ → Type 0
MayPrint asked job Unread Broken text = (text ≡ (answer_of job).text) ⊎ ((ReadsSource asked × Unread × (text ≡ read_line)) ⊎ MayEnd asked job Broken text)

-- the sink took the first bytes of a text that the run would have printed
abbrev pub TookPart : Option Asked → Result Job NotRun → Type 0 → Type 0 → Option (List ℕ) → Option (List ℕ) → Type 0
TookPart asked job Unread Broken before after = (text : List ℕ) × MayPrint asked job Unread Broken text × TakesPrefix before text after

-- the sink took the texts of the first commands, and then the line that says that memory is wanting
abbrev pub TookBeforeMemory : Result Job NotRun → Option (List ℕ) → Option (List ℕ) → Type 0
TookBeforeMemory job before after = (k : ℕ) × MayWant job k × Takes before (first_texts job k ++ memory_line) after

-- the sink took the line that says that the disk failed: alone at a restart, where the disk was read at most (Kept), or after the texts of
-- the commands before a checkpoint
abbrev pub TookBeforeFault : Option Asked → Result Job NotRun → Type 0 → Option (List ℕ) → Option (List ℕ) → Type 0
TookBeforeFault asked job Kept before after =
    (IsRestart asked × Kept × Takes before disk_line after) ⊎ ((k : ℕ) × MayFail job k × Takes before (first_texts job k ++ disk_line) after)

-- R holds at each command of the run that is done
abbrev pub AlongRun : (Mesh → Command → Mesh → Type 0) → Result Job NotRun → Type 0
AlongRun R (Ok j) = AtEachCommand R j.mesh (done_in j)
AlongRun R (Err reason) = Unit {0}

-- what the disk holds is damaged
abbrev pub IsDamagedIn : Held Mesh BadImage → Type 0
IsDamagedIn Nothing = ⊥
IsDamagedIn (DamagedA bad) = Unit {0}
IsDamagedIn (DamagedB bad) = Unit {0}
IsDamagedIn (Found m) = ⊥

-- the answers of runs that leave the disk's areas as they were
abbrev pub KeepsOff : Status → Type 0
KeepsOff status = (status ≡ Words) ⊎ ((status ≡ ReadFault) ⊎ ((status ≡ NoCheckpoint) ⊎ ((status ≡ Damaged) ⊎ (status ≡ Script))))

-- no line of the job is a checkpoint
abbrev pub SavesNothing : Result Job NotRun → Type 0
SavesNothing (Ok j) = All (λ line. needs line.command ≢ TheDisk) j.lines
SavesNothing (Err reason) = Unit {0}
