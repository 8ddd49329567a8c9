-- The ways in which the parts of a run end.
use Rattle.std.specs.Prelude.{◌≡◌, ℕ, ◌+◌, ◌<◌, List, ◌++◌, length, Option, Some, None, Result, Ok, Err, ◌⊎◌, IfSome, take, drop}
use Rattle.amr_engine.specs.declared.cause.StoppedBy.{StoppedBy}
use Rattle.amr_engine.specs.declared.cause.StoppedBy.TheVariants as by
use Rattle.amr_engine.specs.Stopping.{IsUntouched, Written, Wrote, WrotePart}
use Rattle.mesh_model.specs.declared.images.BadImage.{BadImage}
use Rattle.mesh_model.specs.declared.language.script.Line.{Line}
use Rattle.mesh_model.specs.Fields.Plain.{Mesh}
use Rattle.mesh_model.specs.Images.Held.{Held, held}
use Rattle.mesh_model.specs.Run.Runs.{TheDisk, TheMemory, checkpoints, done, stop, texts}
use Rattle.mesh_model.specs.Run.StopTexts.{stop_line}
use Rattle.mesh_model.specs.Fields.VariableNames.{VariableNames}
use Rattle.outside_io.specs.Areas.{Areas}
use Rattle.outside_io.specs.Moved.{Rose}
use Rattle.amr_program.specs.declared.status.Status.{Status}
use Rattle.amr_program.specs.declared.status.Status.TheVariants as status
use Rattle.amr_program.specs.declared.not_run.NotRun.{NotRun}
use Rattle.amr_program.specs.declared.not_run.NotRun.TheVariants as reasons
use Rattle.amr_program.specs.declared.words.Asked.{Asked}
use Rattle.amr_program.specs.declared.words.Start.{Start}
use Rattle.amr_program.specs.declared.words.Start.TheVariants.{New, Restart, Sample}
use Rattle.amr_program.specs.Answer.{Job, MayFail, MayWant, NeedsAfter, ReadsAt, answer_of, count_in, first_texts, job_of, most_read, script_at, status_of, status_unrun}
use Rattle.amr_program.specs.Words.{asked_in}
use Rattle.amr_program.specs.Lasting.{DiskRun, HasLine, IsCut, TookBetween}
use Rattle.amr_program.specs.Lines.{disk_line, memory_line, not_run_line, read_line, words_line}

-- the text was written and this is the status, or the sink failed
abbrev pub Ended : Status → List ℕ → Status → Written → Type 0
Ended ends text result w = ((result ≡ ends) × Wrote text w) ⊎ ((result ≡ status.WriteFault) × WrotePart text w)

-- the line of this needs memory
abbrev pub NeedsRoom : NotRun → Type 0
NeedsRoom reasons.Words = ⊥
NeedsRoom reasons.NoCheckpoint = ⊥
NeedsRoom (reasons.Damaged area bad) = Unit {0}
NeedsRoom (reasons.Fault line reason) = ⊥
NeedsRoom reasons.NotBuilt = ⊥

-- the line says why nothing is run, or that memory for it is wanting
abbrev pub RefusedWith : NotRun → Status → Written → Type 0
RefusedWith reason result w = Ended (status_unrun reason) (not_run_line reason) result w ⊎ (NeedsRoom reason × Ended status.OutOfMemory memory_line result w)

-- ---- commands

-- the first k commands were done, and their meshes saved
pub record WereDone (k : ℕ) (m : Mesh) (lines : List Line) (d : DiskRun) : Type 0 where
  pub calm : d.calm
  pub saved : d.saved (checkpoints m (take k (done m lines)))

-- so they were, and the next, which is a checkpoint, was begun
pub record WereBegun (k : ℕ) (m : Mesh) (lines : List Line) (d : DiskRun) : Type 0 where
  pub rose : d.rose
  pub begun : d.begun (checkpoints m (take (k + 1) (done m lines)))
  pub one : length (checkpoints m (take (k + 1) (done m lines))) ≡ length (checkpoints m (take k (done m lines))) + 1

-- the sink failed at the command after the first k, within its text
pub record BrokeOff (k : ℕ) (m : Mesh) (lines : List Line) (w : Written) : Type 0 where
  pub there : k < length (done m lines)
  pub took : TookBetween (length (texts m (take k (done m lines)))) (length (texts m (take (k + 1) (done m lines)))) (texts m (done m lines)) w.before w.after
  pub rose : Rose w.faults w.new_faults

-- how a run of commands stopped, at a line: the command there is refused; the sink failed; the disk failed at a checkpoint; or memory was
-- wanting at a command
abbrev pub RunStops : StoppedBy → ℕ → Mesh → List Line → Written → DiskRun → Type 0
RunStops (by.Mesh why) line m lines w d = (stop m lines ≡ Some (record { line = line; why = why })) × Wrote (texts m (done m lines)) w × WereDone (length (done m lines)) m lines d
RunStops by.Sink line m lines w d = (k : ℕ) × BrokeOff k m lines w × WereDone k m lines d
RunStops by.Disk line m lines w d = (k : ℕ) × NeedsAfter TheDisk k m lines × Wrote (texts m (take k (done m lines))) w × WereBegun k m lines d
RunStops by.Memory line m lines w d = (k : ℕ) × NeedsAfter TheMemory k m lines × Wrote (texts m (take k (done m lines))) w × WereDone k m lines d

-- what is written of a stop: the line of the refusal, nothing after a fault of the sink, or the line that says that the disk failed or that
-- memory is wanting
abbrev pub Stopped : StoppedBy → ℕ → VariableNames → Status → Written → Type 0
Stopped (by.Mesh why) line names result w = Ended (status_of why) (stop_line names line why) result w
Stopped by.Sink line names result w = (result ≡ status.WriteFault) × IsUntouched w
Stopped by.Disk line names result w = Ended status.DiskFault disk_line result w
Stopped by.Memory line names result w = Ended status.OutOfMemory memory_line result w

-- ---- a job, or what keeps it from being run

-- the disk is as the first k commands left it; where nothing is run it was read at most
abbrev pub LastsAt : Result Job NotRun → ℕ → DiskRun → Type 0
LastsAt (Ok j) k d = WereDone k j.mesh j.lines d
LastsAt (Err reason) k d = d.calm × d.untouched

abbrev pub BeginsAt : Result Job NotRun → ℕ → DiskRun → Type 0
BeginsAt (Ok j) k d = WereBegun k j.mesh j.lines d
BeginsAt (Err reason) k d = ⊥

-- the answer came, with all of its text
pub record Answered (job : Result Job NotRun) (result : Status) (w : Written) (d : DiskRun) : Type 0 where
  pub status_is : result ≡ (answer_of job).status
  pub wrote : Wrote (answer_of job).text w
  pub disk : LastsAt job (count_in job) d

-- memory was refused at a command, or before the first
pub record Starved (job : Result Job NotRun) (result : Status) (w : Written) (d : DiskRun) : Type 0 where
  pub status_is : result ≡ status.OutOfMemory
  pub commands : ℕ
  pub wants : MayWant job commands
  pub wrote : Wrote (first_texts job commands ++ memory_line) w
  pub disk : LastsAt job commands d

-- the disk failed at a checkpoint
pub record Broken (job : Result Job NotRun) (result : Status) (w : Written) (d : DiskRun) : Type 0 where
  pub status_is : result ≡ status.DiskFault
  pub commands : ℕ
  pub fails : MayFail job commands
  pub wrote : Wrote (first_texts job commands ++ disk_line) w
  pub disk : BeginsAt job commands d

-- where the sink failed: within the answer's text, or within the line that says that memory is wanting or that the disk failed
abbrev pub CutShort : Result Job NotRun → ℕ → Written → DiskRun → Type 0
CutShort job k w d =
    (IsCut job k w.before w.after × LastsAt job k d)
    ⊎ ((MayWant job k × HasLine job k memory_line w.before w.after × LastsAt job k d)
    ⊎ (MayFail job k × HasLine job k disk_line w.before w.after × BeginsAt job k d))

-- the sink failed
pub record Cut (job : Result Job NotRun) (result : Status) (w : Written) (d : DiskRun) : Type 0 where
  pub status_is : result ≡ status.WriteFault
  pub rose : Rose w.faults w.new_faults
  pub commands : ℕ
  pub at : CutShort job commands w d

-- what comes of a job, or of what keeps it from being run
abbrev pub Came : Result Job NotRun → Status → Written → DiskRun → Type 0
Came job result w d = Answered job result w d ⊎ (Starved job result w d ⊎ (Broken job result w d ⊎ Cut job result w d))

-- ---- a run from its words on

-- the source before and after, by the bytes that it has left and its faults
pub record Source : Type 0 where
  pub before : Option (List ℕ)
  pub after : Option (List ℕ)
  pub faults : ℕ
  pub new_faults : ℕ

-- the source at return: its first bytes were taken, or with a sample none
abbrev pub left_at : Start → List ℕ → List ℕ
left_at New bytes = drop most_read bytes
left_at Restart bytes = drop most_read bytes
left_at (Sample seed) bytes = bytes

abbrev pub WasRead : Start → Source → Type 0
WasRead start s = IfSome s.before (λ bytes. s.after ≡ Some (left_at start bytes))

-- the words were refused, and the source was not touched
pub record ByWords (words : List (List ℕ)) (result : Status) (s : Source) (w : Written) (d : DiskRun) : Type 0 where
  pub refused : asked_in words ≡ None
  pub calm : s.new_faults ≡ s.faults
  pub ended : Ended status.Words words_line result w
  pub untouched : d.untouched
  pub disk_calm : d.calm

-- memory to read the words was refused, and the source was not touched
pub record Wanting (result : Status) (s : Source) (w : Written) (d : DiskRun) : Type 0 where
  pub calm : s.new_faults ≡ s.faults
  pub same : s.after ≡ s.before
  pub ended : Ended status.OutOfMemory memory_line result w
  pub untouched : d.untouched
  pub disk_calm : d.calm

-- the source failed
pub record ByRead (start : Start) (result : Status) (s : Source) (w : Written) (d : DiskRun) : Type 0 where
  pub reads : ReadsAt start
  pub rose : Rose s.faults s.new_faults
  pub ended : Ended status.ReadFault read_line result w
  pub untouched : d.untouched
  pub disk_calm : d.calm

-- memory for the script was refused, and the bytes of the source were passed over
pub record ByMemory (start : Start) (result : Status) (s : Source) (w : Written) (d : DiskRun) : Type 0 where
  pub calm : s.new_faults ≡ s.faults
  pub left : WasRead start s
  pub ended : Ended status.OutOfMemory memory_line result w
  pub untouched : d.untouched
  pub disk_calm : d.calm

-- the disk failed at a restart
pub record Unheld (start : Start) (result : Status) (w : Written) (d : DiskRun) : Type 0 where
  pub restart : start ≡ Restart
  pub rose : d.rose
  pub ended : Ended status.DiskFault disk_line result w
  pub untouched : d.untouched

-- there is a job, by what the disk holds, or none
pub record OfJob (asked : Asked) (told : Option Areas) (script : List ℕ) (result : Status) (w : Written) (d : DiskRun) : Type 0 where
  pub holds : Held Mesh BadImage
  pub known : IfSome told (λ areas. holds ≡ held areas.a areas.b)
  pub came : Came (job_of (Some asked) holds script) result w d

-- what comes of the bytes of the script
abbrev pub FromBytes : Asked → Option Areas → List ℕ → Status → Written → DiskRun → Type 0
FromBytes asked told script result w d = Unheld asked.start result w d ⊎ OfJob asked told script result w d

-- the script was had
pub record ByBytes (asked : Asked) (told : Option Areas) (result : Status) (s : Source) (w : Written) (d : DiskRun) : Type 0 where
  pub calm : s.new_faults ≡ s.faults
  pub left : WasRead asked.start s
  pub bytes : List ℕ
  pub script : IfSome (script_at asked.start s.before) (λ script. bytes ≡ script)
  pub from : FromBytes asked told bytes result w d

-- what comes of words that are taken
abbrev pub ByAsked : Asked → Option Areas → Status → Source → Written → DiskRun → Type 0
ByAsked asked told result s w d = ByRead asked.start result s w d ⊎ (ByMemory asked.start result s w d ⊎ ByBytes asked told result s w d)

abbrev pub Outcome : List (List ℕ) → Option Areas → Status → Source → Written → DiskRun → Type 0
Outcome words told result s w d = ByWords words result s w d ⊎ (Wanting result s w d ⊎ ((asked : Asked) × (asked_in words ≡ Some asked) × ByAsked asked told result s w d))
