-- What the clauses of the program say follows from how its run ended.
use Rattle.std.proofs.Common.{◌≡◌, ◌≢◌, ℕ, Bool, true, false, if◌then◌else◌, ◌<◌, ◌≤◌, ◌+◌, ◌++◌, ◌⊎◌, List, Option, Some, None, Result, Ok, Err, inl, inr, refl, sym, ap, subst, ◌∙◌, arith, IfSome, length, drop, length-append}
use Rattle.mesh_model.specs.Language.Commands.{PlainScript}
use Rattle.amr_engine.specs.Built.{is_built}
use Rattle.mesh_model.specs.Language.Grammar.{Fault, script_of}
use Rattle.mesh_model.specs.Fields.Plain.{Mesh}
use Rattle.mesh_model.specs.Images.Held.{DamagedA, DamagedB, Found, Held, Nothing, held}
use Rattle.std.specs.Prelude.{nat_lt}
use Rattle.mesh_model.specs.Run.Runs.{Refused, texts}
use Rattle.mesh_model.specs.declared.images.BadImage.{BadImage}
use Rattle.mesh_model.specs.declared.language.script.Declared.{Declared}
use Rattle.outside_io.specs.Areas.{Areas}
use Rattle.outside_io.specs.Moved.{Rose, Takes, TakesPrefix}
use Rattle.amr_engine.specs.Stopping.{Written, WrotePart}
use Rattle.mesh_model.specs.declared.run.stops.Refusal as stops
use Rattle.mesh_model.specs.declared.run.stops.Refusal.TheVariants as why
use Rattle.mesh_model.specs.Fields.VariableNames.{VariableNames}
use Rattle.amr_program.specs.declared.status.Status.{Status}
use Rattle.amr_program.specs.declared.status.Status.TheVariants as status
use Rattle.amr_program.specs.declared.not_run.NotRun.{NotRun}
use Rattle.amr_program.specs.declared.not_run.NotRun.TheVariants as reasons
use Rattle.amr_program.specs.declared.words.Asked.{Asked}
use Rattle.amr_program.specs.declared.words.Start.{Start}
use Rattle.amr_program.specs.declared.words.Start.TheVariants.{New, Restart, Sample}
use Rattle.amr_program.specs.Answer.{IsAccepted, IsAnswer, IsDamagedIn, IsRestart, IsStoppedWith, IsTold, IsToldAt, IsUnrunWith, Job, KeepsOff, MayEnd, MayFail, ReadsAt, ReadsSource, TookBeforeFault, TookBeforeMemory, TookPart, answer_of, count_in, done_in, ending, first_texts, held_in, job_at, job_by, job_from, job_of, most_read, restarted, script_at, script_by, status_of, status_unrun, stop_in}
use Rattle.amr_program.specs.Words.{asked_in}
use Rattle.amr_program.specs.Lasting.{DiskRun, EndsAfter, EndsWanting, HasLine, IsOr, TookBetween, reach}
use Rattle.amr_program.specs.Lines.{disk_line, memory_line, read_line, words_line}
use Rattle.amr_program.specs.Outcome.{BeginsAt, ByBytes, ByWords, Came, Ended, LastsAt, OfJob, Outcome, Source, left_at}
use Rattle.amr_program.proofs.Coming.{at_first, firsts_short, refused_came}
use Rattle.amr_program.proofs.Commands.{cut_line, took_part}
use Rattle.std.proofs.Math.Seq.{take-length}

-- ---- facts of a value that may be there

pub always : {A : Type 0} (o : Option A) (P : A → Type 0) → ((x : A) → P x) → IfSome o P
always None P h = tt
always (Some x) P h = h x

pub carried : {A : Type 0} (o : Option A) (P Q : A → Type 0) → IfSome o P → ((x : A) → P x → Q x) → IfSome o Q
carried None P Q h f = tt
carried (Some x) P Q h f = f x h

-- ---- statuses

-- the statuses of a job that is run to its end or to a refused command
of_run : Status → Bool
of_run status.Done = true
of_run status.Words = false
of_run status.Script = false
of_run status.Stopped = true
of_run status.Level = true
of_run status.ReadFault = false
of_run status.WriteFault = false
of_run status.DiskFault = false
of_run status.Damaged = false
of_run status.NoCheckpoint = false
of_run status.OutOfMemory = false

-- those of what is not run
of_unrun : Status → Bool
of_unrun status.Done = false
of_unrun status.Words = true
of_unrun status.Script = true
of_unrun status.Stopped = false
of_unrun status.Level = false
of_unrun status.ReadFault = false
of_unrun status.WriteFault = false
of_unrun status.DiskFault = false
of_unrun status.Damaged = true
of_unrun status.NoCheckpoint = true
of_unrun status.OutOfMemory = false

stops_with : (why : stops.Refusal) → of_run (status_of why) ≡ true
unfolding of_run
stops_with (why.Level stop) = refl
stops_with other = refl

ends_with : (names : VariableNames) (o : Option Refused) → of_run (ending names o).status ≡ true
unfolding of_run
ends_with names None = refl
ends_with names (Some refused) = stops_with refused.why

unrun_with : (reason : NotRun) → of_unrun (status_unrun reason) ≡ true
unfolding of_unrun
unrun_with reasons.Words = refl
unrun_with reasons.NoCheckpoint = refl
unrun_with (reasons.Damaged area bad) = refl
unrun_with (reasons.Fault line reason) = refl
unrun_with reasons.NotBuilt = refl

both : {b : Bool} → b ≡ true → b ≡ false → ⊥
both t f = let odd : true ≡ false = sym t ∙ f in cc

-- an answer that has the status of no job that is run tells of none
unrun_by : (job : Result Job NotRun) (result kind : Status) → result ≡ (answer_of job).status → result ≡ kind → of_run kind ≡ false → IsUnrunWith kind job
unrun_by (Ok j) result kind is e never = absurd (both (subst (λ s. of_run s ≡ true) (sym is ∙ e) (ends_with j.mesh.names (stop_in j))) never)
unrun_by (Err reason) result kind is e never = sym is ∙ e

-- and one that has that of a refused command tells of one
stopped_by : (names : VariableNames) (o whole : Option Refused) (kind : Status) → whole ≡ o → (ending names o).status ≡ kind → kind ≢ status.Done → (refused : Refused) × (whole ≡ Some refused) × (status_of refused.why ≡ kind)
stopped_by names None whole kind e is other = absurd (other (sym is))
stopped_by names (Some refused) whole kind e is other = (refused, e, is)

stopped_with : (job : Result Job NotRun) (result kind : Status) → result ≡ (answer_of job).status → result ≡ kind → kind ≢ status.Done → of_unrun kind ≡ false → IsStoppedWith kind job
stopped_with (Ok j) result kind is e other never = stopped_by j.mesh.names (stop_in j) (stop_in j) kind refl (sym is ∙ e) other
stopped_with (Err reason) result kind is e other never = absurd (both (subst (λ s. of_unrun s ≡ true) (sym is ∙ e) (unrun_with reason)) never)

not_answer : (job : Result Job NotRun) (result kind : Status) → result ≡ (answer_of job).status → result ≡ kind → of_run kind ≡ false → of_unrun kind ≡ false → ⊥
not_answer (Ok j) result kind is e never nor = both (subst (λ s. of_run s ≡ true) (sym is ∙ e) (ends_with j.mesh.names (stop_in j))) never
not_answer (Err reason) result kind is e never nor = both (subst (λ s. of_unrun s ≡ true) (sym is ∙ e) (unrun_with reason)) nor

done_by : (job : Result Job NotRun) → IsAccepted job → (answer_of job).status ≡ status.Done
done_by (Ok j) none = ap (λ o. (ending j.mesh.names o).status) none
done_by (Err reason) none = absurd none

false_not : ◌≡◌ {A = Bool} false true → ⊥
false_not e = cc e

-- ---- what keeps a job from being run

from_unrun_by : (built : Bool) (m : Mesh) (s : PlainScript) (kind : Status) → IsUnrunWith kind (if built then Ok (record { mesh = m; lines = s.lines }) else Err reasons.NotBuilt) → kind ≡ status.Script
from_unrun_by true m s kind is = absurd is
from_unrun_by false m s kind is = sym is

from_unrun : (asked : Asked) (from : PlainScript → Mesh) (read : Result PlainScript Fault) (kind : Status) → IsUnrunWith kind (job_from asked from read) → kind ≡ status.Script
from_unrun asked from (Ok s) kind is = from_unrun_by (is_built s asked.ranks asked.workers) (from s) s kind is
from_unrun asked from (Err fault) kind is = sym is

module _ (asked : Asked) (says : Option Declared → Result PlainScript Fault) where
  taken_words : (start : Start) (h : Held Mesh BadImage) → IsUnrunWith status.Words (job_at start asked h says) → ⊥
  taken_words New h is = cc (from_unrun asked _ _ _ is)
  taken_words (Sample seed) h is = cc (from_unrun asked _ _ _ is)
  taken_words Restart Nothing is = cc is
  taken_words Restart (DamagedA bad) is = cc is
  taken_words Restart (DamagedB bad) is = cc is
  taken_words Restart (Found m) is = cc (from_unrun asked _ _ _ is)

  nothing_held : (start : Start) (h : Held Mesh BadImage) → IsUnrunWith status.NoCheckpoint (job_at start asked h says) → (start ≡ Restart) × (h ≡ Nothing)
  nothing_held New h is = absurd (cc (from_unrun asked _ _ _ is))
  nothing_held (Sample seed) h is = absurd (cc (from_unrun asked _ _ _ is))
  nothing_held Restart Nothing is = (refl, refl)
  nothing_held Restart (DamagedA bad) is = absurd (cc is)
  nothing_held Restart (DamagedB bad) is = absurd (cc is)
  nothing_held Restart (Found m) is = absurd (cc (from_unrun asked _ _ _ is))

  damaged_held : (start : Start) (h : Held Mesh BadImage) → IsUnrunWith status.Damaged (job_at start asked h says) → (start ≡ Restart) × IsDamagedIn h
  damaged_held New h is = absurd (cc (from_unrun asked _ _ _ is))
  damaged_held (Sample seed) h is = absurd (cc (from_unrun asked _ _ _ is))
  damaged_held Restart Nothing is = absurd (cc is)
  damaged_held Restart (DamagedA bad) is = (refl, tt)
  damaged_held Restart (DamagedB bad) is = (refl, tt)
  damaged_held Restart (Found m) is = absurd (cc (from_unrun asked _ _ _ is))

  -- a job is by what the disk tells
  by_told : (start : Start) (told : Option Areas) (h : Held Mesh BadImage) → IsToldAt start told → IfSome told (λ areas. h ≡ held areas.a areas.b) → job_at start asked h says ≡ job_at start asked (held_in told) says
  by_told New told h is known = refl
  by_told (Sample seed) told h is known = refl
  by_told Restart None h is known = absurd (false_not is)
  by_told Restart (Some areas) h is known = ap (λ x. restarted asked x says) known

lasts_calm : (job : Result Job NotRun) (k : ℕ) (d : DiskRun) → LastsAt job k d → d.calm
lasts_calm (Ok j) k d lasts = lasts.calm
lasts_calm (Err reason) k d lasts = lasts.0

begins_rose : (job : Result Job NotRun) (k : ℕ) (d : DiskRun) → BeginsAt job k d → d.rose
begins_rose (Ok j) k d begins = begins.rose
begins_rose (Err reason) k d begins = absurd begins

read_none : of_run status.ReadFault ≡ false
unfolding of_run
read_none = refl

read_nor : of_unrun status.ReadFault ≡ false
unfolding of_unrun
read_nor = refl

write_none : of_run status.WriteFault ≡ false
unfolding of_run
write_none = refl

write_nor : of_unrun status.WriteFault ≡ false
unfolding of_unrun
write_nor = refl

disk_none : of_run status.DiskFault ≡ false
unfolding of_run
disk_none = refl

disk_nor : of_unrun status.DiskFault ≡ false
unfolding of_unrun
disk_nor = refl

memory_none : of_run status.OutOfMemory ≡ false
unfolding of_run
memory_none = refl

memory_nor : of_unrun status.OutOfMemory ≡ false
unfolding of_unrun
memory_nor = refl

words_none : of_run status.Words ≡ false
unfolding of_run
words_none = refl

script_none : of_run status.Script ≡ false
unfolding of_run
script_none = refl

damaged_none : of_run status.Damaged ≡ false
unfolding of_run
damaged_none = refl

checkpoint_none : of_run status.NoCheckpoint ≡ false
unfolding of_run
checkpoint_none = refl

stopped_nor : of_unrun status.Stopped ≡ false
unfolding of_unrun
stopped_nor = refl

level_nor : of_unrun status.Level ≡ false
unfolding of_unrun
level_nor = refl

-- ---- what comes of a job

between : (a c : Option (List ℕ)) (least : ℕ) (text : List ℕ) → least ≤ length text → Takes a text c → TookBetween least (length text) text a c
between None c least text le takes = tt
between (Some bytes) c least text le takes = (length text, le, omega arith, takes ∙ ap (λ t. Some (bytes ++ t)) (sym (take-length text)))

module _ (job : Result Job NotRun) (result : Status) (w : Written) (d : DiskRun) where
  came_answer : Came job result w d → ¬ d.rose → ¬ Rose w.faults w.new_faults → result ≢ status.OutOfMemory → IsAnswer (answer_of job) result w.before w.after
  came_answer (inl a) firm calm fed = record { status_is = a.status_is; text_is = a.wrote.takes }
  came_answer (inr (inl a)) firm calm fed = absurd (fed a.status_is)
  came_answer (inr (inr (inl a))) firm calm fed = absurd (firm (begins_rose job a.commands d a.disk))
  came_answer (inr (inr (inr a))) firm calm fed = absurd (calm a.rose)

  came_unrun : (kind : Status) → of_run kind ≡ false → kind ≢ status.OutOfMemory → kind ≢ status.DiskFault → kind ≢ status.WriteFault → Came job result w d → result ≡ kind → IsUnrunWith kind job
  came_unrun kind never fed firm whole (inl a) is = unrun_by job result kind a.status_is is never
  came_unrun kind never fed firm whole (inr (inl a)) is = absurd (fed (sym is ∙ a.status_is))
  came_unrun kind never fed firm whole (inr (inr (inl a))) is = absurd (firm (sym is ∙ a.status_is))
  came_unrun kind never fed firm whole (inr (inr (inr a))) is = absurd (whole (sym is ∙ a.status_is))

  came_stopped : (kind : Status) → kind ≢ status.Done → of_unrun kind ≡ false → kind ≢ status.OutOfMemory → kind ≢ status.DiskFault → kind ≢ status.WriteFault → Came job result w d → result ≡ kind → IsStoppedWith kind job
  came_stopped kind other never fed firm whole (inl a) is = stopped_with job result kind a.status_is is other never
  came_stopped kind other never fed firm whole (inr (inl a)) is = absurd (fed (sym is ∙ a.status_is))
  came_stopped kind other never fed firm whole (inr (inr (inl a))) is = absurd (firm (sym is ∙ a.status_is))
  came_stopped kind other never fed firm whole (inr (inr (inr a))) is = absurd (whole (sym is ∙ a.status_is))

  -- no job ends so
  came_never : (kind : Status) → of_run kind ≡ false → of_unrun kind ≡ false → kind ≢ status.OutOfMemory → kind ≢ status.DiskFault → kind ≢ status.WriteFault → Came job result w d → result ≡ kind → ⊥
  came_never kind never nor fed firm whole (inl a) is = not_answer job result kind a.status_is is never nor
  came_never kind never nor fed firm whole (inr (inl a)) is = fed (sym is ∙ a.status_is)
  came_never kind never nor fed firm whole (inr (inr (inl a))) is = firm (sym is ∙ a.status_is)
  came_never kind never nor fed firm whole (inr (inr (inr a))) is = whole (sym is ∙ a.status_is)

  came_broken : Came job result w d → result ≡ status.DiskFault → d.rose
  came_broken (inl a) is = absurd (not_answer job result _ a.status_is is disk_none disk_nor)
  came_broken (inr (inl a)) is = absurd (cc (sym is ∙ a.status_is))
  came_broken (inr (inr (inl a))) is = begins_rose job a.commands d a.disk
  came_broken (inr (inr (inr a))) is = absurd (cc (sym is ∙ a.status_is))

  came_faulty : Came job result w d → ¬ d.calm → ¬ Rose w.faults w.new_faults → (result ≡ status.DiskFault) × (k : ℕ) × MayFail job k × Takes w.before (first_texts job k ++ disk_line) w.after
  came_faulty (inl a) moved calm = absurd (moved (lasts_calm job (count_in job) d a.disk))
  came_faulty (inr (inl a)) moved calm = absurd (moved (lasts_calm job a.commands d a.disk))
  came_faulty (inr (inr (inl a))) moved calm = (a.status_is, a.commands, a.fails, a.wrote.takes)
  came_faulty (inr (inr (inr a))) moved calm = absurd (calm a.rose)

  came_starved : Came job result w d → result ≡ status.OutOfMemory → TookBeforeMemory job w.before w.after
  came_starved (inl a) is = absurd (not_answer job result _ a.status_is is memory_none memory_nor)
  came_starved (inr (inl a)) is = (a.commands, a.wants, a.wrote.takes)
  came_starved (inr (inr (inl a))) is = absurd (cc (sym is ∙ a.status_is))
  came_starved (inr (inr (inr a))) is = absurd (cc (sym is ∙ a.status_is))

  came_cut : Came job result w d → result ≡ status.WriteFault → Rose w.faults w.new_faults
  came_cut (inl a) is = absurd (not_answer job result _ a.status_is is write_none write_nor)
  came_cut (inr (inl a)) is = absurd (cc (sym is ∙ a.status_is))
  came_cut (inr (inr (inl a))) is = absurd (cc (sym is ∙ a.status_is))
  came_cut (inr (inr (inr a))) is = a.rose

  came_whole : Came job result w d → w.faults < w.new_faults → result ≡ status.WriteFault
  came_whole (inl a) more = let same = a.wrote.calm in absurd (omega arith)
  came_whole (inr (inl a)) more = let same = a.wrote.calm in absurd (omega arith)
  came_whole (inr (inr (inl a))) more = let same = a.wrote.calm in absurd (omega arith)
  came_whole (inr (inr (inr a))) more = a.status_is

  came_complete : Came job result w d → ¬ d.rose → ¬ Rose w.faults w.new_faults → IsAccepted job → (result ≡ status.Done) ⊎ (result ≡ status.OutOfMemory)
  came_complete (inl a) firm calm accepted = inl (a.status_is ∙ done_by job accepted)
  came_complete (inr (inl a)) firm calm accepted = inr a.status_is
  came_complete (inr (inr (inl a))) firm calm accepted = absurd (firm (begins_rose job a.commands d a.disk))
  came_complete (inr (inr (inr a))) firm calm accepted = absurd (calm a.rose)

  -- the runs that leave the areas end otherwise
  no_end : (kind : Status) → kind ≢ status.Words → kind ≢ status.ReadFault → kind ≢ status.NoCheckpoint → kind ≢ status.Damaged → kind ≢ status.Script → result ≡ kind → KeepsOff result → ⊥
  no_end kind a b c e f is (inl h) = a (sym is ∙ h)
  no_end kind a b c e f is (inr (inl h)) = b (sym is ∙ h)
  no_end kind a b c e f is (inr (inr (inl h))) = c (sym is ∙ h)
  no_end kind a b c e f is (inr (inr (inr (inl h)))) = e (sym is ∙ h)
  no_end kind a b c e f is (inr (inr (inr (inr h)))) = f (sym is ∙ h)

  all_taken : (of : Result Job NotRun) (k : ℕ) (line : List ℕ) → Takes w.before (first_texts of k ++ line) w.after → HasLine of k line w.before w.after
  all_taken of k line takes = between w.before w.after (length (first_texts of k)) (first_texts of k ++ line) (let long = length-append (first_texts of k) line in omega arith) takes

  if_short : (b : Bool) (x y z : ℕ) → x ≤ z → y ≤ z → (if b then x else y) ≤ z
  if_short true x y z p q = p
  if_short false x y z p q = q

  reach_short : (of : Result Job NotRun) (k : ℕ) → reach of k ≤ length (answer_of of).text
  reach_short (Ok j) k =
      let first = firsts_short j.mesh (done_in j) (k + 1) in
      let all = length-append (texts j.mesh (done_in j)) (ending j.mesh.names (stop_in j)).text in
      let whole = (answer_of (Ok j)).text in
      let some : length (first_texts (Ok j) (k + 1)) ≤ length whole = omega arith in
      if_short (nat_lt k (count_in (Ok j))) (length (first_texts (Ok j) (k + 1))) (length whole) (length whole) some (omega arith)
  reach_short (Err reason) k =
      let whole = (answer_of (Err reason)).text in
      if_short (nat_lt k 0) 0 (length whole) (length whole) (omega arith) (omega arith)

  came_part : (asked : Option Asked) → Came job result w d → result ≡ status.WriteFault → (text : List ℕ) × ((text ≡ (answer_of job).text) ⊎ MayEnd asked job d.rose text) × TakesPrefix w.before text w.after
  came_part asked (inl a) is = absurd (not_answer job result _ a.status_is is write_none write_nor)
  came_part asked (inr (inl a)) is = absurd (cc (sym is ∙ a.status_is))
  came_part asked (inr (inr (inl a))) is = absurd (cc (sym is ∙ a.status_is))
  came_part asked (inr (inr (inr a))) is = elim a.at [
    | inl cut ↦ ((answer_of job).text, inl refl, took_part w.before w.after _ _ (answer_of job).text (reach_short job a.commands) cut.0.took)
    | inr other ↦ elim other [
      | inl line ↦ (first_texts job a.commands ++ memory_line, inr (inl (a.commands, line.0, refl)), took_part w.before w.after _ _ _ (omega arith) line.1)
      | inr line ↦ (first_texts job a.commands ++ disk_line, inr (inr (begins_rose job a.commands d line.2, inr (a.commands, line.0, refl))), took_part w.before w.after _ _ _ (omega arith) line.1)
    ]
  ]

  -- where it ended, and what the disk went through
  came_ends : (asked : Option Asked) (unread : Type 0) → Came job result w d → (k : ℕ) × EndsAfter asked job k result unread d.rose d.untouched w.before w.after × (LastsAt job k d ⊎ BeginsAt job k d)
  came_ends asked unread (inl a) = (count_in job, inr (inr (inl (refl, a.status_is, a.wrote.takes))), inl a.disk)
  came_ends asked unread (inr (inl a)) = (a.commands, inr (inr (inr (inr (inl (inl a.status_is, a.wants, all_taken job a.commands memory_line a.wrote.takes))))), inl a.disk)
  came_ends asked unread (inr (inr (inl a))) = (a.commands, inr (inr (inr (inr (inr (inl a.status_is, begins_rose job a.commands d a.disk, a.fails, all_taken job a.commands disk_line a.wrote.takes))))), inr a.disk)
  came_ends asked unread (inr (inr (inr a))) = elim a.at [
    | inl cut ↦ (a.commands, inr (inr (inr (inl (a.status_is, cut.0)))), inl cut.1)
    | inr other ↦ elim other [
      | inl line ↦ (a.commands, inr (inr (inr (inr (inl (inr a.status_is, line.0, line.1))))), inl line.2)
      | inr line ↦ (a.commands, inr (inr (inr (inr (inr (inr a.status_is, begins_rose job a.commands d line.2, line.0, line.1))))), inr line.2)
    ]
  ]

  -- they are of no run
  unrun_of : KeepsOff result → of_run result ≡ false
  unfolding of_run
  unrun_of (inl e) = ap of_run e
  unrun_of (inr (inl e)) = ap of_run e
  unrun_of (inr (inr (inl e))) = ap of_run e
  unrun_of (inr (inr (inr (inl e)))) = ap of_run e
  unrun_of (inr (inr (inr (inr e)))) = ap of_run e

  left_alone : (of : Result Job NotRun) → LastsAt of (count_in of) d → of_run result ≡ false → result ≡ (answer_of of).status → d.untouched
  left_alone (Ok j) lasts never is = absurd (both (subst (λ x. of_run x ≡ true) (sym is) (ends_with j.mesh.names (stop_in j))) never)
  left_alone (Err reason) lasts never is = lasts.1

  -- a run that did not run its job left the areas
  came_untouched : Came job result w d → KeepsOff result → d.untouched
  came_untouched (inl a) off = left_alone job a.disk (unrun_of off) a.status_is
  came_untouched (inr (inl a)) off = absurd (no_end status.OutOfMemory (λ e. cc e) (λ e. cc e) (λ e. cc e) (λ e. cc e) (λ e. cc e) a.status_is off)
  came_untouched (inr (inr (inl a))) off = absurd (no_end status.DiskFault (λ e. cc e) (λ e. cc e) (λ e. cc e) (λ e. cc e) (λ e. cc e) a.status_is off)
  came_untouched (inr (inr (inr a))) off = absurd (no_end status.WriteFault (λ e. cc e) (λ e. cc e) (λ e. cc e) (λ e. cc e) (λ e. cc e) a.status_is off)

-- ---- a run from its words on

none_asked : {asked : Option Asked} {a : Asked} → asked ≡ None → asked ≡ Some a → ⊥
none_asked none some = let both : None ≡ Some _ = sym none ∙ some in cc both

-- a line before any command
line_alone : (a c : Option (List ℕ)) (job : Result Job NotRun) (line : List ℕ) → TookBetween 0 (length line) line a c → HasLine job 0 line a c
line_alone a c (Ok j) line took = took
line_alone a c (Err reason) line took = took

after_no_text : (job : Result Job NotRun) (line : List ℕ) → line ≡ first_texts job 0 ++ line
after_no_text (Ok j) line = refl
after_no_text (Err reason) line = refl

module _ (words : List (List ℕ)) (told : Option Areas) (result : Status) (s : Source) (w : Written) (d : DiskRun) where
  -- what is so of the job, where the bytes of its script are known
  abbrev OnJob : (Option Asked → Result Job NotRun → Type 0) → Type 0
  OnJob P = IfSome (script_by (asked_in words) s.before) (λ script. P (asked_in words) (job_of (asked_in words) (held_in told) script))

  abbrev Unread : Type 0
  Unread = Rose s.faults s.new_faults

  -- of the job that was run
  on_bytes : (asked : Asked) (taken : asked_in words ≡ Some asked) (o : ByBytes asked told result s w d) (of : OfJob asked told o.bytes result w d) (P : Option Asked → Result Job NotRun → Type 0) →
      IsTold (asked_in words) told → P (Some asked) (job_of (Some asked) of.holds o.bytes) → OnJob P
  on_bytes asked taken o of P is_told p =
      let is : IsToldAt asked.start told = subst (λ a. IsTold a told) taken is_told in
      subst (λ a. IfSome (script_by a s.before) (λ script. P a (job_of a (held_in told) script))) (sym taken)
      (carried (script_at asked.start s.before) _ _ o.script
      (λ script h. subst (P (Some asked)) (by_told asked (λ given. script_of given o.bytes) asked.start told of.holds is of.known ∙ ap (λ b. job_of (Some asked) (held_in told) b) h) p))

  -- of words that are refused
  on_words : asked_in words ≡ None → (P : Option Asked → Result Job NotRun → Type 0) → P None (Err reasons.Words) → OnJob P
  on_words refused P p = subst (λ a. IfSome (script_by a s.before) (λ script. P a (job_of a (held_in told) script))) (sym refused) p

  -- of every job
  on_all : (P : Option Asked → Result Job NotRun → Type 0) → ((job : Result Job NotRun) → P (asked_in words) job) → OnJob P
  on_all P each = always (script_by (asked_in words) s.before) _ (λ script. each (job_of (asked_in words) (held_in told) script))

  words_came : ByWords words result s w d → Came (Err reasons.Words) result w d
  words_came o = refused_came reasons.Words result w d o.disk_calm o.untouched (inl o.ended)

  is_restart : {asked : Asked} → asked_in words ≡ Some asked → asked.start ≡ Restart → IsRestart (asked_in words)
  is_restart taken is = subst IsRestart (sym taken) is

  does_read : {asked : Asked} → asked_in words ≡ Some asked → ReadsAt asked.start → ReadsSource (asked_in words)
  does_read taken reads = subst ReadsSource (sym taken) reads

  -- a line with another status
  ended_not : (ends kind : Status) (line : List ℕ) → Ended ends line result w → kind ≢ ends → kind ≢ status.WriteFault → result ≡ kind → ⊥
  ended_not ends kind line (inl e) other whole is = other (sym is ∙ e.0)
  ended_not ends kind line (inr e) other whole is = whole (sym is ∙ e.0)

  -- a line that was not written whole
  ended_cut : (ends : Status) (line : List ℕ) → Ended ends line result w → ends ≢ status.WriteFault → result ≡ status.WriteFault → WrotePart line w
  ended_cut ends line (inl e) other is = absurd (other (sym e.0 ∙ is))
  ended_cut ends line (inr e) other is = e.1

  -- a line that was written whole
  ended_whole : (ends : Status) (line : List ℕ) → Ended ends line result w → ¬ Rose w.faults w.new_faults → (result ≡ ends) × Takes w.before line w.after
  ended_whole ends line (inl e) calm = (e.0, e.1.takes)
  ended_whole ends line (inr e) calm = absurd (calm e.1.rose)

  ended_or : (ends : Status) (line : List ℕ) → Ended ends line result w → IsOr ends result
  ended_or ends line (inl e) = inl e.0
  ended_or ends line (inr e) = inr e.0

  -- as much of the line as was written
  ended_between : (ends : Status) (line : List ℕ) → Ended ends line result w → TookBetween 0 (length line) line w.before w.after
  ended_between ends line (inl e) = between w.before w.after 0 line (omega arith) e.1.takes
  ended_between ends line (inr e) = cut_line w.before w.after line e.1.takes

  ended_told : (ends : Status) (line : List ℕ) → Ended ends line result w → w.faults < w.new_faults → result ≡ status.WriteFault
  ended_told ends line (inl e) more = let same = e.1.calm in absurd (omega arith)
  ended_told ends line (inr e) more = e.0

  pub answer : Outcome words told result s w d → IsTold (asked_in words) told → ¬ Unread → ¬ d.rose → ¬ Rose w.faults w.new_faults → result ≢ status.OutOfMemory → OnJob (λ a job. IsAnswer (answer_of job) result w.before w.after)
  answer (inl o) is_told quiet firm calm fed = on_words o.refused (λ a job. IsAnswer (answer_of job) result w.before w.after) (came_answer (Err reasons.Words) result w d (words_came o) firm calm fed)
  answer (inr (inl o)) is_told quiet firm calm fed = absurd (fed (ended_whole _ _ o.ended calm).0)
  answer (inr (inr (asked, taken, inl o))) is_told quiet firm calm fed = absurd (quiet o.rose)
  answer (inr (inr (asked, taken, inr (inl o)))) is_told quiet firm calm fed = absurd (fed (ended_whole _ _ o.ended calm).0)
  answer (inr (inr (asked, taken, inr (inr o)))) is_told quiet firm calm fed = elim o.from [
    | inl u ↦ absurd (firm u.rose)
    | inr of ↦ on_bytes asked taken o of (λ a job. IsAnswer (answer_of job) result w.before w.after) is_told (came_answer _ result w d of.came firm calm fed)
  ]

  -- what is told of a status that jobs alone have
  of_job : (kind : Status) (P : Option Asked → Result Job NotRun → Type 0) → kind ≢ status.ReadFault → kind ≢ status.OutOfMemory → kind ≢ status.DiskFault → kind ≢ status.WriteFault
      → ((a : Option Asked) (job : Result Job NotRun) → Came job result w d → result ≡ kind → P a job) → Outcome words told result s w d → result ≡ kind → IsTold (asked_in words) told → OnJob P
  of_job kind P not_read not_memory not_disk not_write each (inl o) is is_told = on_words o.refused P (each None (Err reasons.Words) (words_came o) is)
  of_job kind P not_read not_memory not_disk not_write each (inr (inl o)) is is_told = absurd (ended_not _ kind _ o.ended not_memory not_write is)
  of_job kind P not_read not_memory not_disk not_write each (inr (inr (asked, taken, inl o))) is is_told = absurd (ended_not _ kind _ o.ended not_read not_write is)
  of_job kind P not_read not_memory not_disk not_write each (inr (inr (asked, taken, inr (inl o)))) is is_told = absurd (ended_not _ kind _ o.ended not_memory not_write is)
  of_job kind P not_read not_memory not_disk not_write each (inr (inr (asked, taken, inr (inr o)))) is is_told = elim o.from [
    | inl u ↦ absurd (ended_not _ kind _ u.ended not_disk not_write is)
    | inr of ↦ on_bytes asked taken o of P is_told (each (Some asked) (job_of (Some asked) of.holds o.bytes) of.came is)
  ]

  pub script_refused : Outcome words told result s w d → result ≡ status.Script → IsTold (asked_in words) told → OnJob (λ a job. IsUnrunWith status.Script job)
  script_refused = of_job status.Script (λ a job. IsUnrunWith status.Script job) (λ e. cc e) (λ e. cc e) (λ e. cc e) (λ e. cc e) (λ a job came is. came_unrun job result w d status.Script script_none (λ e. cc e) (λ e. cc e) (λ e. cc e) came is)

  pub stopped : Outcome words told result s w d → result ≡ status.Stopped → IsTold (asked_in words) told → OnJob (λ a job. IsStoppedWith status.Stopped job)
  stopped = of_job status.Stopped (λ a job. IsStoppedWith status.Stopped job) (λ e. cc e) (λ e. cc e) (λ e. cc e) (λ e. cc e) (λ a job came is. came_stopped job result w d status.Stopped (λ e. cc e) stopped_nor (λ e. cc e) (λ e. cc e) (λ e. cc e) came is)

  pub level : Outcome words told result s w d → result ≡ status.Level → IsTold (asked_in words) told → OnJob (λ a job. IsStoppedWith status.Level job)
  level = of_job status.Level (λ a job. IsStoppedWith status.Level job) (λ e. cc e) (λ e. cc e) (λ e. cc e) (λ e. cc e) (λ a job came is. came_stopped job result w d status.Level (λ e. cc e) level_nor (λ e. cc e) (λ e. cc e) (λ e. cc e) came is)

  -- the status of a job that is not run
  unrun : (kind : Status) → of_run kind ≡ false → kind ≢ status.ReadFault → kind ≢ status.OutOfMemory → kind ≢ status.DiskFault → kind ≢ status.WriteFault → Outcome words told result s w d → result ≡ kind →
      ((asked_in words ≡ None) × (kind ≡ status.Words)) ⊎ ((asked : Asked) × (h : Held Mesh BadImage) × (says : (Option Declared → Result PlainScript Fault)) × (asked_in words ≡ Some asked) × IfSome told (λ areas. h ≡ held areas.a areas.b) × IsUnrunWith kind (job_by (Some asked) h says))
  unrun kind never not_read not_memory not_disk not_write (inl o) is = inl (o.refused, sym (came_unrun _ result w d kind never not_memory not_disk not_write (words_came o) is))
  unrun kind never not_read not_memory not_disk not_write (inr (inl o)) is = absurd (ended_not _ kind _ o.ended not_memory not_write is)
  unrun kind never not_read not_memory not_disk not_write (inr (inr (asked, taken, inl o))) is = absurd (ended_not _ kind _ o.ended not_read not_write is)
  unrun kind never not_read not_memory not_disk not_write (inr (inr (asked, taken, inr (inl o)))) is = absurd (ended_not _ kind _ o.ended not_memory not_write is)
  unrun kind never not_read not_memory not_disk not_write (inr (inr (asked, taken, inr (inr o)))) is = elim o.from [
    | inl u ↦ absurd (ended_not _ kind _ u.ended not_disk not_write is)
    | inr of ↦ inr (asked, of.holds, (λ given. script_of given o.bytes), taken, of.known, came_unrun _ result w d kind never not_memory not_disk not_write of.came is)
  ]

  pub words_refused : Outcome words told result s w d → result ≡ status.Words → asked_in words ≡ None
  words_refused o is = elim (unrun status.Words words_none (λ e. cc e) (λ e. cc e) (λ e. cc e) (λ e. cc e) o is) [
    | inl e ↦ e.0
    | inr u ↦ absurd (taken_words u.0 u.2 (u.0).start u.1 u.5)
  ]

  pub no_checkpoint : Outcome words told result s w d → result ≡ status.NoCheckpoint → IsRestart (asked_in words) × IfSome told (λ areas. held areas.a areas.b ≡ Nothing)
  no_checkpoint o is = elim (unrun status.NoCheckpoint checkpoint_none (λ e. cc e) (λ e. cc e) (λ e. cc e) (λ e. cc e) o is) [
    | inl e ↦ absurd (cc e.1)
    | inr u ↦ (let none = nothing_held u.0 u.2 (u.0).start u.1 u.5 in (is_restart u.3 none.0, carried told _ _ u.4 (λ areas h. sym h ∙ none.1)))
  ]

  pub damaged : Outcome words told result s w d → result ≡ status.Damaged → IsRestart (asked_in words) × IfSome told (λ areas. IsDamagedIn (held areas.a areas.b))
  damaged o is = elim (unrun status.Damaged damaged_none (λ e. cc e) (λ e. cc e) (λ e. cc e) (λ e. cc e) o is) [
    | inl e ↦ absurd (cc e.1)
    | inr u ↦ (let bad = damaged_held u.0 u.2 (u.0).start u.1 u.5 in (is_restart u.3 bad.0, carried told _ _ u.4 (λ areas h. subst IsDamagedIn h bad.1)))
  ]

  pub words_alone : Outcome words told result s w d → asked_in words ≡ None → (result ≡ status.Words) ⊎ ((result ≡ status.WriteFault) ⊎ (result ≡ status.OutOfMemory))
  words_alone (inl o) none = elim o.ended [ inl e ↦ inl e.0 | inr e ↦ inr (inl e.0) ]
  words_alone (inr (inl o)) none = elim o.ended [ inl e ↦ inr (inr e.0) | inr e ↦ inr (inl e.0) ]
  words_alone (inr (inr (asked, taken, came))) none = absurd (none_asked none taken)

  pub read_fault : Outcome words told result s w d → result ≡ status.ReadFault → Unread
  read_fault (inl o) is = absurd (came_never _ result w d status.ReadFault read_none read_nor (λ e. cc e) (λ e. cc e) (λ e. cc e) (words_came o) is)
  read_fault (inr (inl o)) is = absurd (ended_not _ status.ReadFault _ o.ended (λ e. cc e) (λ e. cc e) is)
  read_fault (inr (inr (asked, taken, inl o))) is = o.rose
  read_fault (inr (inr (asked, taken, inr (inl o)))) is = absurd (ended_not _ status.ReadFault _ o.ended (λ e. cc e) (λ e. cc e) is)
  read_fault (inr (inr (asked, taken, inr (inr o)))) is = elim o.from [
    | inl u ↦ absurd (ended_not _ status.ReadFault _ u.ended (λ e. cc e) (λ e. cc e) is)
    | inr of ↦ absurd (came_never _ result w d status.ReadFault read_none read_nor (λ e. cc e) (λ e. cc e) (λ e. cc e) of.came is)
  ]

  pub read_fault_told : Outcome words told result s w d → s.faults < s.new_faults → ¬ Rose w.faults w.new_faults → (result ≡ status.ReadFault) × Takes w.before read_line w.after
  read_fault_told (inl o) more calm = let same = o.calm in absurd (omega arith)
  read_fault_told (inr (inl o)) more calm = let same = o.calm in absurd (omega arith)
  read_fault_told (inr (inr (asked, taken, inl o))) more calm = ended_whole _ _ o.ended calm
  read_fault_told (inr (inr (asked, taken, inr (inl o)))) more calm = let same = o.calm in absurd (omega arith)
  read_fault_told (inr (inr (asked, taken, inr (inr o)))) more calm = let same = o.calm in absurd (omega arith)

  pub disk_fault : Outcome words told result s w d → result ≡ status.DiskFault → d.rose
  disk_fault (inl o) is = came_broken _ result w d (words_came o) is
  disk_fault (inr (inl o)) is = absurd (ended_not _ status.DiskFault _ o.ended (λ e. cc e) (λ e. cc e) is)
  disk_fault (inr (inr (asked, taken, inl o))) is = absurd (ended_not _ status.DiskFault _ o.ended (λ e. cc e) (λ e. cc e) is)
  disk_fault (inr (inr (asked, taken, inr (inl o)))) is = absurd (ended_not _ status.DiskFault _ o.ended (λ e. cc e) (λ e. cc e) is)
  disk_fault (inr (inr (asked, taken, inr (inr o)))) is = elim o.from [ inl u ↦ u.rose | inr of ↦ came_broken _ result w d of.came is ]

  pub disk_fault_told : Outcome words told result s w d → ¬ d.calm → ¬ Rose w.faults w.new_faults → (result ≡ status.DiskFault) × (IsTold (asked_in words) told → OnJob (λ a job. TookBeforeFault a job d.untouched w.before w.after))
  disk_fault_told (inl o) moved calm = let f = came_faulty (Err reasons.Words) result w d (words_came o) moved calm in absurd f.2
  disk_fault_told (inr (inl o)) moved calm = absurd (moved o.disk_calm)
  disk_fault_told (inr (inr (asked, taken, inl o))) moved calm = absurd (moved o.disk_calm)
  disk_fault_told (inr (inr (asked, taken, inr (inl o)))) moved calm = absurd (moved o.disk_calm)
  disk_fault_told (inr (inr (asked, taken, inr (inr o)))) moved calm = elim o.from [
    | inl u ↦ (let e = ended_whole _ _ u.ended calm in (e.0, λ is_told. on_all (λ a job. TookBeforeFault a job d.untouched w.before w.after) (λ job. inl (is_restart taken u.restart, u.untouched, e.1))))
    | inr of ↦ (let f = came_faulty _ result w d of.came moved calm in (f.0, λ is_told. on_bytes asked taken o of (λ a job. TookBeforeFault a job d.untouched w.before w.after) is_told (inr (f.1, f.2, f.3))))
  ]

  pub write_fault : Outcome words told result s w d → result ≡ status.WriteFault → Rose w.faults w.new_faults
  write_fault (inl o) is = came_cut _ result w d (words_came o) is
  write_fault (inr (inl o)) is = (ended_cut _ _ o.ended (λ e. cc e) is).rose
  write_fault (inr (inr (asked, taken, inl o))) is = (ended_cut _ _ o.ended (λ e. cc e) is).rose
  write_fault (inr (inr (asked, taken, inr (inl o)))) is = (ended_cut _ _ o.ended (λ e. cc e) is).rose
  write_fault (inr (inr (asked, taken, inr (inr o)))) is = elim o.from [ inl u ↦ (ended_cut _ _ u.ended (λ e. cc e) is).rose | inr of ↦ came_cut _ result w d of.came is ]

  pub write_fault_told : Outcome words told result s w d → w.faults < w.new_faults → result ≡ status.WriteFault
  write_fault_told (inl o) more = came_whole _ result w d (words_came o) more
  write_fault_told (inr (inl o)) more = ended_told _ _ o.ended more
  write_fault_told (inr (inr (asked, taken, inl o))) more = ended_told _ _ o.ended more
  write_fault_told (inr (inr (asked, taken, inr (inl o)))) more = ended_told _ _ o.ended more
  write_fault_told (inr (inr (asked, taken, inr (inr o)))) more = elim o.from [ inl u ↦ ended_told _ _ u.ended more | inr of ↦ came_whole _ result w d of.came more ]

  pub complete : Outcome words told result s w d → IsTold (asked_in words) told → ¬ Unread → ¬ d.rose → ¬ Rose w.faults w.new_faults → OnJob (λ a job. IsAccepted job → (result ≡ status.Done) ⊎ (result ≡ status.OutOfMemory))
  complete (inl o) is_told quiet firm calm = on_words o.refused (λ a job. IsAccepted job → (result ≡ status.Done) ⊎ (result ≡ status.OutOfMemory)) (came_complete _ result w d (words_came o) firm calm)
  complete (inr (inl o)) is_told quiet firm calm = on_all (λ a job. IsAccepted job → (result ≡ status.Done) ⊎ (result ≡ status.OutOfMemory)) (λ job accepted. inr (ended_whole _ _ o.ended calm).0)
  complete (inr (inr (asked, taken, inl o))) is_told quiet firm calm = absurd (quiet o.rose)
  complete (inr (inr (asked, taken, inr (inl o)))) is_told quiet firm calm = on_all (λ a job. IsAccepted job → (result ≡ status.Done) ⊎ (result ≡ status.OutOfMemory)) (λ job accepted. inr (ended_whole _ _ o.ended calm).0)
  complete (inr (inr (asked, taken, inr (inr o)))) is_told quiet firm calm = elim o.from [
    | inl u ↦ absurd (firm u.rose)
    | inr of ↦ on_bytes asked taken o of (λ a job. IsAccepted job → (result ≡ status.Done) ⊎ (result ≡ status.OutOfMemory)) is_told (came_complete _ result w d of.came firm calm)
  ]

  -- a line that a run ends with was written in part
  line_part : (line : List ℕ) → WrotePart line w → ((job : Result Job NotRun) → (ReadsSource (asked_in words) × Unread × (line ≡ read_line)) ⊎ MayEnd (asked_in words) job d.rose line) → OnJob (λ a job. TookPart a job Unread d.rose w.before w.after)
  line_part line e may = on_all (λ a job. TookPart a job Unread d.rose w.before w.after) (λ job. (line, inr (may job), e.takes))

  memory_part : WrotePart memory_line w → OnJob (λ a job. TookPart a job Unread d.rose w.before w.after)
  memory_part e = line_part memory_line e (λ job. inr (inl (0, at_first job, after_no_text job memory_line)))

  taken_part : (asked : Option Asked) (job : Result Job NotRun) → (text : List ℕ) × ((text ≡ (answer_of job).text) ⊎ MayEnd asked job d.rose text) × TakesPrefix w.before text w.after → TookPart asked job Unread d.rose w.before w.after
  taken_part asked job (text, inl e, takes) = (text, inl e, takes)
  taken_part asked job (text, inr end, takes) = (text, inr (inr end), takes)

  pub part : Outcome words told result s w d → result ≡ status.WriteFault → IsTold (asked_in words) told → OnJob (λ a job. TookPart a job Unread d.rose w.before w.after)
  part (inl o) is is_told = on_words o.refused (λ a job. TookPart a job Unread d.rose w.before w.after) (words_line, inl refl, (ended_cut _ _ o.ended (λ e. cc e) is).takes)
  part (inr (inl o)) is is_told = memory_part (ended_cut _ _ o.ended (λ e. cc e) is)
  part (inr (inr (asked, taken, inl o))) is is_told = line_part read_line (ended_cut _ _ o.ended (λ e. cc e) is) (λ job. inl (does_read taken o.reads, o.rose, refl))
  part (inr (inr (asked, taken, inr (inl o)))) is is_told = memory_part (ended_cut _ _ o.ended (λ e. cc e) is)
  part (inr (inr (asked, taken, inr (inr o)))) is is_told = elim o.from [
    | inl u ↦ line_part disk_line (ended_cut _ _ u.ended (λ e. cc e) is) (λ job. inr (inr (u.rose, inl (is_restart taken u.restart, refl))))
    | inr of ↦ on_bytes asked taken o of (λ a job. TookPart a job Unread d.rose w.before w.after) is_told (taken_part (Some asked) _ (came_part _ result w d (Some asked) of.came is))
  ]

  memory_alone : Ended status.OutOfMemory memory_line result w → result ≡ status.OutOfMemory → OnJob (λ a job. TookBeforeMemory job w.before w.after)
  memory_alone (inl e) is = on_all (λ a job. TookBeforeMemory job w.before w.after) (λ job. (0, at_first job, subst (λ t. Takes w.before t w.after) (after_no_text job memory_line) e.1.takes))
  memory_alone (inr e) is = absurd (cc (sym is ∙ e.0))

  pub memory : Outcome words told result s w d → result ≡ status.OutOfMemory → IsTold (asked_in words) told → OnJob (λ a job. TookBeforeMemory job w.before w.after)
  memory (inl o) is is_told = on_words o.refused (λ a job. TookBeforeMemory job w.before w.after) (came_starved _ result w d (words_came o) is)
  memory (inr (inl o)) is is_told = memory_alone o.ended is
  memory (inr (inr (asked, taken, inl o))) is is_told = absurd (ended_not _ status.OutOfMemory _ o.ended (λ e. cc e) (λ e. cc e) is)
  memory (inr (inr (asked, taken, inr (inl o)))) is is_told = memory_alone o.ended is
  memory (inr (inr (asked, taken, inr (inr o)))) is is_told = elim o.from [
    | inl u ↦ absurd (ended_not _ status.OutOfMemory _ u.ended (λ e. cc e) (λ e. cc e) is)
    | inr of ↦ on_bytes asked taken o of (λ a job. TookBeforeMemory job w.before w.after) is_told (came_starved _ result w d of.came is)
  ]

  -- what a script was read from has no longer its first bytes
  first_taken : (start : Start) → ReadsAt start → IfSome s.before (λ bytes. s.after ≡ Some (left_at start bytes)) → IfSome s.before (λ bytes. s.after ≡ Some (drop most_read bytes))
  first_taken New reads left = left
  first_taken Restart reads left = left
  first_taken (Sample seed) reads left = absurd reads

  was_taken : {asked : Asked} → asked_in words ≡ Some asked → ReadsSource (asked_in words) → IfSome s.before (λ bytes. s.after ≡ Some (left_at asked.start bytes)) →
      IfSome s.before (λ bytes. (s.after ≡ Some (drop most_read bytes)) ⊎ (EndsWanting result w.before w.after × (s.after ≡ s.before)))
  was_taken {asked} taken reads left = carried s.before _ _ (first_taken asked.start (subst ReadsSource taken reads) left) (λ bytes is. inl is)

  pub read : Outcome words told result s w d → ReadsSource (asked_in words) → ¬ Unread → IfSome s.before (λ bytes. (s.after ≡ Some (drop most_read bytes)) ⊎ (EndsWanting result w.before w.after × (s.after ≡ s.before)))
  read (inl o) reads quiet = absurd (subst ReadsSource o.refused reads)
  read (inr (inl o)) reads quiet = always s.before _ (λ bytes. inr ((ended_or _ _ o.ended, ended_between _ _ o.ended), o.same))
  read (inr (inr (asked, taken, inl o))) reads quiet = absurd (quiet o.rose)
  read (inr (inr (asked, taken, inr (inl o)))) reads quiet = was_taken taken reads o.left
  read (inr (inr (asked, taken, inr (inr o)))) reads quiet = was_taken taken reads o.left

  -- the runs that leave the areas
  pub untouched : Outcome words told result s w d → KeepsOff result ⊎ ((s.faults < s.new_faults) ⊎ (asked_in words ≡ None)) → d.untouched
  untouched (inl o) off = o.untouched
  untouched (inr (inl o)) off = o.untouched
  untouched (inr (inr (asked, taken, inl o))) off = o.untouched
  untouched (inr (inr (asked, taken, inr (inl o)))) off = o.untouched
  untouched (inr (inr (asked, taken, inr (inr o)))) (inr (inl more)) = let same = o.calm in absurd (omega arith)
  untouched (inr (inr (asked, taken, inr (inr o)))) (inr (inr none)) = absurd (none_asked none taken)
  untouched (inr (inr (asked, taken, inr (inr o)))) (inl off) = elim o.from [ inl u ↦ u.untouched | inr of ↦ came_untouched _ result w d of.came off ]

  -- where a run ended, and what the disk went through
  abbrev pub Ends : Option Asked → Result Job NotRun → Type 0
  Ends asked job = (k : ℕ) × EndsAfter asked job k result Unread d.rose d.untouched w.before w.after × (LastsAt job k d ⊎ (BeginsAt job k d ⊎ ((k ≡ 0) × d.untouched)))

  more : (asked : Option Asked) {job : Result Job NotRun} → (k : ℕ) × EndsAfter asked job k result Unread d.rose d.untouched w.before w.after × (LastsAt job k d ⊎ BeginsAt job k d) → Ends asked job
  more asked (k, at, inl lasts) = (k, at, inl lasts)
  more asked (k, at, inr begins) = (k, at, inr (inl begins))

  memory_ends : Ended status.OutOfMemory memory_line result w → d.untouched → OnJob Ends
  memory_ends e untouched = on_all Ends (λ job. (0, inr (inr (inr (inr (inl (ended_or _ _ e, at_first job, line_alone w.before w.after job memory_line (ended_between _ _ e)))))), inr (inr (refl, untouched))))

  pub ends : Outcome words told result s w d → IsTold (asked_in words) told → OnJob Ends
  ends (inl o) is_told = on_words o.refused Ends (more None (came_ends _ result w d None Unread (words_came o)))
  ends (inr (inl o)) is_told = memory_ends o.ended o.untouched
  ends (inr (inr (asked, taken, inl o))) is_told = on_all Ends (λ job. (0, inl (refl, ended_or _ _ o.ended, o.rose, o.untouched, ended_between _ _ o.ended), inr (inr (refl, o.untouched))))
  ends (inr (inr (asked, taken, inr (inl o)))) is_told = memory_ends o.ended o.untouched
  ends (inr (inr (asked, taken, inr (inr o)))) is_told = elim o.from [
    | inl u ↦ on_all Ends (λ job. (0, inr (inl (refl, is_restart taken u.restart, ended_or _ _ u.ended, u.rose, u.untouched, ended_between _ _ u.ended)), inr (inr (refl, u.untouched))))
    | inr of ↦ on_bytes asked taken o of Ends is_told (more (Some asked) (came_ends _ result w d (Some asked) Unread of.came))
  ]
