-- What comes of the parts of a run: of a script that was read, and of what keeps one from being run.
use Rattle.std.proofs.Common.{◌≡◌, ◌≢◌, ◌&&◌, ◌⊎◌, inl, inr, ℕ, Bool, true, false, if◌then◌else◌, All, List, [], ◌∷◌, Option, Some, None, IfSome, Result, Ok, Err, refl, sym, ap, subst, ◌∙◌}
use Rattle.std.specs.List.{list_all}
use Rattle.std.proofs.lemmas.Bool.{and_parts}
use Rattle.std.proofs.lemmas.List.Elements.{All-cons, All-nil}
use Rattle.std.specs.Prelude.{nat_le, option_copied}
use denote.Ref.{Bor}
use Rattle.outside_io.specs.Areas.{Areas}
use Rattle.check_format.specs.ReadImages.{IsRead, stored_in}
use Rattle.check_format.specs.declared.reading.images.Image.{Image}
use Rattle.check_format.proofs.Final.{read_is_image}
use Rattle.mesh_model.specs.Fields.Plain.{Mesh}
use Rattle.mesh_model.specs.Fields.Valid.{ValidMesh}
use Rattle.mesh_model.specs.Geometry.Limits.{IsShape}
use Rattle.mesh_model.specs.Images.Held.{Held, held}
use Rattle.mesh_model.specs.declared.images.BadImage.{BadImage}
use Rattle.mesh_model.specs.Images.Reading.{NamesFit}
use Rattle.mesh_model.specs.Language.Commands.{InLimits, PlainScript}
use Rattle.mesh_model.specs.Language.Grammar.{Fault, script_of}
use Rattle.mesh_model.specs.Run.Runs.{declared_in, first_mesh}
use Rattle.mesh_model.specs.declared.language.script.Declared.{Declared}
use Rattle.mesh_model.specs.declared.language.script.Line.{Line}
use Rattle.amr_engine.specs.Built.{IsBuiltLine, is_built, is_built_command}
use Rattle.amr_engine.specs.Stopping.{Written}
use Rattle.amr_program.specs.declared.status.Status.{Status}
use Rattle.amr_program.specs.declared.status.Status.TheVariants as status
use Rattle.amr_program.specs.declared.not_run.NotRun.{NotRun}
use Rattle.amr_program.specs.declared.not_run.NotRun.TheVariants as reasons
use Rattle.amr_program.specs.declared.words.Asked.{Asked}
use Rattle.amr_program.specs.declared.words.Start.{Start}
use Rattle.amr_program.specs.declared.words.Start.TheVariants.{New, Restart, Sample}
use Rattle.amr_program.specs.declared.origin.Origin.{Origin}
use Rattle.amr_program.specs.declared.origin.Origin.TheVariants as origins
use Rattle.amr_program.specs.Answer.{IsRestart, Job, SavesNothing, held_in, job_at, job_from, job_of, restarted, script_at, script_by, status_unrun}
use Rattle.amr_program.specs.Lasting.{DiskRun, disk_run}
use Rattle.amr_program.specs.Lines.{memory_line, not_run_line, words_line}
use Rattle.amr_program.specs.Origins.{CanBegin, begin_by, given_by, mesh_from, mesh_in}
use Rattle.amr_program.specs.Outcome.{Came, Ended, LastsAt, OfJob, RefusedWith}
use Rattle.amr_program.proofs.Beginning.{declared_read, limits_read}
use Rattle.amr_program.proofs.Coming.{refused_came, starved_first}
use Rattle.amr_program.proofs.Commands.{none_done}
use Rattle.amr_program.proofs.Keeping.{not_touched}

-- ---- lines that say why nothing is run

pub said : (reason is : NotRun) (s : Status) (line : List ℕ) (result : Status) (w : Written) → reason ≡ is → s ≡ status_unrun reason → line ≡ not_run_line is → Ended s line result w → RefusedWith reason result w
said reason is s line result w e status text ended =
    inl (subst (λ x. Ended x (not_run_line reason) result w) status (subst (λ l. Ended s l result w) (text ∙ ap not_run_line (sym e)) ended))

-- ---- what a built script is

pub built_lines : (s : PlainScript) (ranks workers : ℕ) → is_built s ranks workers ≡ true → All IsBuiltLine s.lines
unfolding is_built
built_lines s ranks workers h = each s.lines (and_parts (nat_le ranks 1 && nat_le workers 1) _ h).1
  where
    each : (lines : List Line) → list_all (λ line. is_built_command line.command) lines ≡ true → All IsBuiltLine lines
    each [] all = All-nil IsBuiltLine
    each (line ∷ lines) all = All-cons IsBuiltLine line lines (and_parts _ _ all).0 (each lines (and_parts _ _ all).1)

-- ---- where a run begins

pub read_is_valid : (im : Image) → IsRead im → ValidMesh (mesh_in im)
read_is_valid im is = (read_is_image is.bytes (stored_in im) is.are is.read).valid

-- what an image has declared is within the limits
given_limits : (im : Option Image) → IfSome im IsRead → IfSome (given_by im) InLimits
given_limits None is = tt
given_limits (Some im) is = limits_read im (read_is_valid im is) (subst NamesFit (ap (λ (d : Declared). d.names) (declared_read im)) (read_is_image is.bytes (stored_in im) is.are is.read).names)

pub read_is_limited : (im : Option Image) (given : Option (Bor Declared)) → option_copied given ≡ given_by im → IfSome im IsRead → IfSome given (λ d. InLimits d.now)
read_is_limited im given e is = limited_within given (subst (λ o. IfSome o InLimits) (sym e) (given_limits im is))
  where
    limited_within : (o : Option (Bor Declared)) → IfSome (option_copied o) InLimits → IfSome o (λ d. InLimits d.now)
    limited_within None h = tt
    limited_within (Some d) h = h

pub shape_fits : (o : Origin) → CanBegin o → IsShape (declared_in (mesh_from o)).shape
shape_fits (origins.Declared d) can = can.shape
shape_fits (origins.Image im) can = (read_is_valid im can).grid.shape

-- ---- what a script that was read comes to

module _ (asked : Asked) (im : Option Image) (bytes : List ℕ) (given : Option Declared) (is : given ≡ given_by im) where
  faulty_job : (f : Fault) → script_of given bytes ≡ Err f → job_from asked (begin_by im) (script_of (given_by im) bytes) ≡ Err (reasons.Fault f.line f.reason)
  faulty_job f e = ap (λ x. job_from asked (begin_by im) (script_of x bytes)) (sym is) ∙ ap (job_from asked (begin_by im)) e

  job_built : (s : PlainScript) (b : Bool) → script_of given bytes ≡ Ok s → is_built s asked.ranks asked.workers ≡ b →
      job_from asked (begin_by im) (script_of (given_by im) bytes) ≡ (if b then Ok (record { mesh = begin_by im s; lines = s.lines }) else Err reasons.NotBuilt)
  job_built s b e built =
      let made : Bool → Result Job NotRun = λ x. if x then Ok (record { mesh = begin_by im s; lines = s.lines }) else Err reasons.NotBuilt in
      ap (λ x. job_from asked (begin_by im) (script_of x bytes)) (sym is) ∙ ap (job_from asked (begin_by im)) e ∙ ap made built

  -- a job that is run, from where it begins
  pub job_run : (s : PlainScript) (o : Origin) (lines : List Line) → script_of given bytes ≡ Ok s → is_built s asked.ranks asked.workers ≡ true → begin_by im s ≡ mesh_from o → lines ≡ s.lines →
      job_from asked (begin_by im) (script_of (given_by im) bytes) ≡ Ok (record { mesh = mesh_from o; lines = lines })
  job_run s o lines e built begins same =
      let run : Mesh → List Line → Result Job NotRun = λ m ls. Ok (record { mesh = m; lines = ls }) in
      job_built s true e built ∙ ap (λ m. run m s.lines) begins ∙ ap (run (mesh_from o)) (sym same)

  pub job_saves : (P : Result Job NotRun → Type 0) (s : PlainScript) (o : Origin) (lines : List Line) → script_of given bytes ≡ Ok s → is_built s asked.ranks asked.workers ≡ true → begin_by im s ≡ mesh_from o → lines ≡ s.lines →
      P (Ok (record { mesh = mesh_from o; lines = lines })) → P (job_from asked (begin_by im) (script_of (given_by im) bytes))
  job_saves P s o lines e built begins same p = subst P (sym (job_run s o lines e built begins same)) p

  module _ {D : Type 0} (holds : D → Option Areas) (may_leave : D → Areas → Type 0) (moment : D → ℕ) (left_since : D → ℕ → Areas → Type 0) (faults : D → ℕ)
      (only_now : (disk : D) (c : Areas) → left_since disk (moment disk) c → may_leave disk c) (disk : D) where
    pub came_faulty : (f : Fault) → script_of given bytes ≡ Err f → (result : Status) (w : Written) → RefusedWith (reasons.Fault f.line f.reason) result w →
        Came (job_from asked (begin_by im) (script_of (given_by im) bytes)) result w (disk_run holds may_leave moment left_since faults disk disk)
    came_faulty f e result w refused =
        subst (λ j. Came j result w (disk_run holds may_leave moment left_since faults disk disk)) (sym (faulty_job f e))
        (refused_came (reasons.Fault f.line f.reason) result w (disk_run holds may_leave moment left_since faults disk disk) refl (not_touched holds may_leave moment left_since only_now disk) refused)

    pub came_unbuilt : (s : PlainScript) → script_of given bytes ≡ Ok s → is_built s asked.ranks asked.workers ≡ false → (result : Status) (w : Written) → RefusedWith reasons.NotBuilt result w →
        Came (job_from asked (begin_by im) (script_of (given_by im) bytes)) result w (disk_run holds may_leave moment left_since faults disk disk)
    came_unbuilt s e built result w refused =
        subst (λ j. Came j result w (disk_run holds may_leave moment left_since faults disk disk)) (sym (job_built s false e built))
        (refused_came reasons.NotBuilt result w (disk_run holds may_leave moment left_since faults disk disk) refl (not_touched holds may_leave moment left_since only_now disk) refused)

module _ {D : Type 0} (holds : D → Option Areas) (may_leave : D → Areas → Type 0) (moment : D → ℕ) (left_since : D → ℕ → Areas → Type 0) (faults : D → ℕ)
    (only_now : (disk : D) (c : Areas) → left_since disk (moment disk) c → may_leave disk c) (disk : D) where
  pub first_of : (job : Result Job NotRun) → LastsAt job 0 (disk_run holds may_leave moment left_since faults disk disk)
  first_of (Ok j) = none_done holds may_leave moment left_since faults only_now j.mesh j.lines disk
  first_of (Err reason) = (refl, not_touched holds may_leave moment left_since only_now disk)

  -- memory was refused before the first command
  pub came_wanting : (job : Result Job NotRun) (result : Status) (w : Written) → Ended status.OutOfMemory memory_line result w → Came job result w (disk_run holds may_leave moment left_since faults disk disk)
  came_wanting job result w ended = starved_first job result w (disk_run holds may_leave moment left_since faults disk disk) (first_of job) ended

-- ---- what comes of the bytes of the script

pub no_restart : (start : Start) → (start ≡ New) ⊎ ((seed : ℕ) × (start ≡ Sample seed)) → start ≢ Restart
no_restart start (inl is) = λ e. let odd : New ≡ Restart = sym is ∙ e in cc odd
no_restart start (inr is) = λ e. let odd : Sample is.0 ≡ Restart = sym is.1 ∙ e in cc odd

known_here : (told : Option Areas) → IfSome told (λ areas. held_in told ≡ held areas.a areas.b)
known_here None = tt
known_here (Some areas) = refl

turned : (told : Option Areas) (h : Held Mesh BadImage) → IfSome told (λ areas. held areas.a areas.b ≡ h) → IfSome told (λ areas. h ≡ held areas.a areas.b)
turned None h e = tt
turned (Some areas) h e = sym e

module _ (asked : Asked) (told : Option Areas) (script : List ℕ) (result : Status) (w : Written) (d : DiskRun) where
  -- a run that does not ask what the disk holds
  at_new : (start : Start) → start ≢ Restart → Came (job_from asked first_mesh (script_of None script)) result w d → Came (job_at start asked (held_in told) (λ given. script_of given script)) result w d
  at_new New other came = came
  at_new (Sample seed) other came = came
  at_new Restart other came = absurd (other refl)

  pub of_new : asked.start ≢ Restart → Came (job_from asked first_mesh (script_of None script)) result w d → OfJob asked told script result w d
  of_new other came = record { holds = held_in told; known = known_here told; came = at_new asked.start other came }

  pub of_restart : (h : Held Mesh BadImage) → asked.start ≡ Restart → IfSome told (λ areas. held areas.a areas.b ≡ h) → Came (restarted asked h (λ given. script_of given script)) result w d → OfJob asked told script result w d
  of_restart h is holds came = record {
    holds = h;
    known = turned told h holds;
    came = subst (λ s. Came (job_at s asked h (λ given. script_of given script)) result w d) (sym is) came;
  }

  -- so it is whatever the disk holds
  pub of_any : ((job : Result Job NotRun) → Came job result w d) → OfJob asked told script result w d
  of_any came = record { holds = held_in told; known = known_here told; came = came (job_of (Some asked) (held_in told) script) }

-- the line that refuses the words needs no memory
pub words_ended : (result : Status) (w : Written) → RefusedWith reasons.Words result w → Ended status.Words words_line result w
words_ended result w (inl e) = e
words_ended result w (inr e) = absurd e.0

-- a run that saves nothing leaves the disk alone
module _ (P : Type 0) (asked : Asked) (h : Held Mesh BadImage) (script : List ℕ) (idle : asked.start ≢ Restart → SavesNothing (job_from asked first_mesh (script_of None script)) → P) where
  idle_at : (start : Start) → asked.start ≡ start → asked.start ≢ Restart → SavesNothing (job_at start asked h (λ given. script_of given script)) → P
  idle_at New is other saves = idle other saves
  idle_at (Sample seed) is other saves = idle other saves
  idle_at Restart is other saves = absurd (other is)

pub idle_job : (said : Option Asked) (asked : Asked) (left : Option (List ℕ)) (script : List ℕ) (h : Held Mesh BadImage) (P : Type 0) → said ≡ Some asked → IfSome (script_at asked.start left) (λ whole. script ≡ whole) →
    (asked.start ≢ Restart → SavesNothing (job_from asked first_mesh (script_of None script)) → P) → ¬ IsRestart said → IfSome (script_by said left) (λ whole. SavesNothing (job_of said h whole) → P)
idle_job said asked left script h P is same idle other =
    let never : asked.start ≢ Restart = λ e. other (subst IsRestart (sym is) e) in
    subst (λ a. IfSome (script_by a left) (λ whole. SavesNothing (job_of a h whole) → P)) (sym is)
    (each (script_at asked.start left) same (λ whole e saves. idle_at P asked h script idle asked.start refl never (subst (λ b. SavesNothing (job_of (Some asked) h b)) (sym e) saves)))
  where
    each : (o : Option (List ℕ)) → IfSome o (λ whole. script ≡ whole) → ((whole : List ℕ) → script ≡ whole → SavesNothing (job_of (Some asked) h whole) → P) → IfSome o (λ whole. SavesNothing (job_of (Some asked) h whole) → P)
    each None is on = tt
    each (Some whole) is on = on whole is

-- words that are refused run nothing
pub idle_words : (said : Option Asked) (left : Option (List ℕ)) (h : Held Mesh BadImage) (P : Type 0) → P → IfSome (script_by said left) (λ whole. SavesNothing (job_of said h whole) → P)
idle_words said left h P p = each (script_by said left)
  where
    each : (o : Option (List ℕ)) → IfSome o (λ whole. SavesNothing (job_of said h whole) → P)
    each None = tt
    each (Some whole) = λ saves. p
