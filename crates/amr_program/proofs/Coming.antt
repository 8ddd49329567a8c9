-- What comes of a job, by how its run ended.
use Rattle.std.proofs.lemmas.Bool.{le-ltb, lt-ltb}
use Rattle.std.proofs.Common.{◌≡◌, ℕ, zero, suc, ◌∷◌, ◌+◌, ◌<◌, ◌≤◌, ◌++◌, List, [], Option, Some, None, Result, Ok, Err, length, take, inl, inr, refl, sym, ap, subst, ◌∙◌, arith, append-nil, length-append}
use Rattle.std.specs.Prelude.{if◌then◌else◌}
use Rattle.mesh_model.specs.declared.language.script.Line.{Line}
use Rattle.mesh_model.specs.declared.run.stops.Refusal as stops
use Rattle.mesh_model.specs.Run.StopTexts.{stop_line}
use Rattle.mesh_model.specs.Fields.Plain.{Mesh}
use Rattle.mesh_model.specs.Run.Runs.{done, mesh_after, stop, text_of, texts}
use Rattle.amr_engine.specs.declared.cause.StoppedBy.{StoppedBy}
use Rattle.amr_engine.specs.declared.cause.StoppedBy.TheVariants as by
use Rattle.amr_engine.specs.Stopping.{Written, Wrote}
use Rattle.outside_io.specs.Moved.{Rose, Takes, TakesPrefix}
use Rattle.outside_io.proofs.Moving.{takes_more}
use Rattle.amr_program.specs.declared.status.Status.{Status}
use Rattle.amr_program.specs.declared.status.Status.TheVariants as status
use Rattle.amr_program.specs.declared.not_run.NotRun.{NotRun}
use Rattle.amr_program.specs.Answer.{Job, MayFail, MayWant, answer_of, count_in, done_in, ending, first_texts, status_of, stop_in}
use Rattle.amr_program.specs.Lasting.{DiskRun, HasLine, TookBetween, reach}
use Rattle.amr_program.specs.Lines.{disk_line, memory_line, not_run_line}
use Rattle.amr_program.specs.Outcome.{BeginsAt, BrokeOff, Came, Ended, LastsAt, RefusedWith, RunStops, Stopped, WereDone}
use Rattle.std.proofs.Math.Seq.{take-length}
use Rattle.std.proofs.lemmas.List.{take-append-le}
use Rattle.amr_program.proofs.Commands.{cut_line, cut_within, wider}

pub nothing_taken : (a : Option (List ℕ)) → Takes a [] a
nothing_taken None = tt
nothing_taken (Some xs) = ap Some (sym (append-nil xs))

-- the first of some lines print no more than all
pub firsts_short : (m : Mesh) (lines : List Line) (n : ℕ) → length (texts m (take n lines)) ≤ length (texts m lines)
firsts_short m lines zero = omega arith
firsts_short m [] (suc n) = omega arith
firsts_short m (line ∷ lines) (suc n) =
    let rest = firsts_short (mesh_after m line.command) lines n in
    let one = length-append (text_of m line.command) (texts (mesh_after m line.command) (take n lines)) in
    let all = length-append (text_of m line.command) (texts (mesh_after m line.command) lines) in
    omega arith

module _ (job : Result Job NotRun) (k : ℕ) (result : Status) (a b c : Option (List ℕ)) (f g h : ℕ) (d : DiskRun) (before : Takes a (first_texts job k) b) (calm : g ≡ f) where
  -- what of the line was taken
  line_cut : (line : List ℕ) → TakesPrefix b line c → HasLine job k line a c
  line_cut line part = cut_within a b c (first_texts job k) line [] (first_texts job k ++ line) (sym (append-nil (first_texts job k ++ line))) before part

  -- memory was refused after the texts of the first commands
  pub came_starved : MayWant job k → LastsAt job k d → Ended status.OutOfMemory memory_line result (record { before = b; after = c; faults = g; new_faults = h }) → Came job result (record { before = a; after = c; faults = f; new_faults = h }) d
  came_starved wants disk (inl e) = inr (inl (record { status_is = e.0; commands = k; wants = wants; wrote = record { takes = takes_more a b c (first_texts job k) memory_line before e.1.takes; calm = e.1.calm ∙ calm }; disk = disk }))
  came_starved wants disk (inr e) = inr (inr (inr (record { status_is = e.0; rose = subst (λ n. Rose n h) calm e.1.rose; commands = k; at = inr (inl (wants, line_cut memory_line e.1.takes, disk)) })))

  -- the disk failed after them
  pub came_broken : MayFail job k → BeginsAt job k d → Ended status.DiskFault disk_line result (record { before = b; after = c; faults = g; new_faults = h }) → Came job result (record { before = a; after = c; faults = f; new_faults = h }) d
  came_broken fails disk (inl e) = inr (inr (inl (record { status_is = e.0; commands = k; fails = fails; wrote = record { takes = takes_more a b c (first_texts job k) disk_line before e.1.takes; calm = e.1.calm ∙ calm }; disk = disk })))
  came_broken fails disk (inr e) = inr (inr (inr (record { status_is = e.0; rose = subst (λ n. Rose n h) calm e.1.rose; commands = k; at = inr (inr (fails, line_cut disk_line e.1.takes, disk)) })))

no_texts : (job : Result Job NotRun) → first_texts job 0 ≡ []
no_texts (Ok j) = refl
no_texts (Err reason) = refl

-- memory may be wanting before the first command
pub at_first : (job : Result Job NotRun) → MayWant job 0
at_first (Ok j) = inl refl
at_first (Err reason) = refl

-- memory was refused before the first command
pub starved_first : (job : Result Job NotRun) (result : Status) (w : Written) (d : DiskRun) → LastsAt job 0 d → Ended status.OutOfMemory memory_line result w → Came job result w d
starved_first job result w d disk e = came_starved job 0 result w.before w.before w.after w.faults w.faults w.new_faults d (subst (λ t. Takes w.before t w.before) (sym (no_texts job)) (nothing_taken w.before)) refl (at_first job) disk e

-- nothing is run
pub refused_came : (reason : NotRun) (result : Status) (w : Written) (d : DiskRun) → d.calm → d.untouched → RefusedWith reason result w → Came (Err reason) result w d
refused_came reason result w d calm untouched (inl (inl e)) = inl (record { status_is = e.0; wrote = e.1; disk = (calm, untouched) })
refused_came reason result w d calm untouched (inl (inr e)) = inr (inr (inr (record { status_is = e.0; rose = e.1.rose; commands = 0; at = inl (record { reached = omega arith; took = cut_line w.before w.after (not_run_line reason) e.1.takes }, (calm, untouched)) })))
refused_came reason result w d calm untouched (inr e) = starved_first (Err reason) result w d (calm, untouched) e.1

-- ---- a job that is run

module _ (j : Job) (d : DiskRun) where
  all_texts : List ℕ
  all_texts = texts j.mesh (done_in j)

  whole_first : first_texts (Ok j) (count_in (Ok j)) ≡ all_texts
  unfolding all_texts
  whole_first = ap (texts j.mesh) (take-length (done_in j))

  -- no command was refused
  pub came_done : (w : Written) → stop_in j ≡ None → Wrote (texts j.mesh (done_in j)) w → WereDone (length (done_in j)) j.mesh j.lines d → Came (Ok j) status.Done w d
  came_done w none wrote disk = inl (record {
    status_is = sym (ap (λ o. (ending j.mesh.names o).status) none);
    wrote = record {
      takes = subst (λ o. Takes w.before (texts j.mesh (done_in j) ++ (ending j.mesh.names o).text) w.after) (sym none) (subst (λ t. Takes w.before t w.after) (sym (append-nil (texts j.mesh (done_in j)))) wrote.takes);
      calm = wrote.calm;
    };
    disk = disk;
  })

  -- where no command is left the text that is reached is all
  reach_end : reach (Ok j) (count_in (Ok j)) ≡ length (answer_of (Ok j)).text
  reach_end =
      let n = count_in (Ok j) in
      ap (λ b. if b then length (first_texts (Ok j) (n + 1)) else length (answer_of (Ok j)).text) (le-ltb n n (omega arith))

  reach_on : (k : ℕ) → k < length (done_in j) → reach (Ok j) k ≡ length (first_texts (Ok j) (k + 1))
  reach_on k below = ap (λ b. if b then length (first_texts (Ok j) (k + 1)) else length (answer_of (Ok j)).text) (lt-ltb k (length (done_in j)) below)

  -- a command was refused, and its line ended the run
  came_refused : (line : ℕ) (reason : stops.Refusal) (result : Status) (a b c : Option (List ℕ)) (f g h : ℕ) → stop_in j ≡ Some (record { line = line; why = reason }) →
      Wrote (texts j.mesh (done_in j)) (record { before = a; after = b; faults = f; new_faults = g }) → Ended (status_of reason) (stop_line j.mesh.names line reason) result (record { before = b; after = c; faults = g; new_faults = h }) →
      WereDone (length (done_in j)) j.mesh j.lines d → Came (Ok j) result (record { before = a; after = c; faults = f; new_faults = h }) d
  unfolding all_texts
  came_refused line reason result a b c f g h some wrote (inl e) disk = inl (record {
    status_is = e.0 ∙ sym (ap (λ o. (ending j.mesh.names o).status) some);
    wrote = record {
      takes = subst (λ o. Takes a (texts j.mesh (done_in j) ++ (ending j.mesh.names o).text) c) (sym some) (takes_more a b c (texts j.mesh (done_in j)) (stop_line j.mesh.names line reason) wrote.takes e.1.takes);
      calm = e.1.calm ∙ wrote.calm;
    };
    disk = disk;
  })
  came_refused line reason result a b c f g h some wrote (inr e) disk =
      let n = count_in (Ok j) in
      let mine = stop_line j.mesh.names line reason in
      let whole : (answer_of (Ok j)).text ≡ all_texts ++ mine ++ [] = ap (λ o. all_texts ++ (ending j.mesh.names o).text) some ∙ sym (append-nil (all_texts ++ mine)) in
      let size : length (all_texts ++ mine) ≡ reach (Ok j) n = ap length (ap (λ o. all_texts ++ (ending j.mesh.names o).text) (sym some)) ∙ sym reach_end in
      let cut : TookBetween (length all_texts) (length (all_texts ++ mine)) (answer_of (Ok j)).text a c = cut_within a b c all_texts mine [] (answer_of (Ok j)).text whole wrote.takes e.1.takes in
      inr (inr (inr (record {
        status_is = e.0;
        rose = subst (λ x. Rose x h) wrote.calm e.1.rose;
        commands = n;
        at = inl (record { reached = omega arith; took = subst (λ x. TookBetween x (reach (Ok j) n) (answer_of (Ok j)).text a c) (ap length (sym whole_first)) (subst (λ x. TookBetween (length all_texts) x (answer_of (Ok j)).text a c) size cut) }, disk);
      })))

  -- the sink failed within the text of a command
  came_cut : (k : ℕ) (w : Written) → BrokeOff k j.mesh j.lines w → WereDone k j.mesh j.lines d → Came (Ok j) status.WriteFault w d
  unfolding all_texts
  came_cut k w broke disk =
      let rest = (ending j.mesh.names (stop_in j)).text in
      let most = length (first_texts (Ok j) (k + 1)) in
      let short : most ≤ length all_texts = firsts_short j.mesh (done_in j) (k + 1) in
      inr (inr (inr (record {
        status_is = refl;
        rose = broke.rose;
        commands = k;
        at = inl (
          record {
            reached = (let l = broke.there in omega arith);
            took = subst (λ x. TookBetween (length (first_texts (Ok j) k)) x (answer_of (Ok j)).text w.before w.after) (sym (reach_on k broke.there))
                (wider w.before w.after (length (first_texts (Ok j) k)) most most all_texts (all_texts ++ rest) (λ n le. take-append-le n all_texts rest (omega arith)) (omega arith) broke.took);
          },
          disk,
        );
      })))

  -- how a run that stopped ends
  pub came_stopped : (stopper : StoppedBy) (line : ℕ) (result : Status) (a b c : Option (List ℕ)) (f g h : ℕ) →
      RunStops stopper line j.mesh j.lines (record { before = a; after = b; faults = f; new_faults = g }) d → Stopped stopper line j.mesh.names result (record { before = b; after = c; faults = g; new_faults = h }) →
      Came (Ok j) result (record { before = a; after = c; faults = f; new_faults = h }) d
  came_stopped (by.Mesh why) line result a b c f g h stops ends = came_refused line why result a b c f g h stops.0 stops.1 ends stops.2
  came_stopped by.Memory line result a b c f g h stops ends = came_starved (Ok j) stops.0 result a b c f g h d stops.2.takes stops.2.calm (inr stops.1) stops.3 ends
  came_stopped by.Disk line result a b c f g h stops ends = came_broken (Ok j) stops.0 result a b c f g h d stops.2.takes stops.2.calm stops.1 stops.3 ends
  came_stopped by.Sink line result a b c f g h stops ends =
      let broke = stops.1 in
      let w : Written = record { before = a; after = c; faults = f; new_faults = h } in
      subst (λ r. Came (Ok j) r w d) (sym ends.0)
      (came_cut stops.0 w
      (record { there = broke.there; took = subst (λ x. TookBetween (length (texts j.mesh (take stops.0 (done_in j)))) (length (texts j.mesh (take (stops.0 + 1) (done_in j)))) (texts j.mesh (done_in j)) a x) (sym ends.1.taken) broke.took; rose = subst (λ n. Rose f n) (sym ends.1.calm) broke.rose })
      stops.2)

-- the same of a run from a mesh that is the job's
pub came_done_from : (j : Job) (d : DiskRun) (m : Mesh) (w : Written) → m ≡ j.mesh → stop m j.lines ≡ None → Wrote (texts m (done m j.lines)) w → WereDone (length (done m j.lines)) m j.lines d → Came (Ok j) status.Done w d
came_done_from j d m w is =
    subst (λ x. stop x j.lines ≡ None → Wrote (texts x (done x j.lines)) w → WereDone (length (done x j.lines)) x j.lines d → Came (Ok j) status.Done w d) (sym is) (came_done j d w)

pub came_stopped_from : (j : Job) (d : DiskRun) (m : Mesh) → m ≡ j.mesh → (stopper : StoppedBy) (line : ℕ) (result : Status) (a b c : Option (List ℕ)) (f g h : ℕ) →
    RunStops stopper line m j.lines (record { before = a; after = b; faults = f; new_faults = g }) d → Stopped stopper line j.mesh.names result (record { before = b; after = c; faults = g; new_faults = h }) →
    Came (Ok j) result (record { before = a; after = c; faults = f; new_faults = h }) d
came_stopped_from j d m is stopper line result a b c f g h stops ends =
    came_stopped j d stopper line result a b c f g h (subst (λ x. RunStops stopper line x j.lines (record { before = a; after = b; faults = f; new_faults = g }) d) is stops) ends

-- ---- what went before

-- what is so of one part of what the disk goes through is so of another
pub record Carries (d e : DiskRun) : Type 0 where
  pub untouched : d.untouched → e.untouched
  pub saved : (meshes : List Mesh) → d.saved meshes → e.saved meshes
  pub begun : (meshes : List Mesh) → d.begun meshes → e.begun meshes
  pub calm : d.calm → e.calm
  pub rose : d.rose → e.rose

module _ (d e : DiskRun) (on : Carries d e) where
  lasts_on : (job : Result Job NotRun) (k : ℕ) → LastsAt job k d → LastsAt job k e
  lasts_on (Ok j) k lasts = record { calm = on.calm lasts.calm; saved = on.saved _ lasts.saved }
  lasts_on (Err reason) k lasts = (on.calm lasts.0, on.untouched lasts.1)

  begins_on : (job : Result Job NotRun) (k : ℕ) → BeginsAt job k d → BeginsAt job k e
  begins_on (Ok j) k begins = record { rose = on.rose begins.rose; begun = on.begun _ begins.begun; one = begins.one }
  begins_on (Err reason) k begins = absurd begins

  pub came_on : (job : Result Job NotRun) (result : Status) (w : Written) → Came job result w d → Came job result w e
  came_on job result w (inl a) = inl (record { status_is = a.status_is; wrote = a.wrote; disk = lasts_on job (count_in job) a.disk })
  came_on job result w (inr (inl a)) = inr (inl (record { status_is = a.status_is; commands = a.commands; wants = a.wants; wrote = a.wrote; disk = lasts_on job a.commands a.disk }))
  came_on job result w (inr (inr (inl a))) = inr (inr (inl (record { status_is = a.status_is; commands = a.commands; fails = a.fails; wrote = a.wrote; disk = begins_on job a.commands a.disk })))
  came_on job result w (inr (inr (inr a))) = inr (inr (inr (record {
    status_is = a.status_is;
    rose = a.rose;
    commands = a.commands;
    at = elim a.at [
      | inl cut ↦ inl (cut.0, lasts_on job a.commands cut.1)
      | inr other ↦ elim other [ inl line ↦ inr (inl (line.0, line.1, lasts_on job a.commands line.2)) | inr line ↦ inr (inr (line.0, line.1, begins_on job a.commands line.2)) ]
    ];
  })))
