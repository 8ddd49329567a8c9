use Rattle.std.proofs.Common.{◌≡◌, ◌⊎◌, ℕ, Some, sym, subst, arith}
use Rattle.amr_engine.proofs.Balanced.{runs_make_balance}
use Rattle.amr_program.proofs.Beginning.{along_run}
use Rattle.amr_program.proofs.Clauses as clauses
use Rattle.amr_program.proofs.Lasted.{job_lasts, told_some}
use Rattle.amr_program.specs.Answer.{IsTold, held_in, job_of, script_by}
use Rattle.amr_program.specs.Words.{asked_in, texts_of}
use Rattle.amr_program.specs.Lasting.{EndsAfter, disk_run}
use Rattle.amr_program.specs.Outcome.{BeginsAt, LastsAt}
use Rattle.mesh_model.specs.Run.Runs.{KeepsBalance, KeepsOuts, KeepsTotals, MakesBalance, StaysPositive}
use Rattle.mesh_model.proofs.RunLemmas.RunLaws.{runs_keep_balance, runs_keep_outs, runs_keep_totals, runs_stay_positive}
use Rattle.outside_io.specs.Moved.{Rose}
use Rattle.amr_program.proofs.program.amr.Goals as goal

pub returns-clause-answer : goal.returns-clause-answer
returns-clause-answer g c = clauses.answer _ _ _ _ _ _ c.answer_words.ensures.outcome

pub returns-clause-words_refused : goal.returns-clause-words_refused
returns-clause-words_refused g c = clauses.words_refused _ _ _ _ _ _ c.answer_words.ensures.outcome

pub returns-clause-words_alone : goal.returns-clause-words_alone
returns-clause-words_alone g c = clauses.words_alone _ _ _ _ _ _ c.answer_words.ensures.outcome

pub returns-clause-no_checkpoint : goal.returns-clause-no_checkpoint
returns-clause-no_checkpoint g c = clauses.no_checkpoint _ _ _ _ _ _ c.answer_words.ensures.outcome

pub returns-clause-damaged : goal.returns-clause-damaged
returns-clause-damaged g c = clauses.damaged _ _ _ _ _ _ c.answer_words.ensures.outcome

pub returns-clause-stopped : goal.returns-clause-stopped
returns-clause-stopped g c = clauses.stopped _ _ _ _ _ _ c.answer_words.ensures.outcome

pub returns-clause-level : goal.returns-clause-level
returns-clause-level g c = clauses.level _ _ _ _ _ _ c.answer_words.ensures.outcome

pub returns-clause-script_refused : goal.returns-clause-script_refused
returns-clause-script_refused g c = clauses.script_refused _ _ _ _ _ _ c.answer_words.ensures.outcome

pub returns-clause-read_fault : goal.returns-clause-read_fault
returns-clause-read_fault g c = clauses.read_fault _ _ _ _ _ _ c.answer_words.ensures.outcome

pub returns-clause-read_fault_told : goal.returns-clause-read_fault_told
returns-clause-read_fault_told g c = clauses.read_fault_told _ _ _ _ _ _ c.answer_words.ensures.outcome

pub returns-clause-disk_fault : goal.returns-clause-disk_fault
returns-clause-disk_fault g c = clauses.disk_fault _ _ _ _ _ _ c.answer_words.ensures.outcome

pub returns-clause-write_fault : goal.returns-clause-write_fault
returns-clause-write_fault g c = clauses.write_fault _ _ _ _ _ _ c.answer_words.ensures.outcome

pub returns-clause-write_fault_told : goal.returns-clause-write_fault_told
returns-clause-write_fault_told g c = clauses.write_fault_told _ _ _ _ _ _ c.answer_words.ensures.outcome

pub returns-clause-complete : goal.returns-clause-complete
returns-clause-complete g c = clauses.complete _ _ _ _ _ _ c.answer_words.ensures.outcome

pub returns-clause-part : goal.returns-clause-part
returns-clause-part g c = clauses.part _ _ _ _ _ _ c.answer_words.ensures.outcome

pub returns-clause-memory : goal.returns-clause-memory
returns-clause-memory g c = clauses.memory _ _ _ _ _ _ c.answer_words.ensures.outcome

pub returns-clause-read : goal.returns-clause-read
returns-clause-read g c = clauses.read _ _ _ _ _ _ c.answer_words.ensures.outcome

pub returns-clause-untouched : goal.returns-clause-untouched
returns-clause-untouched g c = clauses.untouched _ _ _ _ _ _ c.answer_words.ensures.outcome

pub returns-clause-disk_fault_told : goal.returns-clause-disk_fault_told
returns-clause-disk_fault_told g c more calm = clauses.disk_fault_told _ _ _ _ _ _ c.answer_words.ensures.outcome (λ same. omega (arith, same, more)) calm

pub returns-clause-lasts : goal.returns-clause-lasts
returns-clause-lasts g c areas rests whole =
    let d = g.D.Disk in
    let asked = asked_in (texts_of c.args.words.now) in
    let run = disk_run d.holds d.may_leave d.moment d.left_since d.faults c.args.disk.now c.answer_words.new.disk in
    let told = subst (IsTold asked) (sym rests.told) (told_some asked areas) in
    clauses.carried (script_by asked (g.S.Source.left c.args.source.now)) _ _ (clauses.ends _ _ _ _ _ _ c.answer_words.ensures.outcome told)
    (λ script e.
    let job = job_of asked (held_in (Some areas)) script in
    let here = subst (λ t. let of = job_of asked (held_in t) script in (k : ℕ) × EndsAfter asked of k c.answer_words.result (Rose (g.S.Source.faults c.args.source.now) (g.S.Source.faults c.answer_words.new.source)) (Rose (d.faults c.args.disk.now) (d.faults c.answer_words.new.disk)) run.untouched (g.K.Sink.taken c.args.sink.now) (g.K.Sink.taken c.answer_words.new.sink) × (LastsAt of k run ⊎ (BeginsAt of k run ⊎ ((k ≡ 0) × run.untouched)))) rests.told e in
    (here.0, here.1, job_lasts d.holds d.may_leave d.moment d.left_since d.faults c.args.disk.now c.answer_words.new.disk areas rests whole job here.0 here.2))

pub returns-clause-totals : goal.returns-clause-totals
returns-clause-totals g c = along_run KeepsTotals runs_keep_totals _ _ _

pub returns-clause-outs : goal.returns-clause-outs
returns-clause-outs g c = along_run KeepsOuts runs_keep_outs _ _ _

pub returns-clause-positive : goal.returns-clause-positive
returns-clause-positive g c = along_run StaysPositive runs_stay_positive _ _ _

pub returns-clause-balance : goal.returns-clause-balance
returns-clause-balance g c = along_run KeepsBalance runs_keep_balance _ _ _

pub returns-clause-balanced : goal.returns-clause-balanced
returns-clause-balanced g c = along_run MakesBalance runs_make_balance _ _ _
