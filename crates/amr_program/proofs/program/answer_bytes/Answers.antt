use Rattle.std.proofs.Common.{IfSome, Some, Ok, Err, inr, sym, subst, ap, ◌∙◌}
use Rattle.mesh_model.specs.Images.Held.{Found, Nothing, held}
use Rattle.mesh_model.specs.Language.Grammar.{script_of}
use Rattle.check_disk.specs.Newest.{IsCounted, Tells, damaged}
use Rattle.amr_engine.specs.Stopping.{Written}
use Rattle.amr_program.specs.Answer.{job_from}
use Rattle.amr_program.specs.Lasting.{disk_run}
use Rattle.amr_program.specs.Origins.{mesh_in}
use Rattle.amr_program.specs.Outcome.{Came}
use Rattle.amr_program.specs.declared.not_run.NotRun.TheVariants as reasons
use Rattle.amr_program.proofs.Beginning.{damaged_job, declared_read}
use Rattle.amr_program.proofs.Coming.{came_on, refused_came}
use Rattle.amr_program.proofs.Lasted.{read_carries}
use Rattle.amr_program.proofs.Parts.{came_wanting, no_restart, of_any, of_new, of_restart}
use Rattle.amr_program.proofs.program.answer_bytes.Goals as goal

pub returns-in-New-clause-came : goal.returns-in-New-clause-came
returns-in-New-clause-came g c = inr (of_new c.args.asked.now (g.D.Disk.holds c.args.disk.now) c.args.bytes.now _ _ _ (no_restart c.args.asked.now.start c.in-New.is) c.answer_script.ensures.came)

pub returns-in-Ok-Some-clause-came : goal.returns-in-Ok-Some-clause-came
returns-in-Ok-Some-clause-came g c =
    let d = g.D.Disk in
    let im = c.in-Ok-Some.image in
    let first = subst (λ r. IfSome (d.holds c.args.disk.now) (λ areas. Tells (held areas.a areas.b) r)) (c.in-Ok-Some.is ∙ ap Ok c.in-Ok-Some.field-0-is) c.newest.ensures.held in
    let carried = read_carries d.holds d.may_leave d.moment d.left_since d.faults c.args.disk.now c.newest.new.disk c.answer_script-in-Ok-Some.new.disk c.newest.ensures.reads c.in-Ok-Some.ensures.calm in
    let w : Written = record { before = g.K.Sink.taken c.args.sink.now; after = g.K.Sink.taken c.answer_script-in-Ok-Some.new.sink; faults = g.K.Sink.faults c.args.sink.now; new_faults = g.K.Sink.faults c.answer_script-in-Ok-Some.new.sink } in
    let run = disk_run d.holds d.may_leave d.moment d.left_since d.faults c.args.disk.now c.answer_script-in-Ok-Some.new.disk in
    let came = came_on _ run carried _ c.answer_script-in-Ok-Some.result w c.answer_script-in-Ok-Some.ensures.came in
    let job = ap (λ x. job_from c.args.asked.now (λ s. mesh_in im) (script_of (Some x) c.args.bytes.now)) (sym (declared_read im)) in
    inr (of_restart c.args.asked.now (d.holds c.args.disk.now) c.args.bytes.now _ _ _ (Found (mesh_in im)) c.in-Restart.is first (subst (λ j. Came j c.answer_script-in-Ok-Some.result w run) job came))

pub returns-in-Ok-None-clause-came : goal.returns-in-Ok-None-clause-came
returns-in-Ok-None-clause-came g c =
    let d = g.D.Disk in
    let first = subst (λ r. IfSome (d.holds c.args.disk.now) (λ areas. Tells (held areas.a areas.b) r)) (c.in-Ok-None.is ∙ ap Ok c.in-Ok-None.field-0-is) c.newest.ensures.held in
    inr (of_restart c.args.asked.now (d.holds c.args.disk.now) c.args.bytes.now _ _ _ Nothing c.in-Restart.is first (refused_came reasons.NoCheckpoint _ _ _ c.in-Ok-None.ensures.calm c.newest.ensures.reads c.refuse.ensures))

pub returns-in-Err-Damaged-clause-came : goal.returns-in-Err-Damaged-clause-came
returns-in-Err-Damaged-clause-came g c =
    let d = g.D.Disk in
    let bad = c.in-Err-Damaged.bad in
    let area = c.in-Err-Damaged.area in
    let first = subst (λ r. IfSome (d.holds c.args.disk.now) (λ areas. Tells (held areas.a areas.b) r)) (c.in-Err-Damaged.is ∙ ap Err c.in-Err-Damaged.field-0-is) c.newest.ensures.held in
    let calm = subst (IsCounted (d.faults c.args.disk.now) (d.faults c.newest.new.disk)) c.in-Err-Damaged.field-0-is c.in-Err-Damaged.ensures.fault in
    let w : Written = record { before = g.K.Sink.taken c.args.sink.now; after = g.K.Sink.taken c.refuse-in-Err-Damaged.new.sink; faults = g.K.Sink.faults c.args.sink.now; new_faults = g.K.Sink.faults c.refuse-in-Err-Damaged.new.sink } in
    let run = disk_run d.holds d.may_leave d.moment d.left_since d.faults c.args.disk.now c.newest.new.disk in
    let came = refused_came (reasons.Damaged area bad) c.refuse-in-Err-Damaged.result w run calm c.newest.ensures.reads c.refuse-in-Err-Damaged.ensures in
    inr (of_restart c.args.asked.now (d.holds c.args.disk.now) c.args.bytes.now _ _ _ (damaged area bad) c.in-Restart.is first (subst (λ j. Came j c.refuse-in-Err-Damaged.result w run) (sym (damaged_job c.args.asked.now (λ given. script_of given c.args.bytes.now) area bad)) came))

pub returns-in-Err-OutOfMemory-clause-came : goal.returns-in-Err-OutOfMemory-clause-came
returns-in-Err-OutOfMemory-clause-came g c =
    let d = g.D.Disk in
    let laws = g.met.D.Disk in
    let mid = c.newest.new.disk in
    let calm = subst (IsCounted (d.faults c.args.disk.now) (d.faults mid)) c.in-Err-OutOfMemory.field-0-is c.in-Err-OutOfMemory.ensures.fault in
    let carried = read_carries d.holds d.may_leave d.moment d.left_since d.faults c.args.disk.now mid mid c.newest.ensures.reads calm in
    inr (of_any c.args.asked.now (d.holds c.args.disk.now) c.args.bytes.now _ _ _ (λ job. came_on _ _ carried job _ _ (came_wanting d.holds d.may_leave d.moment d.left_since d.faults laws.only_now mid job _ _ c.end-in-Err-OutOfMemory.ensures)))
