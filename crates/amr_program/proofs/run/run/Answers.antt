use Rattle.std.proofs.Common.{refl, ◌∙◌, arith}
use Rattle.amr_engine.specs.Plain.{plain}
use Rattle.amr_program.proofs.Coming.{nothing_taken}
use Rattle.std.proofs.lemmas.Result.{err_from_is_err_and}
use Rattle.amr_program.proofs.Commands.{goes_on, kept_first, kept_on, more_taken, run_stops, begun}
use Rattle.amr_program.proofs.run.run.Goals as goal

pub returns-in_err-command-clause-stops : goal.returns-in_err-command-clause-stops
returns-in_err-command-clause-stops g c =
    let p = err_from_is_err_and c.from_residual.result c.from_residual.ensures.1 in
    let before = c.loop-line.invariant in
    let d = g.D.Disk in
    let laws = g.met.D.Disk in
    rw (p.1, p.2)
    (run_stops d.holds d.may_leave d.moment d.left_since d.faults _ _ c.args.lines.now c.loop-line.line-index _ c.args.disk.now c.loop-line.disk c.command.new.disk (omega arith) before.progress before.kept laws.counts_now _ _ _ _ _ _ _
    c.in_err-command.ensures.line before.text before.calm c.command.ensures.whole c.command.ensures.disk _ c.in_err-command.ensures.cause.0 c.in_err-command.ensures.cause.1 c.in_err-command.ensures.disk_fault)

pub loop-line-init : goal.loop-line-init
loop-line-init g c =
    let d = g.D.Disk in
    let laws = g.met.D.Disk in
    record {
      progress = begun _ _;
      text = nothing_taken _;
      calm = refl;
      declared = refl;
      kept = kept_first d.holds d.may_leave d.moment d.left_since d.faults laws.only_now (plain c.args.engine.now) c.args.lines.now c.args.disk.now;
      idle = λ all. refl;
    }

pub loop-line-preserved : goal.loop-line-preserved
loop-line-preserved g c =
    let before = c.loop-line.invariant in
    let told = c.in_ok-command.ensures in
    let d = g.D.Disk in
    let laws = g.met.D.Disk in
    record {
      progress = goes_on _ _ _ c.args.lines.now c.loop-line.line-index _ (omega arith) before.progress told.allowed told.mesh;
      text = more_taken _ _ c.args.lines.now c.loop-line.line-index _ _ _ _ (omega arith) before.progress before.text told.text;
      calm = told.calm ∙ before.calm;
      declared = told.declared ∙ before.declared;
      kept = kept_on d.holds d.may_leave d.moment d.left_since d.faults _ _ c.args.lines.now c.loop-line.line-index _ c.args.disk.now c.loop-line.disk c.command.new.disk (omega arith) before.progress before.kept c.command.ensures.whole told.saved told.disk_calm;
      idle = λ all. c.command.ensures.disk (all c.loop-line.line-index _ (omega arith)) ∙ before.idle all;
    }
