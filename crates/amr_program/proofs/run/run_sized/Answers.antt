use Rattle.std.proofs.Common.{All, Ok, arith, subst, sym, ap, ◌∙◌}
use Rattle.mesh_model.specs.Language.Commands.{IsLineOf}
use Rattle.amr_engine.specs.Plain.{plain}
use Rattle.amr_engine.specs.Stopping.{Written, stopped_by}
use Rattle.amr_program.specs.Answer.{Job}
use Rattle.amr_program.specs.Origins.{mesh_from}
use Rattle.amr_program.specs.Outcome.{Stopped}
use Rattle.amr_program.proofs.Coming.{came_done_from, came_stopped_from, starved_first}
use Rattle.amr_program.proofs.Commands.{none_done}
use Rattle.amr_program.proofs.run.run_sized.Goals as goal

pub returns-in-Err-clause-came : goal.returns-in-Err-clause-came
returns-in-Err-clause-came g c =
    let d = g.D.Disk in
    let laws = g.met.D.Disk in
    let j : Job = record { mesh = mesh_from c.args.origin; lines = c.args.lines.now } in
    starved_first (Ok j) _ _ _ (none_done d.holds d.may_leave d.moment d.left_since d.faults laws.only_now j.mesh j.lines c.args.disk.now) c.end.ensures

pub run-requires : goal.run-requires
run-requires g c = (omega arith, (subst (λ x. All (IsLineOf x) c.args.lines.now) (sym c.in-Ok.ensures.declared) c.requires.fit, c.requires.built))

pub returns-clause-came : goal.returns-clause-came
returns-clause-came g c =
    let j : Job = record { mesh = mesh_from c.args.origin; lines = c.args.lines.now } in
    let stop = c.in-Err-run.stop in
    let ended : Written = record { before = g.K.Sink.taken c.run.new.sink; after = g.K.Sink.taken c.end_stopped.new.sink; faults = g.K.Sink.faults c.run.new.sink; new_faults = g.K.Sink.faults c.end_stopped.new.sink } in
    let names = ap (λ d. d.names) (c.in-Err-run.ensures.names ∙ c.in-Ok.ensures.declared) in
    came_stopped_from j _ (plain c.in-Ok.engine) c.in-Ok.ensures.mesh (stopped_by stop.cause) stop.line c.end_stopped.result _ _ _ _ _ _ c.in-Err-run.ensures.stops (subst (λ n. Stopped (stopped_by stop.cause) stop.line n c.end_stopped.result ended) names c.end_stopped.ensures)

pub returns-in-Ok-run-clause-came : goal.returns-in-Ok-run-clause-came
returns-in-Ok-run-clause-came g c =
    let j : Job = record { mesh = mesh_from c.args.origin; lines = c.args.lines.now } in
    came_done_from j _ (plain c.in-Ok.engine) _ c.in-Ok.ensures.mesh c.in-Ok-run.ensures.whole c.in-Ok-run.ensures.text c.in-Ok-run.ensures.lasts
