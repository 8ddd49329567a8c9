use Rattle.std.proofs.Common.{◌≡◌, true, false, All, IfSome, Ok, option_copied, sym, subst, ap, arith, ◌∙◌}
use Rattle.std.proofs.lemmas.Grind.{common_steps}
use Rattle.check_format.specs.ReadImages.{IsRead}
use Rattle.mesh_model.specs.Language.Commands.{IsLineOf, plain_script}
use Rattle.mesh_model.specs.Language.Grammar.{script_of}
use Rattle.mesh_model.specs.Run.Runs.{declared_in}
use Rattle.amr_engine.specs.Built.{IsBuiltLine, is_built}
use Rattle.amr_engine.specs.Stopping.{Written}
use Rattle.script_lang.specs.Answers.{Halts}
use Rattle.script_lang.proofs.Scripts.{script_keeps}
use Rattle.amr_program.specs.Lasting.{disk_run}
use Rattle.amr_program.specs.Origins.{CanBegin, begin_by, given_by, mesh_from}
use Rattle.amr_program.specs.Outcome.{Came}
use Rattle.amr_program.proofs.Beginning.{can_declare, declared_read}
use Rattle.amr_program.proofs.Parts.{built_lines, came_faulty, came_unbuilt, came_wanting, job_run, read_is_limited}
use Rattle.amr_program.proofs.program.answer_script.Goals as goal
use Rattle.amr_program.proofs.program.answer_script.Goals.{in-Some, in-None}

pub read_script-requires : goal.read_script-requires
read_script-requires g c = read_is_limited c.args.image c.declared_of.result c.declared_of.ensures c.requires.image

pub returns-in-Err-Fault-clause-came : goal.returns-in-Err-Fault-clause-came
returns-in-Err-Fault-clause-came g c =
    let d = g.D.Disk in
    let laws = g.met.D.Disk in
    let given = option_copied c.declared_of.result in
    let e = subst (λ stop. Halts stop (script_of given c.args.bytes.now)) c.in-Err-Fault.field-0-is c.in-Err-Fault.ensures.fault in
    came_faulty c.args.asked.now c.args.image c.args.bytes.now given c.declared_of.ensures d.holds d.may_leave d.moment d.left_since d.faults laws.only_now c.args.disk.now (record { line = c.in-Err-Fault.line; reason = c.in-Err-Fault.reason }) e _ _ c.refuse.ensures

pub returns-in-Err-OutOfMemory-clause-came : goal.returns-in-Err-OutOfMemory-clause-came
returns-in-Err-OutOfMemory-clause-came g c =
    let d = g.D.Disk in
    let laws = g.met.D.Disk in
    came_wanting d.holds d.may_leave d.moment d.left_since d.faults laws.only_now c.args.disk.now _ _ _ c.end.ensures

pub returns-then-not-built-clause-came : goal.returns-then-not-built-clause-came
returns-then-not-built-clause-came g c =
    let d = g.D.Disk in
    let laws = g.met.D.Disk in
    let given = option_copied c.declared_of.result in
    let s = plain_script c.in-Ok.script in
    let built : is_built s c.args.asked.now.ranks c.args.asked.now.workers ≡ false = grind (arith, common_steps) in
    came_unbuilt c.args.asked.now c.args.image c.args.bytes.now given c.declared_of.ensures d.holds d.may_leave d.moment d.left_since d.faults laws.only_now c.args.disk.now s c.in-Ok.ensures.script built _ _ c.refuse-then-not-built.ensures

pub run_lines-requires-clause-begins : goal.run_lines-requires-clause-begins
run_lines-requires-clause-begins g c = elim c.match-image-10.branch [
  | in-Some w ↦ subst CanBegin (sym w.origin-is) (subst (λ o. IfSome o IsRead) w.in-Some.is c.requires.image)
  | in-None w ↦ subst CanBegin (sym w.origin-is) (can_declare c.in-Ok.script.declared c.in-Ok.ensures.limits)
]

pub run_lines-requires-clause-fit : goal.run_lines-requires-clause-fit
run_lines-requires-clause-fit g c =
    let s = plain_script c.in-Ok.script in
    let given = option_copied c.declared_of.result in
    let of_lines = subst (λ ls. All (IsLineOf s.declared) ls) (sym c.deref.ensures.value) c.in-Ok.ensures.lines in
    elim c.match-image-10.branch [
      | in-Some w ↦
          let e = subst (λ x. script_of x c.args.bytes.now ≡ Ok s) (c.declared_of.ensures ∙ ap given_by w.in-Some.is) c.in-Ok.ensures.script in
          let same = script_keeps w.in-Some.image.declared c.args.bytes.now s e ∙ sym (declared_read w.in-Some.image) ∙ ap (λ o. declared_in (mesh_from o)) (sym w.origin-is) in
          subst (λ x. All (IsLineOf x) c.deref.result.now) same of_lines
      | in-None w ↦ subst (λ o. All (IsLineOf (declared_in (mesh_from o))) c.deref.result.now) (sym w.origin-is) of_lines
    ]

pub run_lines-requires-clause-built : goal.run_lines-requires-clause-built
run_lines-requires-clause-built g c =
    let s = plain_script c.in-Ok.script in
    let built : is_built s c.args.asked.now.ranks c.args.asked.now.workers ≡ true = grind (arith, common_steps) in
    subst (All IsBuiltLine) (sym c.deref.ensures.value) (built_lines s c.args.asked.now.ranks c.args.asked.now.workers built)

pub returns-clause-came : goal.returns-clause-came
returns-clause-came g c =
    let s = plain_script c.in-Ok.script in
    let given = option_copied c.declared_of.result in
    let built : is_built s c.args.asked.now.ranks c.args.asked.now.workers ≡ true = grind (arith, common_steps) in
    let begins : begin_by c.args.image s ≡ mesh_from c.match-image-10.origin = elim c.match-image-10.branch [
      | in-Some w ↦ ap (λ o. begin_by o s) w.in-Some.is ∙ ap mesh_from (sym w.origin-is)
      | in-None w ↦ ap (λ o. begin_by o s) w.in-None.is ∙ ap mesh_from (sym w.origin-is)
    ] in
    let job = job_run c.args.asked.now c.args.image c.args.bytes.now given c.declared_of.ensures s c.match-image-10.origin c.deref.result.now c.in-Ok.ensures.script built begins c.deref.ensures.value in
    let d = g.D.Disk in
    let w : Written = record { before = g.K.Sink.taken c.args.sink.now; after = g.K.Sink.taken c.run_lines.new.sink; faults = g.K.Sink.faults c.args.sink.now; new_faults = g.K.Sink.faults c.run_lines.new.sink } in
    let run = disk_run d.holds d.may_leave d.moment d.left_since d.faults c.args.disk.now c.run_lines.new.disk in
    subst (λ j. Came j c.run_lines.result w run) (sym job) c.run_lines.ensures.came
