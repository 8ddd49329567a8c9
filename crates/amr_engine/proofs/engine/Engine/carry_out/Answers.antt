use Rattle.std.proofs.Common.{sym, subst}
use Rattle.amr_engine.specs.Plain.{plain}
use Rattle.amr_engine.specs.Saving.{HasSaved, StaysWhole}
use Rattle.mesh_model.specs.Run.Runs.{saved_by}
use Rattle.amr_engine.proofs.Saved.{aside, no_fault, nothing_saved, on_ok, saves_nothing, stays_whole}
use Rattle.amr_engine.proofs.engine.Engine.carry_out.Goals as goal

pub returns-in_default-clause-whole : goal.returns-in_default-clause-whole
returns-in_default-clause-whole g c =
    let d = g.met.D.Disk in
    subst (λ ms. StaysWhole g.D.Disk.holds g.D.Disk.may_leave g.D.Disk.moment g.D.Disk.left_since ms c.args.disk.now c.args.disk.now) (sym (saves_nothing (plain c.args.self.now) c.args.command (aside c.args.command c.in_default.not-Checkpoint)))
    (stays_whole g.D.Disk.holds g.D.Disk.may_leave g.D.Disk.moment g.D.Disk.left_since d.only_now c.args.disk.now)

pub returns-in_default-clause-saved : goal.returns-in_default-clause-saved
returns-in_default-clause-saved g c =
    let d = g.met.D.Disk in
    on_ok c.act.result (HasSaved g.D.Disk.holds g.D.Disk.may_leave (saved_by (plain c.args.self.now) c.args.command) c.args.disk.now c.args.disk.now)
    (subst (λ ms. HasSaved g.D.Disk.holds g.D.Disk.may_leave ms c.args.disk.now c.args.disk.now) (sym (saves_nothing (plain c.args.self.now) c.args.command (aside c.args.command c.in_default.not-Checkpoint)))
    (nothing_saved g.D.Disk.holds g.D.Disk.may_leave g.D.Disk.moment g.D.Disk.left_since d.only_now c.args.disk.now))

pub returns-in_default-clause-disk_fault : goal.returns-in_default-clause-disk_fault
returns-in_default-clause-disk_fault g c = no_fault c.act.result _ _ c.args.command _ (g.D.Disk.faults c.args.disk.now) (aside c.args.command c.in_default.not-Checkpoint) c.act.ensures.acts
