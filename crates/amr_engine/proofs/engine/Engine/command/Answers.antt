use Rattle.std.proofs.Common.{sym, subst}
use Rattle.mesh_model.specs.Run.Runs.{KeepsBalance, KeepsOuts, KeepsTotals, StaysPositive}
use Rattle.mesh_model.specs.Fields.Balance.{Balanced}
use Rattle.mesh_model.specs.Fields.Plain.{Mesh}
use Rattle.mesh_model.proofs.RunLemmas.RunLaws.{keeps_balance, keeps_outs, keeps_totals, stays_positive}
use Rattle.amr_engine.specs.Plain.{plain}
use Rattle.amr_engine.proofs.Balanced.{makes_balance}
use Rattle.amr_engine.proofs.ValidOut.{mesh_out}
use Rattle.amr_engine.proofs.engine.Engine.command.Goals as goal

pub returns-in-Ok-clause-totals : goal.returns-in-Ok-clause-totals
returns-in-Ok-clause-totals g c =
    let m = plain c.args.self.now in
    subst (KeepsTotals m c.args.line.now.command) (sym c.in-Ok.ensures.acts.1) (keeps_totals m c.args.line.now.command (mesh_out m c.args.self.now.valid))

pub returns-in-Ok-clause-outs : goal.returns-in-Ok-clause-outs
returns-in-Ok-clause-outs g c = let m = plain c.args.self.now in subst (KeepsOuts m c.args.line.now.command) (sym c.in-Ok.ensures.acts.1) (keeps_outs m c.args.line.now.command)

pub returns-in-Ok-clause-positive : goal.returns-in-Ok-clause-positive
returns-in-Ok-clause-positive g c =
    let m = plain c.args.self.now in
    subst (StaysPositive m c.args.line.now.command) (sym c.in-Ok.ensures.acts.1) (stays_positive m c.args.line.now.command (mesh_out m c.args.self.now.valid) c.in-Ok.ensures.acts.0)

pub returns-in-Ok-clause-balance : goal.returns-in-Ok-clause-balance
returns-in-Ok-clause-balance g c =
    let m = plain c.args.self.now in
    subst (KeepsBalance m c.args.line.now.command) (sym c.in-Ok.ensures.acts.1) (keeps_balance m c.args.line.now.command (mesh_out m c.args.self.now.valid))

pub returns-in-Ok-clause-balanced : goal.returns-in-Ok-clause-balanced
returns-in-Ok-clause-balanced g c sets =
    let m = plain c.args.self.now in
    subst (λ (after : Mesh). Balanced after.grid after.faces) (sym c.in-Ok.ensures.acts.1) (makes_balance m c.args.line.now.command (mesh_out m c.args.self.now.valid) sets)

pub returns-in-Ok-clause-valid : goal.returns-in-Ok-clause-valid
returns-in-Ok-clause-valid g c = mesh_out (plain c.carry_out.new.self) c.carry_out.new.self.valid

pub returns-in-Err-clause-valid : goal.returns-in-Err-clause-valid
returns-in-Err-clause-valid g c = mesh_out (plain c.carry_out.new.self) c.carry_out.new.self.valid
