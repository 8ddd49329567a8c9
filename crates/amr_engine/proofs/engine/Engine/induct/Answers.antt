use Rattle.std.proofs.Common.{◌≡◌, Ok, Err, arith, sym, subst}
use Rattle.mesh_model.specs.declared.language.script.Command.TheVariants as commands
use Rattle.mesh_steps.specs.Inducting.{Inducts}
use Rattle.amr_engine.specs.EngineMesh.{mesh_of}
use Rattle.amr_engine.specs.Stopping.{Changes}
use Rattle.amr_engine.proofs.Advanced.{ready}
use Rattle.amr_engine.proofs.FacesMade.{induct_changes, induct_hindered, induct_kept}
use Rattle.amr_engine.proofs.Made.{has_faces, of_now}
use Rattle.amr_engine.proofs.ValidOut.{mesh_out}
use Rattle.amr_engine.proofs.engine.Engine.induct.Goals as goal

pub induct-requires : goal.induct-requires
unfolding mesh_of
induct-requires g c =
    let self = c.args.self.now in
    let valid = mesh_out (mesh_of self.names self.world self.outs.items self.marks) self.valid in (
      omega arith,
      (
        self.fit,
        (
          ready self.names self.world self.outs.items self.marks self.laid_out valid,
          (has_faces self.names self.world self.outs.items self.marks self.laid_out valid c.requires.fits.0, c.requires.fits.1),
        ),
      ),
    )

pub invariant_of-self : goal.invariant_of-self
unfolding mesh_of
invariant_of-self g c =
    let self = c.args.self.now in
    let m = mesh_of self.names self.world self.outs.items self.marks in
    let valid = mesh_out m self.valid in
    let done = c.induct.ensures in
    let kept =
    induct_kept self.names self.world self.outs.items self.marks self.laid_out valid c.args.speeds c.requires.fits c.induct.new.world done.told c.induct.result
    (done.inducts m valid (of_now self.names self.world self.outs.items self.marks self.laid_out valid)) in
    record { room = c.args.self.now.room; named = c.args.self.now.named; fit = done.fit; laid_out = kept.0; valid = ∣ kept.1 ∣₁ }

pub returns-in-Ok-clause-changes : goal.returns-in-Ok-clause-changes
unfolding mesh_of
returns-in-Ok-clause-changes g c =
    let self = c.args.self.now in
    let m = mesh_of self.names self.world self.outs.items self.marks in
    let valid = mesh_out m self.valid in
    let new = c.induct.new.world in
    let is = c.induct.ensures.inducts m valid (of_now self.names self.world self.outs.items self.marks self.laid_out valid) in
    induct_changes self.names self.world self.outs.items self.marks self.laid_out valid c.args.speeds c.requires.fits new c.induct.ensures.told tt (subst (Inducts m c.args.speeds new) c.in-Ok.is is)

pub returns-in-Err-clause-changes : goal.returns-in-Err-clause-changes
unfolding mesh_of
returns-in-Err-clause-changes g c =
    let self = c.args.self.now in
    let m = mesh_of self.names self.world self.outs.items self.marks in
    let valid = mesh_out m self.valid in
    let new = c.induct.new.world in
    let is = c.induct.ensures.inducts m valid (of_now self.names self.world self.outs.items self.marks self.laid_out valid) in
    let hindered =
    induct_hindered self.names self.world self.outs.items self.marks self.laid_out valid c.args.speeds c.requires.fits new c.induct.ensures.told c.in-Err.hindrance (subst (Inducts m c.args.speeds new) c.in-Err.is is) in
    subst (λ cause. Changes (Err cause) m (commands.Induct c.args.speeds) (mesh_of self.names new self.outs.items self.marks)) (sym c.of_induct.ensures) hindered
