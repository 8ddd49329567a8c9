use Rattle.std.proofs.Common.{◌≡◌, ◌<◌, ◌^◌, Ok, Err, set, arith, sym, subst}
use Rattle.mesh_model.specs.declared.language.script.Command.TheVariants as commands
use Rattle.mesh_model.specs.Fields.Advect.{advect, three}
use Rattle.mesh_model.specs.Fields.Valid.{ValidMesh}
use Rattle.amr_engine.specs.EngineMesh.{IsLaidOut, mesh_of}
use Rattle.mesh_steps.specs.Stepping.{Steps}
use Rattle.amr_engine.specs.Stopping.{Changes}
use Rattle.amr_engine.proofs.Advanced.{advect_allowed, advect_is, advect_laid, advect_valid, hindered, read_is, read_small, ready, small_out}
use Rattle.mesh_steps.proofs.Machine.{wide}
use Rattle.amr_engine.proofs.Made.{laid_same, of_now}
use Rattle.amr_engine.proofs.ValidOut.{mesh_out}
use Rattle.mesh_steps.proofs.StepMade.{steps_of}
use Rattle.amr_engine.proofs.engine.Engine.advect.Goals as goal

pub advect-requires : goal.advect-requires
advect-requires g c =
    let self = c.args.self.now in
    let m = mesh_of self.names self.world self.outs.items self.marks in
    let valid = mesh_out m self.valid in (
      omega arith,
      (
        self.fit,
        (
          ready self.names self.world self.outs.items self.marks self.laid_out valid,
          (
            subst (λ k. c.args.var < k) (sym self.laid_out.cells) c.requires.variable,
            (
              c.requires.speeds,
              read_small self.names self.world self.outs.items self.marks self.laid_out valid c.args.var c.requires.variable c.index-out.result.now c.index-out.ensures,
            ),
          ),
        ),
      ),
    )

pub invariant_of-self : goal.invariant_of-self
invariant_of-self g c =
    let self = c.args.self.now in
    let m = mesh_of self.names self.world self.outs.items self.marks in
    let valid = mesh_out m self.valid in
    let new = c.advect.new.world in
    let told = c.advect.ensures.told in
    let steps = c.advect.ensures.steps m valid (of_now self.names self.world self.outs.items self.marks self.laid_out valid) (read_is self.names self.world self.outs.items self.marks self.laid_out valid c.args.var c.requires.variable c.index-out.result.now c.index-out.ensures) in
    let done : Steps m c.args.var c.args.speeds new (Ok c.in-Ok.out) = subst (Steps m c.args.var c.args.speeds new) c.in-Ok.is steps in
    let kept = wide c.in-Ok.out (2 ^ 100) (small_out self.names self.world self.outs.items self.marks self.laid_out valid c.args.var c.requires.variable c.args.speeds c.requires.speeds new told c.in-Ok.out done) (omega arith) in
    let is = advect_is self.names self.world self.outs.items self.marks self.laid_out valid c.args.var c.requires.variable c.args.speeds c.requires.speeds new told c.in-Ok.out done in
    record {
      room = c.args.self.now.room;
      named = c.args.self.now.named;
      fit = c.advect.ensures.fit;
      laid_out = subst (λ z. IsLaidOut self.names new (set self.outs.items c.args.var z) self.marks) (sym kept) (advect_laid self.names self.world self.outs.items self.marks self.laid_out valid c.args.var c.requires.variable c.args.speeds c.requires.speeds new told c.in-Ok.out done);
      valid = ∣ subst (λ z. ValidMesh (mesh_of self.names new (set self.outs.items c.args.var z) self.marks)) (sym kept) (subst ValidMesh (sym is) (advect_valid self.names self.world self.outs.items self.marks self.laid_out valid c.args.var c.requires.variable c.args.speeds c.requires.speeds new told c.in-Ok.out done)) ∣₁;
    }

pub invariant_of-self-in-Err-1 : goal.invariant_of-self-in-Err-1
invariant_of-self-in-Err-1 g c =
    let self = c.args.self.now in
    let m = mesh_of self.names self.world self.outs.items self.marks in
    let valid = mesh_out m self.valid in
    let new = c.advect.new.world in
    let told = c.advect.ensures.told in
    let steps = c.advect.ensures.steps m valid (of_now self.names self.world self.outs.items self.marks self.laid_out valid) (read_is self.names self.world self.outs.items self.marks self.laid_out valid c.args.var c.requires.variable c.index-out.result.now c.index-out.ensures) in
    let told_stop = hindered self.names self.world self.outs.items self.marks self.laid_out valid c.args.var c.requires.variable c.args.speeds c.requires.speeds new told c.in-Err.hindrance (subst (Steps m c.args.var c.args.speeds new) c.in-Err.is steps) in
    record {
      room = c.args.self.now.room;
      named = c.args.self.now.named;
      fit = c.advect.ensures.fit;
      laid_out = laid_same self.names self.world self.outs.items self.marks self.laid_out valid new told (steps_of m c.args.var c.args.speeds new c.in-Err.hindrance (subst (Steps m c.args.var c.args.speeds new) c.in-Err.is steps));
      valid = ∣ subst ValidMesh (sym told_stop.1) valid ∣₁;
    }

pub returns-in-Ok-clause-changes : goal.returns-in-Ok-clause-changes
returns-in-Ok-clause-changes g c =
    let self = c.args.self.now in
    let m = mesh_of self.names self.world self.outs.items self.marks in
    let valid = mesh_out m self.valid in
    let new = c.advect.new.world in
    let told = c.advect.ensures.told in
    let steps = c.advect.ensures.steps m valid (of_now self.names self.world self.outs.items self.marks self.laid_out valid) (read_is self.names self.world self.outs.items self.marks self.laid_out valid c.args.var c.requires.variable c.index-out.result.now c.index-out.ensures) in
    let done : Steps m c.args.var c.args.speeds new (Ok c.in-Ok.out) = subst (Steps m c.args.var c.args.speeds new) c.in-Ok.is steps in
    let kept = wide c.in-Ok.out (2 ^ 100) (small_out self.names self.world self.outs.items self.marks self.laid_out valid c.args.var c.requires.variable c.args.speeds c.requires.speeds new told c.in-Ok.out done) (omega arith) in (
      advect_allowed self.names self.world self.outs.items self.marks self.laid_out valid c.args.var c.requires.variable c.args.speeds c.requires.speeds new told c.in-Ok.out done,
      subst (λ z. mesh_of self.names new (set self.outs.items c.args.var z) self.marks ≡ advect m c.args.var (three c.args.speeds)) (sym kept) (advect_is self.names self.world self.outs.items self.marks self.laid_out valid c.args.var c.requires.variable c.args.speeds c.requires.speeds new told c.in-Ok.out done),
    )

pub returns-in-Err-clause-changes : goal.returns-in-Err-clause-changes
returns-in-Err-clause-changes g c =
    let self = c.args.self.now in
    let m = mesh_of self.names self.world self.outs.items self.marks in
    let valid = mesh_out m self.valid in
    let new = c.advect.new.world in
    let told = c.advect.ensures.told in
    let steps = c.advect.ensures.steps m valid (of_now self.names self.world self.outs.items self.marks self.laid_out valid) (read_is self.names self.world self.outs.items self.marks self.laid_out valid c.args.var c.requires.variable c.index-out.result.now c.index-out.ensures) in
    let told_stop = hindered self.names self.world self.outs.items self.marks self.laid_out valid c.args.var c.requires.variable c.args.speeds c.requires.speeds new told c.in-Err.hindrance (subst (Steps m c.args.var c.args.speeds new) c.in-Err.is steps) in
    subst (λ cause. Changes (Err cause) m (commands.Advect c.args.var c.args.speeds) (mesh_of self.names new self.outs.items self.marks)) (sym c.of_advect.ensures) told_stop
