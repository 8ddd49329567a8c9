use Rattle.std.proofs.Common.{◌≡◌, arith, ap, sym, subst}
use Rattle.mesh_model.specs.declared.language.script.Command.TheVariants as commands
use Rattle.mesh_model.specs.Fields.Ranks.{WorldState}
use Rattle.rank_world.specs.Holding.{IsOfMesh}
use Rattle.amr_engine.specs.EngineMesh.{mesh_of}
use Rattle.amr_engine.specs.Stopping.{MayStop, stopped_by}
use Rattle.amr_engine.proofs.FacesMade.{even, faces_alone, if_error, set_allowed, set_is, set_kept, set_refused, uniform_fits, uniform_made, uniform_refused}
use Rattle.amr_engine.proofs.Made.{has_faces, of_now}
use Rattle.amr_engine.proofs.ValidOut.{mesh_out}
use Rattle.amr_engine.proofs.engine.Engine.uniform.Goals as goal

pub set_uniform-requires : goal.set_uniform-requires
set_uniform-requires g c =
    let self = c.args.self.now in
    let valid = mesh_out (mesh_of self.names self.world self.outs.items self.marks) self.valid in
    (omega arith, (c.requires.fluxes, (self.fit, has_faces self.names self.world self.outs.items self.marks self.laid_out valid c.requires.face)))

pub invariant_of-self : goal.invariant_of-self
invariant_of-self g c =
    let self = c.args.self.now in
    let m = mesh_of self.names self.world self.outs.items self.marks in
    let valid = mesh_out m self.valid in
    let set = c.set_uniform.ensures in
    let b = c.args.b in
    let stays : c.set_uniform.new.world ≡ self.world → IsOfMesh c.set_uniform.new.world m = λ is. subst (λ v. IsOfMesh v m) (sym is) (of_now self.names self.world self.outs.items self.marks self.laid_out valid) in
    let kept =
    set_kept self.names self.world self.outs.items self.marks self.laid_out valid (commands.Uniform b) (even self.names self.world self.outs.items self.marks self.laid_out valid b)
    (uniform_fits self.names self.world self.outs.items self.marks self.laid_out valid b c.requires.face c.requires.fluxes) (uniform_refused self.names self.world self.outs.items self.marks self.laid_out valid b) (uniform_made self.names self.world self.outs.items self.marks self.laid_out valid b)
    c.set_uniform.new.world c.set_uniform.result (faces_alone self.world c.set_uniform.new.world set.only) set.in_range set.holds (if_error c.set_uniform.result stays set.stays) in
    record { room = c.args.self.now.room; named = c.args.self.now.named; fit = set.fit; laid_out = kept.0; valid = ∣ kept.1 ∣₁ }

pub returns-in-Ok-clause-changes : goal.returns-in-Ok-clause-changes
returns-in-Ok-clause-changes g c =
    let self = c.args.self.now in
    let valid = mesh_out (mesh_of self.names self.world self.outs.items self.marks) self.valid in
    let b = c.args.b in
    let none = c.in-Ok.ensures.in_range in
    let field = even self.names self.world self.outs.items self.marks self.laid_out valid b in
    let fits = uniform_fits self.names self.world self.outs.items self.marks self.laid_out valid b c.requires.face c.requires.fluxes in
    let refused = uniform_refused self.names self.world self.outs.items self.marks self.laid_out valid b in
    let made = uniform_made self.names self.world self.outs.items self.marks self.laid_out valid b in (
      set_allowed self.names self.world self.outs.items self.marks self.laid_out valid (commands.Uniform b) field fits refused made none,
      set_is self.names self.world self.outs.items self.marks self.laid_out valid (commands.Uniform b) field fits refused made c.set_uniform.new.world (faces_alone self.world c.set_uniform.new.world c.set_uniform.ensures.only) c.in-Ok.ensures.holds none,
    )

pub returns-in-Err-clause-changes : goal.returns-in-Err-clause-changes
returns-in-Err-clause-changes g c =
    let self = c.args.self.now in
    let m = mesh_of self.names self.world self.outs.items self.marks in
    let valid = mesh_out m self.valid in
    let b = c.args.b in
    let field = even self.names self.world self.outs.items self.marks self.laid_out valid b in
    let fits = uniform_fits self.names self.world self.outs.items self.marks self.laid_out valid b c.requires.face c.requires.fluxes in
    let refused = uniform_refused self.names self.world self.outs.items self.marks self.laid_out valid b in
    let made = uniform_made self.names self.world self.outs.items self.marks self.laid_out valid b in (
      subst (λ cause. MayStop (stopped_by cause) m (commands.Uniform b)) (sym c.of_faces.ensures)
          (set_refused self.names self.world self.outs.items self.marks self.laid_out valid (commands.Uniform b) field fits refused made c.in-Err.found c.in-Err.ensures.stop),
      ap (λ (w : WorldState). mesh_of self.names w self.outs.items self.marks) c.in-Err.ensures.stays,
    )
