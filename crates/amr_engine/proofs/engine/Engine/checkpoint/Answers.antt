use Rattle.std.proofs.Common.{◌≡◌, ◌⊎◌, ℕ, List, [], ◌∷◌, length, refl, sym, subst, ap, ◌∙◌, arith}
use Rattle.outside_io.proofs.Moments.{weaker}
use Rattle.check_disk.specs.Images.{FitsImage, images}
use Rattle.check_disk.specs.Stages.{IsStage}
use Rattle.mesh_model.specs.Fields.Valid.{ValidMesh}
use Rattle.mesh_model.specs.Images.Held.{Found, held}
use Rattle.mesh_model.specs.Run.Stops.{refusal}
use Rattle.amr_engine.specs.EngineMesh.{IsLaidOut, mesh_of}
use Rattle.amr_engine.specs.Pieced.{pieced}
use Rattle.amr_engine.specs.Plain.{plain}
use Rattle.amr_engine.specs.Saving.{given_of}
use Rattle.amr_engine.proofs.Saved.{fits_image, one_stage}
use Rattle.amr_engine.proofs.ValidOut.{mesh_out}
use Rattle.amr_engine.proofs.engine.Engine.checkpoint.Goals as goal

pub new-pieces-requires : goal.new-pieces-requires
new-pieces-requires g c =
    let self = c.args.self.now in
    let same = sym c.deref.ensures.value in (
      omega arith,
      (
        omega arith,
        (
          self.fit,
          (subst (λ o. IsLaidOut self.names self.world o self.marks) same self.laid_out, subst (λ o. ValidMesh (mesh_of self.names self.world o self.marks)) same (mesh_out (plain self) self.valid)),
        ),
      ),
    )

pub save-requires : goal.save-requires
save-requires g c =
    let self = c.args.self.now in
    let same = sym (c.new-pieces.ensures.mesh ∙ ap (λ o. mesh_of self.names self.world o self.marks) c.deref.ensures.value) in
    record {
      room = let long = ap (λ (l : List ℕ). length l) c.deref_mut.ensures.value in let room = self.room in omega (arith, long, room);
      fresh = ap (given_of (pieced c.new-pieces.result)) c.new-pieces.ensures.none;
      fits = subst FitsImage same (fits_image self.names self.world self.outs.items self.marks (mesh_out (plain self) self.valid) self.named);
    }

pub returns-in-Ok-clause-changes : goal.returns-in-Ok-clause-changes
unfolding refusal
returns-in-Ok-clause-changes g c = (refl, refl)

pub returns-in-Ok-clause-whole : goal.returns-in-Ok-clause-whole
returns-in-Ok-clause-whole g c areas rests whole =
    let self = c.args.self.now in
    let first = held areas.a areas.b in
    let same = c.new-pieces.ensures.mesh ∙ ap (λ o. mesh_of self.names self.world o self.marks) c.deref.ensures.value in
    weaker g.D.Disk.moment g.D.Disk.left_since c.args.disk.now c.save.new.disk (λ e. (held e.a e.b ≡ first) ⊎ (held e.a e.b ≡ Found (pieced c.new-pieces.result))) (IsStage images first (plain self ∷ []) 1)
    (λ e one. one_stage (plain self) first e (subst (λ m. (held e.a e.b ≡ first) ⊎ (held e.a e.b ≡ Found m)) same one)) (c.save.ensures.moments areas rests whole)

pub returns-in-Err-clause-whole : goal.returns-in-Err-clause-whole
returns-in-Err-clause-whole g c areas rests whole =
    let self = c.args.self.now in
    let first = held areas.a areas.b in
    let same = c.new-pieces.ensures.mesh ∙ ap (λ o. mesh_of self.names self.world o self.marks) c.deref.ensures.value in
    weaker g.D.Disk.moment g.D.Disk.left_since c.args.disk.now c.save.new.disk (λ e. (held e.a e.b ≡ first) ⊎ (held e.a e.b ≡ Found (pieced c.new-pieces.result))) (IsStage images first (plain self ∷ []) 1)
    (λ e one. one_stage (plain self) first e (subst (λ m. (held e.a e.b ≡ first) ⊎ (held e.a e.b ≡ Found m)) same one)) (c.save.ensures.moments areas rests whole)
