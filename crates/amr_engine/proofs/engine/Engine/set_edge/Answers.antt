use Rattle.std.proofs.Common.{◌<◌, ◌^◌, arith, refl, sym, ap, subst, to_z, of_z, w64}
use Rattle.amr_num.proofs.Machine.{kept}
use Rattle.mesh_model.specs.Fields.Ranks.{Told, WorldState}
use Rattle.mesh_model.specs.Fields.Valid.{ValidMesh}
use Rattle.amr_engine.specs.EngineMesh.{mesh_of}
use Rattle.amr_engine.proofs.EdgePut.{put_allowed, put_is, put_laid, put_refused, put_valid, put_within}
use Rattle.staggered.specs.EdgeSetting.{with_edge}
use Rattle.amr_engine.proofs.Made.{has_edges, of_now}
use Rattle.amr_engine.proofs.ValidOut.{mesh_out}
use Rattle.amr_engine.proofs.engine.Engine.set_edge.Goals as goal

pub agree-requires : goal.agree-requires
unfolding mesh_of
agree-requires g c =
    let self = c.args.self.now in
    let valid = mesh_out (mesh_of self.names self.world self.outs.items self.marks) self.valid in
    let some = has_edges self.names self.world self.outs.items self.marks self.laid_out valid c.requires.fits.0 in
    let whole = kept c.args.value (2 ^ 40) c.requires.fits.2 (omega arith) in (
      omega arith,
      (
        c.set_edge.ensures.fit,
        (
          λ v is. cc,
          (
            λ is. refl,
            (
              subst (λ (t : Told). 0 < t.counts.edges) (sym c.set_edge.ensures.only.told) some,
              put_within self.names self.world self.outs.items self.marks self.laid_out valid c.args.at c.args.value c.requires.fits c.set_edge.new.world (to_z w64 (of_z w64 c.args.value)) whole c.in-Ok.ensures.there c.set_edge.ensures.only c.in-Ok.ensures.set,
            ),
          ),
        ),
      ),
    )

pub invariant_of-self : goal.invariant_of-self
unfolding mesh_of
invariant_of-self g c =
    let self = c.args.self.now in
    let m = mesh_of self.names self.world self.outs.items self.marks in
    let valid = mesh_out m self.valid in
    let mid = c.set_edge.new.world in
    let only = c.set_edge.ensures.only in
    let there = c.in-Ok.ensures.there in
    let set = c.in-Ok.ensures.set in
    let raw = to_z w64 (of_z w64 c.args.value) in
    let whole = kept c.args.value (2 ^ 40) c.requires.fits.2 (omega arith) in
    let new = c.agree.new.world in
    let second = c.agree.ensures.only in
    let some = has_edges self.names self.world self.outs.items self.marks self.laid_out valid c.requires.fits.0 in
    let holds = c.agree.ensures.views (with_edge m.edges c.args.at raw) (c.in-Ok.ensures.holds m.edges ((of_now self.names self.world self.outs.items self.marks self.laid_out valid).on_edges some)) in
    record {
      room = c.args.self.now.room;
      named = c.args.self.now.named;
      fit = c.agree.ensures.fit;
      laid_out = put_laid self.names self.world self.outs.items self.marks self.laid_out valid c.args.at c.args.value c.requires.fits mid raw whole there only set new second holds;
      valid =
          ∣ subst ValidMesh (sym (put_is self.names self.world self.outs.items self.marks self.laid_out valid c.args.at c.args.value c.requires.fits mid raw whole there only set new second holds))
          (put_valid self.names self.world self.outs.items self.marks self.laid_out valid c.args.at c.args.value c.requires.fits mid raw whole there only set) ∣₁;
    }

pub returns-in-Ok-clause-changes : goal.returns-in-Ok-clause-changes
unfolding mesh_of
returns-in-Ok-clause-changes g c =
    let self = c.args.self.now in
    let m = mesh_of self.names self.world self.outs.items self.marks in
    let valid = mesh_out m self.valid in
    let mid = c.set_edge.new.world in
    let only = c.set_edge.ensures.only in
    let there = c.in-Ok.ensures.there in
    let set = c.in-Ok.ensures.set in
    let raw = to_z w64 (of_z w64 c.args.value) in
    let whole = kept c.args.value (2 ^ 40) c.requires.fits.2 (omega arith) in
    let some = has_edges self.names self.world self.outs.items self.marks self.laid_out valid c.requires.fits.0 in
    let holds = c.agree.ensures.views (with_edge m.edges c.args.at raw) (c.in-Ok.ensures.holds m.edges ((of_now self.names self.world self.outs.items self.marks self.laid_out valid).on_edges some)) in (
      put_allowed self.names self.world self.outs.items self.marks self.laid_out valid c.args.at c.args.value c.requires.fits mid raw whole there only set,
      put_is self.names self.world self.outs.items self.marks self.laid_out valid c.args.at c.args.value c.requires.fits mid raw whole there only set c.agree.new.world c.agree.ensures.only holds,
    )

pub returns-in-Err-clause-changes : goal.returns-in-Err-clause-changes
unfolding mesh_of
returns-in-Err-clause-changes g c =
    let self = c.args.self.now in
    let m = mesh_of self.names self.world self.outs.items self.marks in
    let valid = mesh_out m self.valid in (
      put_refused self.names self.world self.outs.items self.marks self.laid_out valid c.args.at c.args.value c.requires.fits c.in-Err.ensures.refused,
      ap (λ (w : WorldState). mesh_of self.names w self.outs.items self.marks) c.in-Err.ensures.stays,
    )
