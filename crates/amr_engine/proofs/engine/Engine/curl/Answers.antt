use Rattle.std.proofs.Common.{arith, sym, subst}
use Rattle.mesh_model.specs.declared.language.script.Command.TheVariants as commands
use Rattle.mesh_model.specs.declared.fields.values.Var.TheVariants.{FaceWork}
use Rattle.rank_world.specs.Holding.{IsOfMesh, OnlyAxes}
use Rattle.amr_engine.specs.EngineMesh.{mesh_of}
use Rattle.amr_engine.specs.Stopping.{MayStop, stopped_by}
use Rattle.amr_engine.proofs.EdgePut.{edges_small}
use Rattle.amr_engine.proofs.FacesMade.{curl_made, curl_refused, if_error, round, set_allowed, set_is, set_kept, set_refused, work_faces_stay}
use Rattle.amr_engine.proofs.Made.{edges_now, has_edges, has_faces, same_mesh}
use Rattle.amr_engine.proofs.ValidOut.{mesh_out}
use Rattle.amr_engine.proofs.engine.Engine.curl.Goals as goal

pub set_curl-requires : goal.set_curl-requires
unfolding mesh_of
set_curl-requires g c =
    let self = c.args.self.now in
    let valid = mesh_out (mesh_of self.names self.world self.outs.items self.marks) self.valid in (
      omega arith,
      (
        self.fit,
        (
          has_faces self.names self.world self.outs.items self.marks self.laid_out valid c.requires.fits.0,
          (
            has_edges self.names self.world self.outs.items self.marks self.laid_out valid c.requires.fits.1,
            edges_small self.names self.world self.outs.items self.marks self.laid_out valid g.row.N g.row.G self.fit (has_edges self.names self.world self.outs.items self.marks self.laid_out valid c.requires.fits.1),
          ),
        ),
      ),
    )

pub invariant_of-self : goal.invariant_of-self
unfolding mesh_of
invariant_of-self g c =
    let self = c.args.self.now in
    let m = mesh_of self.names self.world self.outs.items self.marks in
    let valid = mesh_out m self.valid in
    let set = c.set_curl.ensures in
    let some = has_edges self.names self.world self.outs.items self.marks self.laid_out valid c.requires.fits.1 in
    let edges = edges_now self.names self.world self.outs.items self.marks self.laid_out valid some in
    let stays : OnlyAxes FaceWork self.world c.set_curl.new.world → IsOfMesh c.set_curl.new.world m = work_faces_stay self.names self.world self.outs.items self.marks self.laid_out valid c.set_curl.new.world in
    let kept =
    set_kept self.names self.world self.outs.items self.marks self.laid_out valid commands.Curl (round self.names self.world self.outs.items self.marks self.laid_out valid)
    c.requires.fits (curl_refused self.names self.world self.outs.items self.marks self.laid_out valid) (curl_made self.names self.world self.outs.items self.marks self.laid_out valid)
    c.set_curl.new.world c.set_curl.result set.only (set.in_range _ edges) (set.holds _ edges) (if_error c.set_curl.result stays set.stays) in
    record { room = c.args.self.now.room; named = c.args.self.now.named; fit = set.fit; laid_out = kept.0; valid = ∣ kept.1 ∣₁ }

pub returns-in-Ok-clause-changes : goal.returns-in-Ok-clause-changes
unfolding mesh_of
returns-in-Ok-clause-changes g c =
    let self = c.args.self.now in
    let valid = mesh_out (mesh_of self.names self.world self.outs.items self.marks) self.valid in
    let some = has_edges self.names self.world self.outs.items self.marks self.laid_out valid c.requires.fits.1 in
    let edges = edges_now self.names self.world self.outs.items self.marks self.laid_out valid some in
    let field = round self.names self.world self.outs.items self.marks self.laid_out valid in
    let refused = curl_refused self.names self.world self.outs.items self.marks self.laid_out valid in
    let made = curl_made self.names self.world self.outs.items self.marks self.laid_out valid in
    let none = c.in-Ok.ensures.in_range _ edges in (
      set_allowed self.names self.world self.outs.items self.marks self.laid_out valid commands.Curl field c.requires.fits refused made none,
      set_is self.names self.world self.outs.items self.marks self.laid_out valid commands.Curl field c.requires.fits refused made c.set_curl.new.world c.set_curl.ensures.only (c.in-Ok.ensures.holds _ edges) none,
    )

pub returns-in-Err-clause-changes : goal.returns-in-Err-clause-changes
unfolding mesh_of
returns-in-Err-clause-changes g c =
    let self = c.args.self.now in
    let m = mesh_of self.names self.world self.outs.items self.marks in
    let valid = mesh_out m self.valid in
    let some = has_edges self.names self.world self.outs.items self.marks self.laid_out valid c.requires.fits.1 in
    let edges = edges_now self.names self.world self.outs.items self.marks self.laid_out valid some in
    let field = round self.names self.world self.outs.items self.marks self.laid_out valid in
    let refused = curl_refused self.names self.world self.outs.items self.marks self.laid_out valid in
    let made = curl_made self.names self.world self.outs.items self.marks self.laid_out valid in
    let new = c.set_curl.new.world in (
      subst (λ cause. MayStop (stopped_by cause) m commands.Curl) (sym c.of_faces.ensures)
          (set_refused self.names self.world self.outs.items self.marks self.laid_out valid commands.Curl field c.requires.fits refused made c.in-Err.found (c.in-Err.ensures.stop _ edges)),
      same_mesh self.names self.world self.outs.items self.marks self.laid_out valid new c.set_curl.ensures.only.told (work_faces_stay self.names self.world self.outs.items self.marks self.laid_out valid new c.in-Err.ensures.stays),
    )
