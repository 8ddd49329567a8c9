use Rattle.std.proofs.Common.{◌≡◌, ◌<◌, ◌^◌, true, ap, arith, sym, subst, ◌∙◌}
use Rattle.amr_num.specs.declared.FaceAt.{FaceAt}
use Rattle.block_tree.proofs.Facts.{known}
use Rattle.mesh_model.specs.declared.fields.values.Var.TheVariants.{EdgeWork}
use Rattle.mesh_model.specs.Fields.Advect.{keeps_courant, three}
use Rattle.mesh_model.specs.Fields.Induct.{leaf_electromotive_force}
use Rattle.mesh_model.specs.Fields.Ranks.{Told, WorldState}
use Rattle.mesh_model.specs.Tree.ValidGrid.{Valid}
use Rattle.rank_world.specs.Holding.{IsOfValidMesh, LeavesHoldEdges, LeavesHoldFaces, OnlyAxes}
use Rattle.mesh_steps.specs.Forcing.{MayForce}
use Rattle.mesh_steps.proofs.Driven.{edges_keep, filled_keeps, mesh_still, reads_small, summed_keeps}
use Rattle.mesh_steps.proofs.MeshSet.{on_all}
use Rattle.mesh_steps.proofs.induction.drive.Goals as goal

pub fill-requires : goal.fill-requires
fill-requires g c =
    let old = c.args.world.now in
    let summed = c.restrict_all.new.world in (
      omega arith,
      (
        c.restrict_all.ensures.fit,
        (
          subst (λ (t : Told). 0 < t.counts.faces) (sym c.restrict_all.ensures.only.only.told) c.requires.faces,
          mesh_still old summed (summed_keeps old summed c.restrict_all.ensures.only) c.requires.mesh,
        ),
      ),
    )

pub force-requires : goal.force-requires
force-requires g c =
    let told = c.fill.ensures.only.told ∙ c.restrict_all.ensures.only.only.told in
    let of = c.requires.mesh in
    let field = of.mesh.faces in (
      omega arith,
      (
        c.fill.ensures.fit,
        (
          subst (λ (t : Told). 0 < t.counts.faces) (sym told) c.requires.faces,
          (
            record {
              field = field;
              guarded = c.fill.ensures.guards field (c.restrict_all.ensures.views field (of.world.on_faces c.requires.faces));
              small = of.valid.range.faces;
            },
            (
              c.requires.speeds,
              subst (λ (t : Told). keeps_courant t.grid.shape (three c.args.speeds) ≡ true) (sym told) c.requires.courant,
            ),
          ),
        ),
      ),
    )

pub agree-requires : goal.agree-requires
agree-requires g c = (omega arith, (c.force.ensures.fit, (λ v is. absurd cc, (λ is. absurd cc, (tt, c.force.ensures.small)))))

pub returns : goal.returns
returns g c =
    let n = g.row.N in
    let e = g.row.G in
    let old = c.args.world.now in
    let summed = c.restrict_all.new.world in
    let filled = c.fill.new.world in
    let forced = c.force.new.world in
    let agreed = c.agree.new.world in
    let speeds = three c.args.speeds in
    let of = c.requires.mesh in
    let told = c.fill.ensures.only.told ∙ c.restrict_all.ensures.only.only.told in
    let last = on_all EdgeWork forced agreed c.agree.ensures.only in
    let edges : OnlyAxes EdgeWork filled agreed = record { told = last.told ∙ c.force.ensures.only.told; others = λ u at apart. last.others u at apart ∙ c.force.ensures.only.others u at apart } in
    let all : agreed.told ≡ old.told = edges.told ∙ told in
    let may : MayForce n e filled speeds = record {
      fit = c.fill.ensures.fit;
      declared = subst (λ (t : Told). 0 < t.counts.faces) (sym told) c.requires.faces;
      guarded = record {
        field = of.mesh.faces;
        guarded = c.fill.ensures.guards of.mesh.faces (c.restrict_all.ensures.views of.mesh.faces (of.world.on_faces c.requires.faces));
        small = of.valid.range.faces;
      };
      courant = subst (λ (t : Told). keeps_courant t.grid.shape speeds ≡ true) (sym told) c.requires.courant;
    } in
    let there : IsOfValidMesh filled = mesh_still summed filled (filled_keeps summed filled c.fill.ensures.only) (mesh_still old summed (summed_keeps old summed c.restrict_all.ensures.only) of) in
    let valid : Valid filled.told.grid = subst Valid (sym there.world.grid) there.valid.grid in
    record {
      fit = c.agree.ensures.fit;
      told = all;
      meshes = λ m is. edges_keep filled agreed edges m (filled_keeps summed filled c.fill.ensures.only m (summed_keeps old summed c.restrict_all.ensures.only m is));
      forces = λ field holds.
          let guarded = c.fill.ensures.guards field (c.restrict_all.ensures.views field holds) in
          let here = c.agree.ensures.views (leaf_electromotive_force filled.told.grid field speeds) (c.force.ensures.holds field guarded) in
          subst (λ (t : Told). LeavesHoldEdges true agreed (leaf_electromotive_force t.grid field speeds)) told here;
      small = λ node leaf. reads_small n e filled agreed speeds valid may edges c.agree.ensures.fit c.agree.ensures.small node leaf;
    }
