use Rattle.std.proofs.Common.{◌≡◌, ◌<◌, true, arith, subst, sym, ◌∙◌}
use Rattle.flux_conserve.specs.Work.{HasNoJump, WorkHolds}
use Rattle.mesh_model.specs.Fields.Advect as stepping
use Rattle.mesh_model.specs.Fields.Advect.{flux, leaf_flux, three}
use Rattle.mesh_model.specs.Fields.Ranks.{Told}
use Rattle.rank_world.specs.Holding.{IsLeafNode}
use Rattle.mesh_steps.proofs.Flown.{guarded_same}
use Rattle.mesh_steps.proofs.Kept.{cells_keep_fields, faces_kept, guards_kept, meshes_kept, parents_kept, work_faces_keep_fields}
use Rattle.mesh_steps.proofs.advection.blow.Goals as goal

pub blow_faces-requires : goal.blow_faces-requires
blow_faces-requires g c =
    let a = c.args.world.now in
    let told : c.fill_sides.new.world.told ≡ a.told = c.fill_sides.ensures.only.only.told ∙ c.restrict_all.ensures.only.only.told in
    let mesh = c.requires.mesh in
    let content = mesh.mesh.cells c.args.v in
    let guards = c.fill_sides.ensures.guards content (c.restrict_all.ensures.views content (mesh.world.contents c.args.v c.requires.variable)) in (
      omega arith,
      (
        c.fill_sides.ensures.fit,
        (
          subst (λ (t : Told). c.args.v < t.counts.cells) (sym told) c.requires.variable,
          (
            record { content = content; guarded = guards; small = mesh.valid.range.cells c.args.v },
            (
              c.requires.speeds,
              (
                subst (λ (t : Told). stepping.keeps_courant t.grid.shape (three c.args.speeds) ≡ true) (sym told) c.requires.courant,
                λ none. subst (λ (t : Told). HasNoJump t.grid) (sym told) (c.requires.calm none),
              ),
            ),
          ),
        ),
      ),
    )

pub returns-clause-meshes : goal.returns-clause-meshes
returns-clause-meshes g c m of =
    let a = c.args.world.now in
    let b = c.restrict_all.new.world in
    let d = c.fill_sides.new.world in
    let f = c.blow_faces.new.world in
    meshes_kept d f c.blow_faces.ensures.only.told (faces_kept d f c.blow_faces.ensures.only) (work_faces_keep_fields d f c.blow_faces.ensures.only) m
    (meshes_kept b d c.fill_sides.ensures.only.only.told (guards_kept b d c.args.v c.fill_sides.ensures.only) (cells_keep_fields b d c.args.v c.fill_sides.ensures.only.only) m
    (meshes_kept a b c.restrict_all.ensures.only.only.told (parents_kept a b c.args.v c.restrict_all.ensures.only) (cells_keep_fields a b c.args.v c.restrict_all.ensures.only.only) m of))

pub returns-clause-flows : goal.returns-clause-flows
returns-clause-flows g c content holds =
    let a = c.args.world.now in
    let f = c.blow_faces.new.world in
    let n = three c.args.speeds in
    let to_fill : c.fill_sides.new.world.told ≡ a.told = c.fill_sides.ensures.only.only.told ∙ c.restrict_all.ensures.only.only.told in
    let sided = c.fill_sides.ensures.guards content (c.restrict_all.ensures.views content holds) in
    subst (λ (t : Told). WorkHolds f (flux t.grid content n)) to_fill (c.blow_faces.ensures.flows content sided)

pub returns-clause-guarded : goal.returns-clause-guarded
returns-clause-guarded g c content holds =
    let d = c.fill_sides.new.world in
    let f = c.blow_faces.new.world in
    let guarded = c.fill_sides.ensures.guards content (c.restrict_all.ensures.views content holds) in
    λ k leaf.
    guarded_same d f c.args.v k content c.blow_faces.ensures.only (guarded k (subst (λ (t : Told). IsLeafNode t.grid k) c.blow_faces.ensures.only.told leaf))
