use Rattle.std.proofs.Common.{◌≡◌, ◌<◌, ℤ, None, Some, true, false, arith, ap, sym, subst, ◌∙◌}
use Rattle.amr_num.specs.declared.EdgeAt.{EdgeAt}
use Rattle.amr_num.specs.declared.FaceAt.{FaceAt}
use Rattle.mesh_model.specs.declared.fields.values.Var.TheVariants.{FaceWork}
use Rattle.mesh_model.specs.Fields.Advect as stepping
use Rattle.mesh_model.specs.Fields.Advect.{three}
use Rattle.mesh_model.specs.Fields.Induct.{inducted, leaf_electromotive_force, less_circulation}
use Rattle.mesh_model.specs.Fields.Views.{edge_view}
use Rattle.mesh_model.specs.Fields.Plain.{Mesh}
use Rattle.mesh_model.specs.Fields.Ranks.{Told, WorldState}
use Rattle.mesh_model.specs.Tree.Kinds.{Grid}
use Rattle.rank_world.specs.Holding.{IsOfMesh, LeavesHoldEdges, LeavesHoldFaces}
use Rattle.staggered.specs.Facing.{walked_above}
use Rattle.mesh_steps.specs.Circulations.{LeavesShow}
use Rattle.mesh_steps.specs.Stepping.{KeepsMeshes}
use Rattle.mesh_steps.specs.declared.circulations.Step.TheVariants as steps
use Rattle.mesh_steps.proofs.MeshSet.{axes_stay, faces_set, work_faces}
use Rattle.mesh_steps.proofs.induction.induct.Goals as goal

-- what the leaves show once they are driven
module _ (old driven : WorldState) (m : Mesh) (of : IsOfMesh old m) (some : 0 < old.told.counts.faces) (told : driven.told ≡ old.told) (meshes : KeepsMeshes old driven) (field : EdgeAt → ℤ)
    (forces : LeavesHoldEdges true driven field) where
  shown : LeavesShow steps.Induct driven m.faces field
  shown node leaf = record { on_edges = forces node leaf; on_faces = λ is. (meshes m of).on_faces (subst (λ (t : Told). 0 < t.counts.faces) (sym told) some) node leaf }

pub step_leaves-requires : goal.step_leaves-requires
step_leaves-requires g c = (omega arith, (c.drive.ensures.fit, (subst (λ (t : Told). 0 < t.counts.faces) (sym c.drive.ensures.told) c.requires.faces, c.drive.ensures.small)))

pub take_faces-requires : goal.take_faces-requires
take_faces-requires g c = (omega arith, (c.step_leaves.ensures.fit, subst (λ (t : Told). 0 < t.counts.faces) (sym (c.step_leaves.ensures.only.told ∙ c.drive.ensures.told)) c.requires.faces))

pub drive-requires : goal.drive-requires
drive-requires g c =
    let old = c.args.world.now in
    let shape = c.shape.ensures.value ∙ ap (λ (h : Grid). h.shape) c.tree.ensures in
    let slow : stepping.keeps_courant old.told.grid.shape (three c.args.speeds) ≡ true = ap (λ s. stepping.keeps_courant s (three c.args.speeds)) (sym shape) ∙ sym c.keeps_courant.ensures ∙ c.if-not-keeps_courant.false in
    (omega arith, (c.requires.fit, (c.requires.mesh, (c.requires.faces, (c.requires.speeds, slow)))))

pub returns-then-not-keeps_courant-clause-inducts : goal.returns-then-not-keeps_courant-clause-inducts
returns-then-not-keeps_courant-clause-inducts g c m valid of =
    let shape = c.shape.ensures.value ∙ ap (λ (h : Grid). h.shape) (c.tree.ensures ∙ of.grid) in
    (ap (λ s. stepping.keeps_courant s (three c.args.speeds)) (sym shape) ∙ sym c.keeps_courant.ensures ∙ c.if-not-keeps_courant.true, of)

pub returns-in-Err-clause-inducts : goal.returns-in-Err-clause-inducts
returns-in-Err-clause-inducts g c m valid of =
    let old = c.args.world.now in
    let driven = c.drive.new.world in
    let stepped = c.step_leaves.new.world in
    let speeds = three c.args.speeds in
    let forces = c.drive.ensures.forces m.faces (of.on_faces c.requires.faces) in
    let shape = c.shape.ensures.value ∙ ap (λ (h : Grid). h.shape) (c.tree.ensures ∙ of.grid) in
    let shows = shown old driven m of c.requires.faces c.drive.ensures.told c.drive.ensures.meshes (leaf_electromotive_force old.told.grid m.faces speeds) forces in
    let first = c.in-Err.ensures.refused m.faces (leaf_electromotive_force old.told.grid m.faces speeds) shows in
    let on_old : walked_above old.told.grid (inducted old.told.grid m.faces speeds) ≡ Some c.in-Err.found = subst (λ (t : Told). walked_above t.grid (less_circulation t.grid m.faces (edge_view t.grid (leaf_electromotive_force old.told.grid m.faces speeds))) ≡ Some c.in-Err.found) c.drive.ensures.told first in (
      ap (λ s. stepping.keeps_courant s speeds) (sym shape) ∙ sym c.keeps_courant.ensures ∙ c.if-not-keeps_courant.false,
      subst (λ (h : Grid). walked_above h (inducted h m.faces speeds) ≡ Some c.in-Err.found) of.grid on_old,
      axes_stay FaceWork work_faces driven stepped m c.step_leaves.ensures.only (c.drive.ensures.meshes m of),
    )

pub returns-in-Ok-clause-inducts : goal.returns-in-Ok-clause-inducts
returns-in-Ok-clause-inducts g c m valid of =
    let old = c.args.world.now in
    let driven = c.drive.new.world in
    let stepped = c.step_leaves.new.world in
    let taken = c.take_faces.new.world in
    let speeds = three c.args.speeds in
    let emf = leaf_electromotive_force old.told.grid m.faces speeds in
    let forces = c.drive.ensures.forces m.faces (of.on_faces c.requires.faces) in
    let shape = c.shape.ensures.value ∙ ap (λ (h : Grid). h.shape) (c.tree.ensures ∙ of.grid) in
    let shows = shown old driven m of c.requires.faces c.drive.ensures.told c.drive.ensures.meshes emf forces in
    let none = c.in-Ok.ensures.in_range m.faces emf shows in
    let on_old : walked_above old.told.grid (inducted old.told.grid m.faces speeds) ≡ None = subst (λ (t : Told). walked_above t.grid (less_circulation t.grid m.faces (edge_view t.grid emf)) ≡ None) c.drive.ensures.told none in
    let holds = c.take_faces.ensures.holds steps.Induct m.faces emf (c.in-Ok.ensures.has m.faces emf shows) in
    let all = c.step_leaves.ensures.only.told ∙ c.drive.ensures.told in
    let new : LeavesHoldFaces taken (inducted old.told.grid m.faces speeds) = subst (λ (t : Told). LeavesHoldFaces taken (less_circulation t.grid m.faces (edge_view t.grid emf))) all holds in
    let still = axes_stay FaceWork work_faces driven stepped m c.step_leaves.ensures.only (c.drive.ensures.meshes m of) in (
      ap (λ s. stepping.keeps_courant s speeds) (sym shape) ∙ sym c.keeps_courant.ensures ∙ c.if-not-keeps_courant.false,
      subst (λ (h : Grid). walked_above h (inducted h m.faces speeds) ≡ None) of.grid on_old,
      faces_set stepped taken m (inducted m.grid m.faces speeds) still c.take_faces.ensures.only (subst (λ (h : Grid). LeavesHoldFaces taken (inducted h m.faces speeds)) of.grid new),
    )
