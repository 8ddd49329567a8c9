use Rattle.std.proofs.Common.{false, ap, subst, sym, ◌∙◌}
use Rattle.mesh_model.specs.declared.fields.values.Group.{Group}
use Rattle.mesh_model.specs.declared.fields.values.Group.TheVariants.{Face}
use Rattle.mesh_model.specs.Fields.FinePlaces.{faces_in}
use Rattle.mesh_model.specs.Fields.Ranks.{Told}
use Rattle.mesh_model.specs.Tree.ValidGrid.{Valid}
use Rattle.block_tree.specs.Numbered.{block_at}
use Rattle.block_tree.proofs.Facts.{known}
use Rattle.rank_world.specs.Holding.{face_array}
use Rattle.flux_conserve.specs.FaceArrays.{FacesHold}
use Rattle.flux_conserve.specs.Jumps.{jumped}
use Rattle.flux_conserve.proofs.Fields.{views_held}
use Rattle.edge_average.specs.Groups.{CopiesAgree}
use Rattle.edge_average.proofs.agreeing.agree.Goals as goal

pub returns-in-Face-clause-views : goal.returns-in-Face-clause-views
returns-in-Face-clause-views g c =
    let old = c.args.world.now in
    let new = c.correct_faces.new.world in
    let told = c.correct_faces.ensures.only.told in
    let valid : Valid new.told.grid = subst Valid (c.tree-tree.ensures ∙ ap (λ (t : Told). t.grid) (sym told)) (known c.tree-tree.result.now).valid in
    let agree : CopiesAgree Face c.args.work old new = λ field holds node leaf a.
    let sums : FacesHold false new (jumped new.told.grid field) = subst (λ (t : Told). FacesHold false new (jumped t.grid field)) (sym told) (c.correct_faces.ensures.leaf_faces field holds) in
    views_held new.told.grid field (block_at new.told.grid node) a (faces_in new.told.grid a (face_array new a node)) valid leaf.leaf (sums node a leaf) in
    subst (λ (u : Group). CopiesAgree u c.args.work old new) (sym c.in-Face.is) agree
