use Rattle.std.proofs.Common.{◌≡◌, ◌<◌, refl, rules, ap, subst, sym, ◌∙◌}
use Rattle.block_tree.proofs.Facts.{known}
use Rattle.mesh_model.specs.Fields.Arrays.{Counts}
use Rattle.mesh_model.specs.Fields.Ranks.{Told}
use Rattle.mesh_model.specs.Tree.Kinds.{Grid}
use Rattle.mesh_model.specs.Tree.Order.{Sorted}
use Rattle.mesh_model.specs.Tree.ValidGrid.{Valid}
use Rattle.mesh_model.specs.declared.fields.values.Group.TheVariants.{Face}
use Rattle.mesh_restore.proofs.WorldLemmas.{faces_within, filled_faces, small_after}
use Rattle.mesh_restore.proofs.world.fill_faces.Goals as goal

pub agree-requires : goal.agree-requires
agree-requires g c =
    let old = c.args.world.now in
    let new = c.fill_group.new.world in
    let some : 0 < old.told.counts.faces = search rules in
    let small = small_after old new Face c.args.faces.now c.fill_group.ensures.filled c.requires.faces (c.requires.small some) in
    (search rules, (c.fill_group.ensures.fit, (λ v e. cc, (λ e. refl, (subst (λ (t : Told). 0 < t.counts.faces) (sym c.fill_group.ensures.filled.only.told) some, faces_within new small)))))

pub returns-then-layout-gt0-clause-holds : goal.returns-then-layout-gt0-clause-holds
returns-then-layout-gt0-clause-holds g c = λ some field listed.
    let all = known c.tree-tree.result.now in
    c.agree.ensures.views field (filled_faces c.args.world.now c.fill_group.new.world c.args.faces.now (subst Valid c.tree-tree.ensures all.valid) (subst (λ (t : Grid). Sorted t.leaves) c.tree-tree.ensures all.order) field c.fill_group.ensures.filled listed)
