use Rattle.std.proofs.Common.{◌≡◌, rules, of_z, subst, to_z, w64}
use Rattle.mesh_model.specs.Tree.ValidGrid.{Valid}
use Rattle.block_tree.proofs.Facts.{known}
use Rattle.staggered.proofs.FaceSet.{face_set, faces_hold}
use Rattle.staggered.proofs.setting.set_face.Goals as goal

pub returns-clause-set : goal.returns-clause-set
returns-clause-set g c =
    let number : to_z w64 (of_z w64 c.args.value) ≡ c.args.value = search rules in
    face_set c.args.world.now c.put_side.new.world c.put_side-2.new.world c.tree-tree.result.now c.shape-shape.result c.args.at (to_z w64 (of_z w64 c.args.value)) c.args.value number c.can_be_set.result c.side_cells-sides.result
    c.tree-tree.ensures c.shape-shape.ensures.value c.can_be_set.ensures.value c.if-not-can_be_set.false c.side_cells-sides.ensures c.put_side.ensures.only.told c.put_side-2.ensures.only.told c.put_side.ensures.set c.put_side-2.ensures.set

pub returns-clause-holds : goal.returns-clause-holds
returns-clause-holds g c =
    let valid : Valid c.args.world.now.told.grid = subst Valid c.tree-tree.ensures (known c.tree-tree.result.now).valid in
    faces_hold c.args.world.now c.put_side-2.new.world c.args.at c.args.value valid (returns-clause-set g c)
