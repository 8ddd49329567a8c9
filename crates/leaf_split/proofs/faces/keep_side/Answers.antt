use Rattle.std.proofs.Common.{subst}
use Rattle.mesh_model.specs.Tree.Kinds.{Grid}
use Rattle.mesh_model.specs.Tree.ValidGrid.{Valid}
use Rattle.mesh_model.proofs.GeometryLemmas.ShapeLimits.{cells_some}
use Rattle.block_tree.proofs.Facts.{known}
use Rattle.leaf_split.specs.FaceKeeps.{IsLeafBeside}
use Rattle.leaf_split.proofs.Keeps.{copied_side, copied_sized}
use Rattle.leaf_split.proofs.faces.keep_side.Goals as goal

pub returns-in-Some-clause-side : goal.returns-in-Some-clause-side
returns-in-Some-clause-side g c =
    let w = c.args.world.now in
    let valid : Valid w.told.grid = subst Valid c.tree.ensures (known c.tree.result.now).valid in
    let beside : IsLeafBeside w.told.grid c.args.axis c.args.high c.args.block c.in-Some.leaf = subst (λ (h : Grid). IsLeafBeside h c.args.axis c.args.high c.args.block c.in-Some.leaf) c.tree.ensures c.in-Some.ensures in
    copied_side w c.args.axis c.args.high c.args.block c.in-Some.leaf (cells_some valid.shape) c.requires.block beside c.values.result.now c.args.to.now c.copy_side.new.to
    (copied_sized g.row.N g.row.G w.told.grid.shape c.args.axis c.args.high c.values.result.now c.args.to.now c.copy_side.new.to c.requires.fit.sizes c.copy_side.ensures) c.values.ensures.value
