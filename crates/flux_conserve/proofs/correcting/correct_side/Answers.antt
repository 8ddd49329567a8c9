use Rattle.std.proofs.Common.{lit<, subst}
use Rattle.mesh_model.specs.Tree.ValidGrid.{Valid}
use Rattle.block_tree.proofs.Facts.{known}
use Rattle.flux_conserve.proofs.Worlds.{finer_told, near_within, side_summed, summed}
use Rattle.flux_conserve.proofs.correcting.correct_side.Goals as goal

pub take_sums-requires : goal.take_sums-requires
take_sums-requires g c =
    let w = c.args.world.now in
    let valid : Valid w.told.grid = subst Valid c.tree-tree.ensures (known c.tree-tree.result.now).valid in
    let finer = finer_told _ w.told.grid c.args.axis c.args.high c.args.node c.in-Some.beside c.at.result c.tree-tree.ensures c.at.ensures.value c.in-Some.ensures in (
      lit< tt,
      (c.requires.fit, (c.requires.declared, (c.requires.leaf, (finer, near_within c.args.work w valid c.args.node c.args.axis c.args.high c.in-Some.beside c.requires.leaf finer c.requires.tame)))),
    )

pub returns-in-Some : goal.returns-in-Some
returns-in-Some g c =
    let w = c.args.world.now in
    let valid : Valid w.told.grid = subst Valid c.tree-tree.ensures (known c.tree-tree.result.now).valid in
    let finer = finer_told _ w.told.grid c.args.axis c.args.high c.args.node c.in-Some.beside c.at.result c.tree-tree.ensures c.at.ensures.value c.in-Some.ensures in
    record {
      summed = summed c.args.work g.row.N g.row.G w c.take_sums.new.world valid c.args.node c.args.axis c.args.high c.in-Some.beside c.requires.leaf finer c.take_sums.ensures c.requires.tame;
      side = side_summed c.args.work g.row.N g.row.G w c.take_sums.new.world valid c.args.node c.args.axis c.args.high c.in-Some.beside c.requires.leaf finer c.take_sums.ensures c.requires.tame;
    }
