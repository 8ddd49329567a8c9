use Rattle.mesh_restore.proofs.LeafLemmas.{axes_filled}
use Rattle.mesh_restore.proofs.leaves.fill_axes.Goals as goal

pub returns-clause-filled : goal.returns-clause-filled
returns-clause-filled g c =
    axes_filled c.args.group c.requires.axes c.args.node c.args.world.now c.fill_array-behind_x.new.world c.fill_array-behind_y.new.world c.fill_array.new.world c.args.rest.now c.fill_array-behind_x.result.now c.fill_array-behind_y.result.now c.fill_array.result.now
    c.requires.leaf.shape c.fill_array-behind_x.ensures.filling c.fill_array-behind_y.ensures.filling c.fill_array.ensures.filling
