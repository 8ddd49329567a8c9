use Rattle.std.proofs.Common.{◌≡◌, ◌<◌, arith, false, subst}
use Rattle.mesh_model.specs.Geometry.Blocks.{parent_block}
use Rattle.mesh_model.specs.Tree.Kinds.{Grid, is_leaf_block}
use Rattle.regrid_move.proofs.Moved.{only_children}
use Rattle.regrid_move.proofs.axes.make_axes.Goals as goal

pub sum_up_axes-requires : goal.sum_up_axes-requires
sum_up_axes-requires g c =
    let grid = c.args.old.now.told.grid in
    let no_parent = subst (λ (h : Grid). 0 < c.args.block.level → is_leaf_block h (parent_block c.args.block) ≡ false) c.tree.ensures c.in-None.ensures in (
      omega arith,
      (c.requires.may, (only_children grid c.args.block c.requires.near c.requires.no_leaf no_parent, (c.requires.no_leaf, c.requires.block))),
    )
