use Rattle.std.proofs.Common.{rules}
use Rattle.staggered.proofs.Blocks.{small_block}
use Rattle.mesh_steps.proofs.Flown.{coordinate_small}
use Rattle.mesh_steps.proofs.flowing.is_closed_high.Goals as goal

pub overflow_add-is_last : goal.overflow_add-is_last
overflow_add-is_last c =
    let small = coordinate_small c.args.axis c.args.block (small_block c.args.shape.now c.args.block c.requires.shape c.requires.inside) in
    search rules
