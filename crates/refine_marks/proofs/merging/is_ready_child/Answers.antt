use Rattle.std.proofs.Common.{sym}
use Rattle.block_tree.specs.GridOf.{grid_of}
use Rattle.block_tree.specs.Numbered.{block_at}
use Rattle.block_tree.proofs.Facts.{known}
use Rattle.refine_marks.specs.Planned.{marked_by}
use Rattle.refine_marks.proofs.MergedLevels.{unready_below}
use Rattle.refine_marks.proofs.merging.is_ready_child.Goals as goal

pub returns-in-None : goal.returns-in-None
returns-in-None c =
    let g = grid_of c.args.tree.now in
    let tree = known c.args.tree.now in
    sym (unready_below (marked_by c.args.tree.now c.args.marks.now) tree.valid (block_at g c.args.node) c.args.octant c.in-None.ensures)
