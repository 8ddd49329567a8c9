use Rattle.std.proofs.Common.{sym, arith}
use Rattle.block_tree.specs.GridOf.{grid_of}
use Rattle.block_tree.specs.Numbered.{block_at}
use Rattle.mesh_model.specs.Tree.Closure.{is_ready}
use Rattle.refine_marks.specs.Planned.{marked_by}
use Rattle.refine_marks.proofs.MergedLevels.{all_children}
use Rattle.refine_marks.proofs.merging.has_ready_children.Goals as goal

pub returns : goal.returns
returns c =
    let g = grid_of c.args.tree.now in
    sym (all_children (is_ready (marked_by c.args.tree.now c.args.marks.now)) (block_at g c.args.node) (λ q l. c.loop-octant.invariant q (omega arith)))
