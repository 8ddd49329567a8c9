use Rattle.std.proofs.Common.{ℕ, Bool, arith}
use Rattle.block_tree.specs.GridOf.{grid_of}
use Rattle.block_tree.specs.Numbered.{block_at}
use Rattle.refine_marks.specs.Closing.{stays_beside}
use Rattle.refine_marks.proofs.Flagged.{one_set, all_set}
use Rattle.refine_marks.proofs.merging.flag_kept.Goals as goal

pub loop-node-preserved : goal.loop-node-preserved
loop-node-preserved c set are =
    let new : ℕ → Bool = λ k. stays_beside set (block_at (grid_of c.args.tree.now) k) in
    one_set c.loop-node.node new c.args.stays.now c.loop-node.stays (c.loop-node.invariant set are) c.has_no_flagged_parent.result (omega arith) (c.has_no_flagged_parent.ensures set are)

pub returns : goal.returns
returns c set are = all_set (grid_of c.args.tree.now) (stays_beside set) c.args.stays.now c.loop-node.stays c.loop-node.node (c.loop-node.invariant set are) c.requires.stays (omega arith)
