use Rattle.std.proofs.Common.{Bool}
use Rattle.amr_num.specs.declared.BlockAt.{BlockAt}
use Rattle.block_tree.specs.GridOf.{grid_of}
use Rattle.block_tree.specs.Numbered.{block_at}
use Rattle.refine_marks.specs.Closing.{merged_with}
use Rattle.refine_marks.specs.Flags.{AreFlagsOf}
use Rattle.refine_marks.specs.Planned.{marked_by}
use Rattle.refine_marks.proofs.Flagged.{AreSetBelow}
use Rattle.refine_marks.proofs.merging.merge_level.Given as goal

abbrev pub invariant-loop-node : goal.invariant-loop-node
invariant-loop-node l = (kept set : BlockAt → Bool) → AreFlagsOf (grid_of l.tree) kept l.stays → AreFlagsOf (grid_of l.tree) set l.fn.merge →
    AreSetBelow l.node (λ k. merged_with (marked_by l.tree l.marks) l.level kept set (block_at (grid_of l.tree) k)) l.fn.merge l.merge
