use Rattle.std.proofs.Common.{Bool}
use Rattle.amr_num.specs.declared.BlockAt.{BlockAt}
use Rattle.block_tree.specs.GridOf.{grid_of}
use Rattle.block_tree.specs.Numbered.{block_at}
use Rattle.refine_marks.specs.Closing.{spread_to}
use Rattle.refine_marks.specs.Flags.{AreFlagsOf}
use Rattle.refine_marks.proofs.Flagged.{AreSetBelow}
use Rattle.refine_marks.proofs.refining.spread.Given as goal

abbrev pub invariant-loop-node : goal.invariant-loop-node
invariant-loop-node l = (set : BlockAt → Bool) → AreFlagsOf (grid_of l.tree) set l.fn.flags → AreSetBelow l.node (λ k. spread_to (grid_of l.tree) l.level set (block_at (grid_of l.tree) k)) l.fn.flags l.flags
