use Rattle.block_tree.specs.Marked.{refine_at}
use Rattle.refine_marks.proofs.Flagged.{AreSetBelow}
use Rattle.refine_marks.proofs.refining.flag_marked.Given as goal

abbrev pub invariant-loop-node : goal.invariant-loop-node
invariant-loop-node l = AreSetBelow l.node (refine_at l.marks) l.fn.flags l.flags
