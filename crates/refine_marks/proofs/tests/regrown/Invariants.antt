use Rattle.block_tree.specs.GridOf.{grid_of}
use Rattle.block_tree.specs.Marked.{IsMarksOf}
use Rattle.refine_marks.proofs.tests.regrown.Given as goal

abbrev pub invariant-loop-block : goal.invariant-loop-block
invariant-loop-block l = IsMarksOf (grid_of l.tree) l.marks

abbrev pub invariant-loop-node : goal.invariant-loop-node
invariant-loop-node l = IsMarksOf (grid_of l.tree) l.marks
