use Rattle.block_tree.specs.GridOf.{grid_of}
use Rattle.block_tree.specs.Marked.{IsMarksOf}
use Rattle.regrid_move.proofs.tests.plan_of.Given as goal

abbrev pub invariant-loop-node : goal.invariant-loop-node
invariant-loop-node l = IsMarksOf (grid_of l.tree) l.marks
