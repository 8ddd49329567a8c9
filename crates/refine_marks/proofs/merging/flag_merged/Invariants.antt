use Rattle.block_tree.specs.GridOf.{grid_of}
use Rattle.refine_marks.specs.Closing.{merged_from}
use Rattle.refine_marks.specs.Flags.{AreFlagsOf}
use Rattle.refine_marks.specs.Planned.{marked_by}
use Rattle.refine_marks.proofs.merging.flag_merged.Given as goal

abbrev pub invariant-loop-level : goal.invariant-loop-level
invariant-loop-level l = AreFlagsOf (grid_of l.tree) (merged_from (marked_by l.tree l.marks) l.level) l.merge
