use Rattle.block_tree.specs.GridOf.{grid_of}
use Rattle.block_tree.specs.Numbered.{block_at}
use Rattle.refine_marks.proofs.MergedLevels.{stays_is, root_stays}
use Rattle.refine_marks.proofs.merging.has_no_flagged_parent.Goals as goal

pub returns-in-Some : goal.returns-in-Some
returns-in-Some c set are = stays_is (grid_of c.args.tree.now) set c.args.merge.now c.args.node c.in-Some.parent are c.in-Some.ensures.1 c.in-Some.ensures.0

pub returns-in-None : goal.returns-in-None
returns-in-None c set are = root_stays set (block_at (grid_of c.args.tree.now) c.args.node) c.in-None.ensures
