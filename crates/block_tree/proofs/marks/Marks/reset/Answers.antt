use Rattle.std.proofs.Common.{length}
use Rattle.block_tree.specs.GridOf.{grid_of}
use Rattle.block_tree.proofs.Unmarked.{unmarked, fits_unmarked}
use Rattle.block_tree.proofs.marks.Marks.reset.Goals as goal

pub returns-clause-none : goal.returns-clause-none
returns-clause-none c = unmarked (grid_of c.args.tree.now) _ (length c.args.self.now.refine.items) (length c.args.self.now.derefine.items) c.lower.ensures c.lower-2.ensures

pub returns-clause-marks : goal.returns-clause-marks
returns-clause-marks c = fits_unmarked (grid_of c.args.tree.now) _ (length c.args.self.now.refine.items) (length c.args.self.now.derefine.items) c.lower.ensures c.lower-2.ensures c.requires
