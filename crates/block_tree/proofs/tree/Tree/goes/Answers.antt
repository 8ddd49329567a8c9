use Rattle.block_tree.specs.GridOf.{grid_of}
use Rattle.block_tree.specs.Numbered.{block_at, flag_in}
use Rattle.block_tree.proofs.Taking.{goes_with, root_stays}
use Rattle.block_tree.proofs.tree.Tree.goes.Goals as goal

pub returns-in-Some : goal.returns-in-Some
returns-in-Some c =
    let t = c.args.self.now in
    let parent = c.in-Some.ensures in
    goes_with t (flag_in c.args.merge.now) (block_at (grid_of t) c.args.node) c.in-Some.parent parent.0 parent.1

pub returns-in-None : goal.returns-in-None
returns-in-None c =
    let t = c.args.self.now in
    root_stays t (flag_in c.args.merge.now) (block_at (grid_of t) c.args.node) c.in-None.ensures
