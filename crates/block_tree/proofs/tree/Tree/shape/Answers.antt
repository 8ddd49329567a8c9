use Rattle.block_tree.proofs.Facts.{known}
use Rattle.block_tree.proofs.tree.Tree.shape.Goals as goal

pub returns-clause-limits : goal.returns-clause-limits
returns-clause-limits c = (known c.args.self.now).valid.shape
