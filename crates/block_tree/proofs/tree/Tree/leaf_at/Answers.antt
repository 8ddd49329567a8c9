use Rattle.block_tree.proofs.Numbers.{no_leaf}
use Rattle.block_tree.proofs.tree.Tree.leaf_at.Goals as goal

pub returns-in_err-node : goal.returns-in_err-node
returns-in_err-node c = rw c.from_residual.ensures (no_leaf c.args.self.now c.args.b c.in_err-node.ensures)
