use Rattle.prolong_op.proofs.EdgeChildren.{children_split}
use Rattle.prolong_op.proofs.laws.edge_children_hold_views.Goals as goal

pub returns : goal.returns
returns c = children_split
