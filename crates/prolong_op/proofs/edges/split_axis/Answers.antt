use Rattle.prolong_op.proofs.EdgeMeans.{even_small, split_done}
use Rattle.prolong_op.proofs.edges.split_axis.Goals as goal

pub mean_edges-requires-clause-small : goal.mean_edges-requires-clause-small
mean_edges-requires-clause-small c =
    let s = c.args.split in
    even_small s.n s.g s.kept c.requires.size c.args.axis s.q c.args.parent.now c.args.child.now c.part_edges.new.child c.part_edges.ensures c.requires.small

pub returns : goal.returns
returns c =
    let s = c.args.split in
    split_done s.n s.g s.kept c.requires.size c.args.axis s.q c.args.parent.now c.args.child.now c.part_edges.new.child c.part_edges.ensures c.mean_edges.new.child c.mean_edges.ensures
