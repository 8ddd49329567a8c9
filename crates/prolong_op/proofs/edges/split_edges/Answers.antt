use Rattle.amr_num.specs.declared.Axis.TheVariants.{X, Y, Z}
use Rattle.prolong_op.proofs.edges.split_edges.Goals as goal

pub split_axis-requires-clause-small : goal.split_axis-requires-clause-small
split_axis-requires-clause-small g c = c.requires.small X

pub split_axis-requires-2-clause-small : goal.split_axis-requires-2-clause-small
split_axis-requires-2-clause-small g c = c.requires.small Y

pub split_axis-requires-3-clause-small : goal.split_axis-requires-3-clause-small
split_axis-requires-3-clause-small g c = c.requires.small Z
