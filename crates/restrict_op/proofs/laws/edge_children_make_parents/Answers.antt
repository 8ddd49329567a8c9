use Rattle.restrict_op.proofs.EdgeOctants.{all_make, all_stay, all_summed}
use Rattle.restrict_op.proofs.laws.edge_children_make_parents.Goals as goal

pub returns : goal.returns
returns c = record { sums = all_summed; stay = all_stay; whole = all_make }
