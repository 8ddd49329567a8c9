use Rattle.edge_average.proofs.HalfEdges.{views_are_halves, views_are_small}
use Rattle.edge_average.proofs.laws.leaf_edge_views_are_halves.Goals as goal

pub returns-clause-halves : goal.returns-clause-halves
returns-clause-halves c = views_are_halves

pub returns-clause-small : goal.returns-clause-small
returns-clause-small c = views_are_small
