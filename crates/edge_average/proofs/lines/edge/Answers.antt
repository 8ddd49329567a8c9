use Rattle.std.proofs.Common.{rules}
use Rattle.edge_average.specs.EdgeSums.{edge_at}
use Rattle.edge_average.proofs.lines.edge.Goals as goal

pub returns : goal.returns
unfolding edge_at
returns c = search rules
