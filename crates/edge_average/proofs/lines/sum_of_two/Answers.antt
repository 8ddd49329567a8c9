use Rattle.std.proofs.Common.{rules, ◌≡◌, ◌+ℤ◌}
use Rattle.edge_average.specs.EdgeSums.{pair_at}
use Rattle.edge_average.proofs.LinePlaces.{pair_is}
use Rattle.edge_average.proofs.lines.sum_of_two.Goals as goal

pub returns-clause-value : goal.returns-clause-value
returns-clause-value c =
    let line = c.args.line in
    let is : c.edge-low.result +ℤ c.edge-high.result ≡ pair_at c.args.n c.args.g line.axis c.args.values.now c.args.m line.first line.second =
    pair_is c.args.n c.args.g line.axis c.args.values.now c.args.m line.first line.second _ _ c.edge-low.ensures c.edge-high.ensures in
    search rules
