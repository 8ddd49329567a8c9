use Rattle.std.proofs.Common.{rules, ◌<◌, length, set, subst, sym}
use Rattle.edge_average.specs.EdgeSums.{IsEdgeSet}
use Rattle.edge_average.proofs.LinePlaces.{edge_set, edge_stands}
use Rattle.edge_average.proofs.lines.set_edge.Goals as goal

pub returns : goal.returns
returns c =
    let n = c.args.n in
    let g = c.args.g in
    let a = c.args.line.axis in
    let s = c.args.line.first in
    let t = c.args.line.second in
    let there = edge_stands n g a c.args.p s t in
    let is = c.edge_place.ensures.value in
    let inside = subst (λ m. m < length c.args.values.now) is (subst (λ m. c.edge_place.result < m) (sym c.requires.values) c.edge_place.ensures.inside) in
    let done : IsEdgeSet n g a c.args.p s t c.args.value c.args.values.now (set c.args.values.now c.edge_place.result c.args.value) =
    subst (λ m. IsEdgeSet n g a c.args.p s t c.args.value c.args.values.now (set c.args.values.now m c.args.value)) (sym is)
    (edge_set n g a c.args.p s t c.args.value c.args.values.now c.requires.inside inside) in
    search rules
