use Rattle.std.proofs.Common.{◌≡◌, false}
use Rattle.mesh_model.specs.Fields.FaceSplits.{by_axis}
use Rattle.mesh_model.proofs.FieldLemmas.Beside.{three}
use Rattle.rank_world.specs.Holding.{edge_array}
use Rattle.leaf_split.proofs.EdgesHeld.{held, sources}
use Rattle.leaf_split.proofs.edges.child_edges.Goals as goal

pub split_edges-requires-clause-small : goal.split_edges-requires-clause-small
split_edges-requires-clause-small g c =
    let w = c.args.world.now in
    let x = c.keep_parts-kept in
    let ps = by_axis c.values-px.result.now c.values-py.result.now c.values-pz.result.now in
    let xs = by_axis x.new.cx x.new.cy x.new.cz in
    let from = three (λ a. ps a ≡ edge_array false w a c.args.parent) c.values-px.ensures.value c.values-py.ensures.value c.values-pz.ensures.value in
    sources w c.requires.mesh c.requires.declared c.args.parent c.args.octant x.result c.args.block c.requires.parent c.requires.child c.requires.block g.row.N g.row.G c.requires.fit.sizes ps xs from x.ensures.parts x.ensures.views

pub returns-clause-views : goal.returns-clause-views
returns-clause-views g c =
    let w = c.args.world.now in
    let x = c.keep_parts-kept in
    let ps = by_axis c.values-px.result.now c.values-py.result.now c.values-pz.result.now in
    let xs = by_axis x.new.cx x.new.cy x.new.cz in
    let from = three (λ a. ps a ≡ edge_array false w a c.args.parent) c.values-px.ensures.value c.values-py.ensures.value c.values-pz.ensures.value in
    held w c.requires.mesh c.requires.declared c.args.parent c.args.octant x.result c.args.block c.requires.parent c.requires.child c.requires.block g.row.N g.row.G c.requires.fit.sizes ps xs from x.ensures.parts x.ensures.views
    c.requires.octant (by_axis c.split_edges.new.cx c.split_edges.new.cy c.split_edges.new.cz) c.split_edges.ensures
