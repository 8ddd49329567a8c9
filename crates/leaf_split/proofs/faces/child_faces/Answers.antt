use Rattle.std.proofs.Common.{◌≡◌}
use Rattle.mesh_model.specs.Fields.FaceSplits.{by_axis}
use Rattle.mesh_model.proofs.FieldLemmas.Beside.{three}
use Rattle.rank_world.specs.Holding.{face_array}
use Rattle.leaf_split.specs.FaceKeeps.{AreKeptSides}
use Rattle.leaf_split.proofs.Keeps.{held, sources}
use Rattle.leaf_split.proofs.faces.child_faces.Goals as goal

pub split_faces-requires-clause-small : goal.split_faces-requires-clause-small
split_faces-requires-clause-small g c =
    let w = c.args.world.now in
    let x = c.keep_sides-x in
    let y = c.keep_sides-y in
    let z = c.keep_sides-z in
    let ps = by_axis c.values-px.result.now c.values-py.result.now c.values-pz.result.now in
    let xs = by_axis x.new.to y.new.to z.new.to in
    let from = three (λ a. ps a ≡ face_array w a c.args.parent) c.values-px.ensures.value c.values-py.ensures.value c.values-pz.ensures.value in
    let sides = three (λ a. AreKeptSides w a c.args.block (by_axis x.result y.result z.result a) (xs a)) x.ensures.sides y.ensures.sides z.ensures.sides in
    sources w c.requires.mesh c.requires.declared c.args.parent c.args.octant c.bits_of-kept.result c.args.block c.requires.parent c.requires.child c.requires.block g.row.N g.row.G c.requires.fit.sizes
    x.result y.result z.result c.bits_of-kept.ensures ps xs from sides

pub returns-clause-views : goal.returns-clause-views
returns-clause-views g c =
    let w = c.args.world.now in
    let x = c.keep_sides-x in
    let y = c.keep_sides-y in
    let z = c.keep_sides-z in
    let ps = by_axis c.values-px.result.now c.values-py.result.now c.values-pz.result.now in
    let xs = by_axis x.new.to y.new.to z.new.to in
    let from = three (λ a. ps a ≡ face_array w a c.args.parent) c.values-px.ensures.value c.values-py.ensures.value c.values-pz.ensures.value in
    let sides = three (λ a. AreKeptSides w a c.args.block (by_axis x.result y.result z.result a) (xs a)) x.ensures.sides y.ensures.sides z.ensures.sides in
    held w c.requires.mesh c.requires.declared c.args.parent c.args.octant c.bits_of-kept.result c.args.block c.requires.parent c.requires.child c.requires.block g.row.N g.row.G c.requires.fit.sizes
    x.result y.result z.result c.bits_of-kept.ensures ps xs from sides c.requires.octant (by_axis c.split_faces.new.cx c.split_faces.new.cy c.split_faces.new.cz) c.split_faces.ensures
