use Rattle.std.proofs.Common.{◌≡◌, of_z, rules, to_z, w64}
use Rattle.staggered.proofs.FaceSet.{put_there}
use Rattle.staggered.proofs.setting.put_beside.Goals as goal

pub returns-in-Some-clause-set : goal.returns-in-Some-clause-set
returns-in-Some-clause-set g c =
    let number : to_z w64 (of_z w64 c.args.value) ≡ c.args.value = search rules in
    put_there g.row.N g.row.G c.args.world.now c.put.new.world c.tree-tree.result.now c.shape-shape.result c.args.axis c.args.high (to_z w64 (of_z w64 c.args.value)) c.args.value number c.args.c c.in-Some.node c.block_of.result c.place_beside.result
    c.tree-tree.ensures c.shape-shape.ensures.value c.requires.fit c.requires.declared c.block_of.ensures c.in-Some.ensures.0 c.in-Some.ensures.1 c.place_beside.ensures c.put.ensures.only c.put.ensures.put
