use Rattle.std.proofs.Common.{ap, arith}
use Rattle.mesh_model.specs.Geometry.Limits.{most_nodes}
use Rattle.check_format.proofs.read_tests.marks_at.Goals as goal

pub refine-requires : goal.refine-requires
refine-requires c =
    let few = c.len.ensures.few in
    let same = ap most_nodes c.requires.shape in
    let room = c.requires.room in
    omega (arith, few, same, room)

pub derefine-requires : goal.derefine-requires
derefine-requires c =
    let few = c.len.ensures.few in
    let same = ap most_nodes c.requires.shape in
    let room = c.requires.room in
    omega (arith, few, same, room)
