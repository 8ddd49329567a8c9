use Rattle.std.proofs.Common.{lit<}
use Rattle.rank_world.proofs.faces.first_work_face_above.Goals as goal

pub first_above-requires : goal.first_above-requires
first_above-requires g c = (lit< tt, (c.requires.fit, (λ a. tt, c.requires.leaf)))
