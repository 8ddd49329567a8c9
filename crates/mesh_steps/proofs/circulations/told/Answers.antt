use Rattle.std.proofs.Common.{sym, subst}
use Rattle.mesh_model.specs.Geometry.Blocks.{InDomain}
use Rattle.staggered.proofs.Blocks.{small_block}
use Rattle.mesh_steps.proofs.circulations.told.Goals as goal

pub face_told-requires-clause-block : goal.face_told-requires-clause-block
face_told-requires-clause-block g c =
    let small = small_block c.shape.result c.at.result c.shape.ensures.limits (subst (λ s. InDomain s c.at.result) (sym c.shape.ensures.value) c.at.ensures.inside) in
    (small.x, small.y, small.z)
