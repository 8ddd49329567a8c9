use Rattle.std.proofs.Common.{◌≡◌, None}
use Rattle.mesh_model.specs.Fields.Advect.{three}
use Rattle.mesh_model.specs.Fields.Induct.{uniform_faces}
use Rattle.staggered.specs.Facing.{above_below}
use Rattle.staggered.proofs.facing.walk_above.Given as goal

abbrev pub invariant-loop-node : goal.invariant-loop-node
invariant-loop-node g l = let h = l.world.told.grid in above_below h (uniform_faces h (three l.fluxes)) l.node ≡ None
