use Rattle.std.proofs.Common.{ℕ, ◌<◌}
use Rattle.amr_num.specs.declared.Axis.{Axis}
use Rattle.mesh_model.specs.Fields.Advect.{three}
use Rattle.rank_world.specs.Holding.{IsLeafNode}
use Rattle.mesh_steps.specs.Forcing.{AreForced, HasForces}
use Rattle.mesh_steps.proofs.forcing.force.Given as goal

abbrev pub invariant-loop-node : goal.invariant-loop-node
invariant-loop-node g l = record {
  forced : AreForced g.row.N g.row.G l.initial.world l.world (three l.speeds);
  done : (node : ℕ) (a : Axis) → node < l.node → IsLeafNode l.initial.world.told.grid node → HasForces l.world (three l.speeds) node a;
}
