use Rattle.std.proofs.Common.{ℕ, ◌<◌}
use Rattle.amr_num.specs.declared.Axis.{Axis}
use Rattle.mesh_model.specs.Fields.Advect.{three}
use Rattle.flux_conserve.specs.Work.{IsJumpNode}
use Rattle.mesh_steps.specs.Flowing.{AreFlowed, HasFluxes}
use Rattle.mesh_steps.proofs.flowing.flow.Given as goal

abbrev pub invariant-loop-node : goal.invariant-loop-node
invariant-loop-node g l = record {
  flowed : AreFlowed g.row.N g.row.G l.initial.world l.world l.v (three l.speeds);
  done : (node : ℕ) (a : Axis) → node < l.node → IsJumpNode l.initial.world.told.grid node → HasFluxes l.world l.v (three l.speeds) node a;
}
