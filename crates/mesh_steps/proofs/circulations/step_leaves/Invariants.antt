use Rattle.mesh_model.specs.declared.fields.values.Var.TheVariants.{FaceWork}
use Rattle.mesh_model.specs.Fields.Ranks.{IsFit}
use Rattle.rank_world.specs.Holding.{OnlyAxes}
use Rattle.mesh_steps.proofs.StepWalk.{AreSteppedBelow}
use Rattle.mesh_steps.proofs.circulations.step_leaves.Given as goal

abbrev pub invariant-loop-node : goal.invariant-loop-node
invariant-loop-node g l = record {
  only : OnlyAxes FaceWork l.initial.world l.world;
  fit : IsFit g.row.N g.row.G l.world;
  stepped : AreSteppedBelow l.initial.step l.node l.initial.world l.world;
}
