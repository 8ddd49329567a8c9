use Rattle.mesh_model.specs.Fields.Ranks.{IsFit}
use Rattle.mesh_steps.specs.Circulations.{OnlyFacesAndWork}
use Rattle.mesh_steps.proofs.StepWalk.{AreFacesTakenBelow}
use Rattle.mesh_steps.proofs.circulations.take_faces.Given as goal

abbrev pub invariant-loop-node : goal.invariant-loop-node
invariant-loop-node g l = record {
  only : OnlyFacesAndWork l.initial.world l.world;
  fit : IsFit g.row.N g.row.G l.world;
  taken : AreFacesTakenBelow l.node l.initial.world l.world;
}
