use Rattle.mesh_model.specs.Fields.Ranks.{IsFit}
use Rattle.mesh_steps.specs.Settling.{OnlyCellsAndWork}
use Rattle.mesh_steps.proofs.Settled.{AreTakenBelow}
use Rattle.mesh_steps.proofs.settling.take_over.Given as goal

abbrev pub invariant-loop-node : goal.invariant-loop-node
invariant-loop-node g l = record {
  only : OnlyCellsAndWork l.initial.world l.world l.v;
  fit : IsFit g.row.N g.row.G l.world;
  taken : AreTakenBelow l.node l.initial.world l.world l.v;
}
