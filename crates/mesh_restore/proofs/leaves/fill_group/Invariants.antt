use Rattle.mesh_model.specs.Fields.Ranks.{IsFit}
use Rattle.mesh_restore.specs.Filling.{AreFilled}
use Rattle.mesh_restore.proofs.leaves.fill_group.Given as goal

abbrev pub invariant-loop-node : goal.invariant-loop-node
invariant-loop-node g l = record {
  fit : IsFit g.row.N g.row.G l.world;
  filled : AreFilled l.initial.world.told.grid l.group l.node l.initial.world l.world l.initial.rest l.rest;
}
