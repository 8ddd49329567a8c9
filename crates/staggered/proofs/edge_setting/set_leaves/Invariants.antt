use Rattle.mesh_model.specs.declared.fields.values.Var.TheVariants.{Edge}
use Rattle.mesh_model.specs.Fields.Ranks.{IsFit}
use Rattle.rank_world.specs.Holding.{OnlyAxes}
use Rattle.staggered.proofs.EdgeSet.{AreEdgesSetBelow}
use Rattle.staggered.proofs.edge_setting.set_leaves.Given as goal

abbrev pub invariant-loop-node : goal.invariant-loop-node
invariant-loop-node g l = record {
  only : OnlyAxes Edge l.initial.world l.world;
  fit : IsFit g.row.N g.row.G l.world;
  set : AreEdgesSetBelow l.node l.initial.world l.world l.target.edge l.target.value;
}
