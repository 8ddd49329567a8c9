use Rattle.mesh_model.specs.declared.fields.values.Var.TheVariants.{Face}
use Rattle.rank_world.specs.Holding.{OnlyAxes}
use Rattle.mesh_model.specs.Fields.Advect.{three}
use Rattle.mesh_model.specs.Fields.Ranks.{IsFit}
use Rattle.staggered.proofs.UniformSet.{AreEvenBelow}
use Rattle.staggered.proofs.facing.set_leaves.Given as goal

abbrev pub invariant-loop-node : goal.invariant-loop-node
invariant-loop-node g l = record {
  only : OnlyAxes Face l.initial.world l.world;
  fit : IsFit g.row.N g.row.G l.world;
  even : AreEvenBelow l.node g.row.N g.row.G l.initial.world l.world (three l.fluxes);
}
