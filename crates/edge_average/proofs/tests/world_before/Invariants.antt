use Rattle.std.proofs.Common.{◌≡◌, ◌^◌, false}
use Rattle.mesh_model.specs.Fields.Ranks.{IsFit}
use Rattle.flux_conserve.specs.FaceArrays.{FacesWithin}
use Rattle.edge_average.proofs.tests.world_before.Given as goal

abbrev pub invariant-loop-node : goal.invariant-loop-node
invariant-loop-node l = record {
  fit : IsFit 4 1 l.world;
  declared : l.world.told.counts.faces ≡ 1;
  small : FacesWithin false l.world (2 ^ 56);
}
