use Rattle.std.proofs.Common.{◌≡◌, ◌^◌}
use Rattle.mesh_model.specs.Fields.Ranks.{IsFit}
use Rattle.flux_conserve.specs.FaceArrays.{FacesWithin}
use Rattle.flux_conserve.proofs.tests.world_before.Given as goal

abbrev pub invariant-loop-node : goal.invariant-loop-node
invariant-loop-node l = record {
  fit : IsFit 4 1 l.world;
  declared : l.world.told.counts.faces ≡ 1;
  small : FacesWithin l.work l.world (2 ^ 56);
}
