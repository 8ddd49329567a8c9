use Rattle.std.proofs.Common.{◌≡◌, ◌^◌, Bool}
use Rattle.mesh_model.specs.Fields.Ranks.{IsFit}
use Rattle.edge_average.specs.EdgeArrays.{EdgesWithin}
use Rattle.edge_average.proofs.tests.edges_before.Given as goal

abbrev pub invariant-loop-node : goal.invariant-loop-node
invariant-loop-node l = record {
  fit : IsFit 4 1 l.world;
  declared : l.world.told.counts.edges ≡ 1;
  small : (other : Bool) → EdgesWithin other l.world (2 ^ 56);
}
