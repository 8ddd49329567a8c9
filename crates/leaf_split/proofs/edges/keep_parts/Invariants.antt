use Rattle.std.proofs.Common.{◌≡◌, ◌<◌, ◌^◌, length, true}
use Rattle.amr_num.specs.declared.Axis.TheVariants.{X, Y, Z}
use Rattle.block_tree.specs.Directions.{AreParts}
use Rattle.leaf_split.specs.EdgeKeeps.{KeptPartsHold}
use Rattle.mesh_model.specs.Fields.ArrayPlaces.{edge_extents, size_of}
use Rattle.mesh_model.specs.Fields.FaceSplits.{by_axis}
use Rattle.leaf_split.proofs.edges.keep_parts.Given as goal

abbrev pub invariant-loop-number : goal.invariant-loop-number
invariant-loop-number g l = record {
  few : l.kept < 2 ^ l.number;
  parts : AreParts l.world.told.grid true l.block l.number l.kept;
  cx : length l.cx ≡ size_of (edge_extents g.row.N g.row.G X);
  cy : length l.cy ≡ size_of (edge_extents g.row.N g.row.G Y);
  cz : length l.cz ≡ size_of (edge_extents g.row.N g.row.G Z);
  views : KeptPartsHold l.world l.block l.number (by_axis l.cx l.cy l.cz);
}
