use Rattle.std.proofs.Common.{◌+◌, ◌*◌}
use Rattle.mesh_model.specs.Fields.ArrayPlaces.{AreRowsWritten, number_at}
use Rattle.block_store.specs.Regions.{box_of}
use Rattle.block_store.proofs.regions.copy_region.Given as goal

abbrev pub invariant-loop-k : goal.invariant-loop-k
invariant-loop-k l = AreRowsWritten (l.region.along_y * l.k) l.extents (box_of l.region) (λ i j k. number_at l.extents l.from (l.at.x + i) (l.at.y + j) (l.at.z + k)) l.fn.to l.to

abbrev pub invariant-loop-j : goal.invariant-loop-j
invariant-loop-j l = AreRowsWritten (l.j + l.region.along_y * l.k) l.extents (box_of l.region) (λ i j k. number_at l.extents l.from (l.at.x + i) (l.at.y + j) (l.at.z + k)) l.fn.to l.to
