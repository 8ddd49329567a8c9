use Rattle.std.proofs.Common.{◌≡◌, ◌+◌, None}
use Rattle.mesh_model.specs.Fields.ArrayPlaces.{number_at}
use Rattle.block_store.specs.Above.{first_in_plane}
use Rattle.block_store.proofs.above.plane_above.Given as goal

abbrev pub invariant-loop-j : goal.invariant-loop-j
invariant-loop-j l = first_in_plane l.n l.counted (λ x y z. number_at l.extents l.values (l.region.at.x + x) (l.region.at.y + y) (l.region.at.z + z)) l.region.along_x l.k l.j ≡ None
