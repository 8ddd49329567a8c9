use Rattle.std.proofs.Common.{◌≡◌, ◌+◌, None}
use Rattle.mesh_model.specs.Fields.Firsts.{first_below}
use Rattle.mesh_model.specs.Fields.ArrayPlaces.{number_at}
use Rattle.block_store.specs.Above.{first_in_plane}
use Rattle.block_store.proofs.above.region_above.Given as goal

abbrev pub invariant-loop-k : goal.invariant-loop-k
invariant-loop-k l = first_below l.k (λ k. first_in_plane l.n l.counted (λ x y z. number_at l.extents l.values (l.region.at.x + x) (l.region.at.y + y) (l.region.at.z + z)) l.region.along_x k l.region.along_y) ≡ None
