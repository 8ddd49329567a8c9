-- Worlds whose leaves have numbers in range, in which others in range are put.
use Rattle.std.proofs.Common.{◌≡◌, ℕ, ◌+◌, ◌<◌, ◌^◌, List, length, ℤ}
use Rattle.mesh_model.specs.declared.fields.values.Var.TheVariants.{Cell}
use Rattle.mesh_model.specs.Fields.ArrayPlaces.{IsSize, cell_extents, place_in}
use Rattle.mesh_model.specs.Fields.Arrays.{var_length}
use Rattle.mesh_model.specs.Fields.Ranks.{IsFit, WorldState, world_with}
use Rattle.block_tree.specs.Numbered.{IsNode}
use Rattle.rank_world.specs.Holding.{LeavesInRange, cell_array}
use Rattle.rank_world.specs.Puts.{IsPut}
use Rattle.rank_world.proofs.Puts as puts

pub put_in_range : (n g : ℕ) (w : WorldState) (v node : ℕ) (ys : List ℤ) → IsSize n g → IsFit n g w → v < w.told.counts.cells → IsNode w.told.grid node → length ys ≡ var_length n g (Cell v) →
    IsPut (2 ^ 40) (cell_array w v node) ys → LeavesInRange w → LeavesInRange (world_with w 0 (Cell v) node ys)
put_in_range n g w v node ys size fit declared there long put before u k has leaf = record {
  cells = λ x y z hx hy hz.
      let s = w.told.grid.shape in
      puts.put_small n g (2 ^ 40) w (Cell v) node ys size fit declared there long put (Cell u) k (place_in (cell_extents s.n s.g) (s.g + x) (s.g + y) (s.g + z)) ((before u k has leaf).cells x y z hx hy hz);
}
