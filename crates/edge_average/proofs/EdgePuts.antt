-- Worlds whose edges are small numbers: new ones, and those in which small numbers are put.
use Rattle.std.proofs.Common.{◌≡◌, ℕ, Bool, true, false, arith, ◌+◌, ◌^◌, List, length, ℤ}
use Rattle.amr_num.specs.declared.Axis.{Axis}
use Rattle.mesh_model.specs.Fields.ArrayPlaces.{IsSize, edge_extents, place_in}
use Rattle.mesh_model.specs.Fields.Arrays.{Counts, HasVar, var_length}
use Rattle.mesh_model.specs.Fields.Ranks.{AreZero, IsFit, WorldState, rank_at, world_with}
use Rattle.block_tree.specs.Numbered.{IsNode}
use Rattle.rank_world.specs.Holding.{edge_array, edge_var}
use Rattle.rank_world.specs.Puts.{IsPut}
use Rattle.rank_world.proofs.Puts as puts
use Rattle.edge_average.specs.EdgeArrays.{EdgesWithin}

-- where there is an edge variable both kinds of arrays of edges are there
pub has_one : (work : Bool) (a : Axis) (n : Counts) → n.edges ≡ 1 → HasVar n (edge_var work a)
has_one true a n one = tt
has_one false a n one = omega arith

pub zeros_small : (work : Bool) (n g : ℕ) (w : WorldState) → ((a : Axis) → HasVar w.told.counts (edge_var work a)) → IsFit n g w → AreZero n g (rank_at w 0).own.values → EdgesWithin work w (2 ^ 56)
zeros_small work n g w declared fit zero node a leaf = record {
  at = λ i j k hi hj hk.
      let s = w.told.grid.shape in
      puts.zero_small n g (2 ^ 56) w (edge_var work a) node (place_in (edge_extents s.n s.g a) (s.g + i) (s.g + j) (s.g + k)) fit zero (declared a) leaf.there;
}

-- where a small number is put into an array of edges, those of the same kind and of the other one stay small
pub put_small : (work other : Bool) (n g : ℕ) (w : WorldState) (a : Axis) (node : ℕ) (ys : List ℤ) → IsSize n g → IsFit n g w → HasVar w.told.counts (edge_var other a) → IsNode w.told.grid node →
    length ys ≡ var_length n g (edge_var other a) → IsPut (2 ^ 56) (edge_array other w a node) ys → EdgesWithin work w (2 ^ 56) → EdgesWithin work (world_with w 0 (edge_var other a) node ys) (2 ^ 56)
put_small work other n g w a node ys size fit declared there long put before k d leaf = record {
  at = λ x y z hx hy hz.
      let s = w.told.grid.shape in
      puts.put_small n g (2 ^ 56) w (edge_var other a) node ys size fit declared there long put (edge_var work d) k (place_in (edge_extents s.n s.g d) (s.g + x) (s.g + y) (s.g + z))
      ((before k d leaf).at x y z hx hy hz);
}
