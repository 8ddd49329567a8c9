use Rattle.std.proofs.Common.{◌≡◌, ◌+◌, ◌*◌, ◌^◌}
use Rattle.amr_num.specs.Numbers.{Within, sum_below}
use Rattle.mesh_model.specs.Fields.ArrayPlaces.{cell_extents, number_at}
use Rattle.amr_engine.proofs.totals.block_total.Given as goal

abbrev pub invariant-loop-k : goal.invariant-loop-k
invariant-loop-k l = record {
  so_far : l.sum ≡ sum_below l.k (λ k. sum_below l.n (λ j. sum_below l.n (λ i. number_at (cell_extents l.n l.g) l.values (l.g + i) (l.g + j) (l.g + k))));
  small : Within (l.k * 2 ^ 69) l.sum;
}
