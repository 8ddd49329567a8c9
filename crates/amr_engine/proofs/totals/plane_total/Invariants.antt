use Rattle.std.proofs.Common.{◌≡◌, ◌+◌, ◌*◌, ◌^◌}
use Rattle.amr_num.specs.Numbers.{Within, sum_below}
use Rattle.mesh_model.specs.Fields.ArrayPlaces.{cell_extents, number_at}
use Rattle.amr_engine.proofs.totals.plane_total.Given as goal

abbrev pub invariant-loop-j : goal.invariant-loop-j
invariant-loop-j l = record {
  so_far : l.sum ≡ sum_below l.j (λ j. sum_below l.n (λ i. number_at (cell_extents l.n l.g) l.values (l.g + i) (l.g + j) (l.g + l.k)));
  small : Within (l.j * 2 ^ 66) l.sum;
}
