use Rattle.std.proofs.Common.{◌≡◌, ℕ, ◌+◌, ◌*◌, ◌/◌, ◌%◌, ◌^◌, ◌<◌}
use Rattle.amr_num.specs.Numbers.{Within, at}
use Rattle.block_tree.specs.Numbered.{block_at}
use Rattle.flux_conserve.specs.Jumps.{BlockFaces, quarter_sum}
use Rattle.flux_conserve.specs.Sums.{quarter_size}
use Rattle.flux_conserve.specs.FaceArrays.{NearHas}
use Rattle.flux_conserve.proofs.correcting.gather.Given as goal

abbrev pub invariant-loop-quarter : goal.invariant-loop-quarter
invariant-loop-quarter g l = record {
  sums : (faces : BlockFaces) → NearHas l.work l.world faces l.axis l.high l.beside → (q m : ℕ) → q < l.quarter → m < quarter_size g.row.N →
      at l.sums (quarter_size g.row.N * q + m) ≡ quarter_sum g.row.N faces l.axis l.high (block_at l.world.told.grid l.beside) q (m % (g.row.N / 2)) (m / (g.row.N / 2));
  within : (q m : ℕ) → q < l.quarter → m < quarter_size g.row.N → Within (2 ^ 58) (at l.sums (quarter_size g.row.N * q + m));
}
