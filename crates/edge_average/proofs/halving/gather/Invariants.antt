use Rattle.std.proofs.Common.{◌≡◌, ℕ, ◌*◌, ◌/◌, ◌^◌, ◌<◌, ℤ}
use Rattle.amr_num.specs.Numbers.{Within, at}
use Rattle.amr_num.specs.declared.EdgeAt.{EdgeAt}
use Rattle.block_tree.specs.Numbered.{block_at}
use Rattle.rank_world.specs.Holding.{LeafEdgesHold}
use Rattle.edge_average.specs.Lines.{edge_there, sum_of_halves}
use Rattle.edge_average.proofs.halving.gather.Given as goal

abbrev pub invariant-loop-half : goal.invariant-loop-half
invariant-loop-half g l = record {
  sums : (field : EdgeAt → ℤ) → LeafEdgesHold l.work l.world field → (p : ℕ) → p < g.row.N / 2 * l.half →
      at l.sums p ≡ sum_of_halves field (edge_there l.world.told.grid.shape l.line.axis (block_at l.world.told.grid l.finer) p l.line.first l.line.second);
  within : (p : ℕ) → p < g.row.N / 2 * l.half → Within (2 ^ 58) (at l.sums p);
}
