use Rattle.std.proofs.Common.{◌≡◌, ◌<◌, ◌≤◌, ℕ}
use Rattle.amr_num.specs.Numbers.{at}
use Rattle.block_tree.specs.Directions.{edge_name}
use Rattle.staggered.specs.EdgeSetting.{set_or}
use Rattle.staggered.proofs.edge_setting.set_in_row.Given as goal

abbrev pub invariant-loop-t : goal.invariant-loop-t
invariant-loop-t l = record {
  done : (p : ℕ) → p < l.t → at l.out p ≡ set_or l.target.edge l.target.value (edge_name l.shape l.row.axis l.row.block p l.row.j l.row.k) (at l.initial.out p);
  waits : (p : ℕ) → l.t ≤ p → at l.out p ≡ at l.initial.out p;
}
