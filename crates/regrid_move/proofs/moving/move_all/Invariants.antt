use Rattle.std.proofs.Common.{◌≡◌, ◌<◌, ℕ, ℤ, None}
use Rattle.amr_num.specs.declared.CellAt.{CellAt}
use Rattle.mesh_model.specs.Fields.Ranks.{IsFit}
use Rattle.rank_world.specs.Holding.{LeavesHold}
use Rattle.regrid_move.specs.Near.{LeavesMoved, all_stop}
use Rattle.regrid_move.proofs.moving.move_all.Given as goal

abbrev pub invariant-loop-v : goal.invariant-loop-v
invariant-loop-v g l = record {
  told : l.new.told ≡ l.initial.new.told;
  fit : IsFit g.row.N g.row.G l.new;
  views : (v : ℕ) (content : CellAt → ℤ) → v < l.v → LeavesHold l.old v content → LeavesMoved l.old l.new v content;
  none : (contents : ℕ → CellAt → ℤ) → ((v : ℕ) → v < l.old.told.counts.cells → LeavesHold l.old v (contents v)) →
      all_stop l.old.told.grid l.new.told.grid contents l.v ≡ None;
}
