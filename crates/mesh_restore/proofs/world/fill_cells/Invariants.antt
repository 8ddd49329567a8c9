use Rattle.std.proofs.Common.{◌≡◌, ◌<◌, ℕ, ℤ, map}
use Rattle.amr_num.specs.declared.CellAt.{CellAt}
use Rattle.mesh_model.specs.Fields.Ranks.{IsFit}
use Rattle.mesh_model.specs.Fields.RangeWalk.{cells_walked}
use Rattle.rank_world.specs.Holding.{LeavesHold}
use Rattle.mesh_restore.specs.Restoring.{OnlyCellArrays, list_at}
use Rattle.mesh_restore.proofs.world.fill_cells.Given as goal

abbrev pub invariant-loop-variable : goal.invariant-loop-variable
invariant-loop-variable g l = record {
  fit : IsFit g.row.N g.row.G l.world;
  only : OnlyCellArrays l.initial.world l.world;
  contents : (v : ℕ) (field : CellAt → ℤ) → v < l.variable → list_at l.cells v ≡ map field (cells_walked l.initial.world.told.grid) → LeavesHold l.world v field;
}
