use Rattle.std.proofs.Common.{◌<◌, ℕ, ℤ}
use Rattle.amr_num.specs.declared.CellAt.{CellAt}
use Rattle.mesh_model.specs.Fields.Ranks.{IsFit}
use Rattle.rank_world.specs.Holding.{IsLeafNode}
use Rattle.guard_fill.specs.Guarding.{AreNodeViews, NodeReached, OnlyGuardPlaces}
use Rattle.guard_fill.proofs.guarding.reach_leaves.Given as goal

abbrev pub invariant-loop-node : goal.invariant-loop-node
invariant-loop-node g l = record {
  only : OnlyGuardPlaces l.fn.world l.world l.var;
  fit : IsFit g.row.N g.row.G l.world;
  guards : (view : CellAt → ℤ) → AreNodeViews l.fn.world l.var view → (k : ℕ) → k < l.node → IsLeafNode l.fn.world.told.grid k → NodeReached l.world l.var view k;
}
