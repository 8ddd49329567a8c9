use Rattle.std.proofs.Common.{◌<◌, ℕ, ℤ}
use Rattle.amr_num.specs.declared.CellAt.{CellAt}
use Rattle.mesh_model.specs.Fields.Ranks.{IsFit}
use Rattle.rank_world.specs.Holding.{IsLeafNode, NodesHold}
use Rattle.guard_fill.specs.Filling.{NodeAsked, OnlyGuards}
use Rattle.guard_fill.proofs.filling.fill_variable.Given as goal

abbrev pub invariant-loop-node : goal.invariant-loop-node
invariant-loop-node g l = record {
  only : OnlyGuards l.fn.world l.world l.v;
  fit : IsFit g.row.N g.row.G l.world;
  guards : (content : CellAt → ℤ) → NodesHold l.fn.world l.v content → (k : ℕ) → k < l.node → IsLeafNode l.fn.world.told.grid k → NodeAsked l.guards l.world l.v content k;
}
