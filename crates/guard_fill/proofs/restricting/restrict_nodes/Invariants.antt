use Rattle.std.proofs.Common.{◌≤◌, ℕ, ℤ}
use Rattle.amr_num.specs.declared.CellAt.{CellAt}
use Rattle.mesh_model.specs.Fields.Ranks.{IsFit}
use Rattle.block_tree.specs.Numbered.{IsNode}
use Rattle.guard_fill.specs.Restricting.{AddUp, LeavesHave, NodeHas, OnlyParentArrays}
use Rattle.guard_fill.proofs.restricting.restrict_nodes.Given as goal

abbrev pub invariant-loop-node : goal.invariant-loop-node
invariant-loop-node g l = record {
  only : OnlyParentArrays l.fn.world l.world l.var;
  fit : IsFit g.row.N g.row.G l.world;
  done : (view : CellAt → ℤ) → AddUp l.var view → LeavesHave l.fn.world l.var view → (k : ℕ) → l.node ≤ k → IsNode l.fn.world.told.grid k → NodeHas l.world l.var view k;
}
