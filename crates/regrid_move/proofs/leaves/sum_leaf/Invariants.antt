use Rattle.std.proofs.Common.{◌<◌, ℕ, ℤ}
use Rattle.amr_num.specs.declared.CellAt.{CellAt}
use Rattle.mesh_model.specs.Fields.Ranks.{IsFit, OnlyOf}
use Rattle.mesh_model.specs.declared.fields.values.Var.TheVariants.{Cell}
use Rattle.rank_world.specs.Holding.{LeavesHold}
use Rattle.regrid_move.specs.Near.{OctantMoved}
use Rattle.regrid_move.proofs.leaves.sum_leaf.Given as goal

abbrev pub invariant-loop-octant : goal.invariant-loop-octant
invariant-loop-octant g l = record {
  only : OnlyOf l.initial.new l.new 0 (Cell l.v) l.node;
  fit : IsFit g.row.N g.row.G l.new;
  sums : (content : CellAt → ℤ) → LeavesHold l.old l.v content → (q : ℕ) → q < l.octant → OctantMoved l.old l.new l.v content l.node q;
}
