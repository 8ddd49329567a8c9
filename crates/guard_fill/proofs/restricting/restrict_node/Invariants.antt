use Rattle.std.proofs.Common.{◌<◌, ℕ, ℤ}
use Rattle.amr_num.specs.declared.CellAt.{CellAt}
use Rattle.mesh_model.specs.Fields.Arrays.{array_in}
use Rattle.mesh_model.specs.Fields.ArrayPlaces.{extents_of, number_at}
use Rattle.mesh_model.specs.Fields.Ranks.{IsFit, OnlyOf, rank_at}
use Rattle.block_tree.specs.Numbered.{block_at}
use Rattle.guard_fill.specs.Restricting.{AddUp, ChildrenHave, OctantHas}
use Rattle.guard_fill.proofs.restricting.restrict_node.Given as goal

abbrev pub invariant-loop-octant : goal.invariant-loop-octant
invariant-loop-octant g l = record {
  only : OnlyOf l.fn.world l.world 0 l.var l.node;
  fit : IsFit g.row.N g.row.G l.world;
  done : (view : CellAt → ℤ) → AddUp l.var view → ChildrenHave l.fn.world l.var view l.node → (p : ℕ) → p < l.octant → let s = l.fn.world.told.grid.shape in
      OctantHas s l.var view (block_at l.fn.world.told.grid l.node) p (number_at (extents_of s.n s.g l.var) (array_in (rank_at l.world 0).own.values l.var l.node));
}
