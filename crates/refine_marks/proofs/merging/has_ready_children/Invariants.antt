use Rattle.std.proofs.Common.{◌≡◌, ℕ, ◌<◌, true}
use Rattle.mesh_model.specs.Geometry.Blocks.{child_block}
use Rattle.mesh_model.specs.Tree.Closure.{is_ready}
use Rattle.block_tree.specs.GridOf.{grid_of}
use Rattle.block_tree.specs.Numbered.{block_at}
use Rattle.refine_marks.specs.Planned.{marked_by}
use Rattle.refine_marks.proofs.merging.has_ready_children.Given as goal

abbrev pub invariant-loop-octant : goal.invariant-loop-octant
invariant-loop-octant l = (q : ℕ) → q < l.octant → is_ready (marked_by l.tree l.marks) (child_block (block_at (grid_of l.tree) l.node) q) ≡ true
