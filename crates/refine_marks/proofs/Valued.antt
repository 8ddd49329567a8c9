-- The grid of a tree is valid with marks that fit.
use Rattle.std.proofs.Common.{◌≡◌}
use Rattle.mesh_model.specs.Tree.MarkedGrid.{MarkedGrid, ValidMarkedGrid}
use Rattle.block_tree.specs.declared.marks.Marks.{Marks}
use Rattle.block_tree.specs.declared.tree.Tree.{Tree}
use Rattle.block_tree.specs.GridOf.{grid_of}
use Rattle.block_tree.specs.Marked.{IsMarksOf}
use Rattle.block_tree.proofs.Facts.{known}
use Rattle.refine_marks.specs.Planned.{HasMarks, marked_by}

pub marked_valid : (t : Tree) (marks : Marks) → IsMarksOf (grid_of t) marks → ValidMarkedGrid (marked_by t marks)
marked_valid t marks fit =
    let tree = known t in
    record { grid = tree.valid; order = tree.order; nodes = tree.few; marks = fit.fit }

pub is_marked_by : (m : MarkedGrid) (tree : Tree) (marks : Marks) → HasMarks m tree marks → m ≡ marked_by tree marks
is_marked_by m tree marks has = λ i. record { grid = has.grid i; refine = λ b. has.refine b i; derefine = λ b. has.derefine b i }
