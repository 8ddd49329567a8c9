-- Marks on leaves.
use Rattle.std.specs.Prelude.{◌≡◌, ℕ, ◌≤◌, Bool, false, length}
use Rattle.amr_num.specs.declared.BlockAt.{BlockAt}
use Rattle.mesh_model.specs.Tree.Order.{nodes}
use Rattle.mesh_model.specs.Tree.MarkedGrid.{MarkedGrid, MarksFit}
use Rattle.mesh_model.specs.Tree.Kinds.{Grid}
use Rattle.block_tree.specs.declared.marks.Marks.{Marks}
use Rattle.block_tree.specs.Numbered.{flag_in, blocks_of}

-- for how many nodes there is room
abbrev pub room : Marks → ℕ
room marks = length marks.refine.items

-- the marks of a node
abbrev pub refine_at : Marks → ℕ → Bool
refine_at marks node = flag_in marks.refine.items node

abbrev pub derefine_at : Marks → ℕ → Bool
derefine_at marks node = flag_in marks.derefine.items node

-- the sets of marked blocks of a grid
abbrev pub refine_of : Grid → Marks → BlockAt → Bool
refine_of g marks = blocks_of g (refine_at marks)

abbrev pub derefine_of : Grid → Marks → BlockAt → Bool
derefine_of g marks = blocks_of g (derefine_at marks)

-- the grid with these marks
abbrev pub marked_grid : Grid → Marks → MarkedGrid
marked_grid g marks = record { grid = g; refine = refine_of g marks; derefine = derefine_of g marks }

-- there is room for all nodes of the grid, and marks stand where they may
pub record IsMarksOf (g : Grid) (marks : Marks) : Type 0 where
  pub room : length (nodes g.leaves) ≤ room marks
  pub fit : MarksFit (marked_grid g marks)

-- no block of the grid is marked
pub record IsUnmarked (g : Grid) (marks : Marks) : Type 0 where
  pub refine : (b : BlockAt) → refine_of g marks b ≡ false
  pub derefine : (b : BlockAt) → derefine_of g marks b ≡ false
