-- The marks on a tree, and what a plan says of their closure.
use Rattle.std.specs.Prelude.{◌≡◌, Bool, true}
use Rattle.amr_num.specs.declared.BlockAt.{BlockAt}
use Rattle.mesh_model.specs.Tree.Growth.{MayRefine, MayMerge}
use Rattle.mesh_model.specs.Tree.Kinds.{Grid}
use Rattle.mesh_model.specs.Tree.MarkedGrid.{MarkedGrid}
use Rattle.block_tree.specs.declared.marks.Marks.{Marks}
use Rattle.block_tree.specs.declared.tree.Tree.{Tree}
use Rattle.block_tree.specs.GridOf.{grid_of}
use Rattle.block_tree.specs.Marked.{refine_of, derefine_of}
use Rattle.block_tree.specs.Numbered.{blocks_of, flag_in}
use Rattle.refine_marks.specs.declared.plan.Plan.{Plan}

-- the grid of a tree, with its marks
abbrev pub marked_by : Tree → Marks → MarkedGrid
marked_by tree marks = record {
  grid = grid_of tree;
  refine = refine_of (grid_of tree) marks;
  derefine = derefine_of (grid_of tree) marks;
}

-- a grid with marks is that of the tree
pub record HasMarks (m : MarkedGrid) (tree : Tree) (marks : Marks) : Type 0 where
  pub grid : m.grid ≡ grid_of tree
  pub refine : (b : BlockAt) → m.refine b ≡ refine_of (grid_of tree) marks b
  pub derefine : (b : BlockAt) → m.derefine b ≡ derefine_of (grid_of tree) marks b

-- the sets of blocks that a plan refines and merges
abbrev pub refined_by : Grid → Plan → BlockAt → Bool
refined_by g plan = blocks_of g (flag_in plan.refine.items)

abbrev pub merged_by : Grid → Plan → BlockAt → Bool
merged_by g plan = blocks_of g (flag_in plan.merge.items)

-- the set may be refined, and is within each set that may
pub record IsLeast (m : MarkedGrid) (set : BlockAt → Bool) : Type 0 where
  pub may : MayRefine m set
  pub least : (other : BlockAt → Bool) → MayRefine m other → (b : BlockAt) → set b ≡ true → other b ≡ true

-- the set may be merged, and has in it each set that may
pub record IsGreatest (m : MarkedGrid) (set : BlockAt → Bool) : Type 0 where
  pub may : MayMerge m set
  pub greatest : (other : BlockAt → Bool) → MayMerge m other → (p : BlockAt) → other p ≡ true → set p ≡ true
