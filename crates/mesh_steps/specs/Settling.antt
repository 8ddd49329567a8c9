-- The cells of leaves before and after a step, and what flows out.
use Rattle.std.specs.Prelude.{◌≡◌, ℕ, ◌+◌, ◌<◌, ◌^◌, Bool, List, ℤ, Option, Some, None, Result, IfOk, IfErr, if◌then◌else◌}
use Rattle.amr_num.specs.Numbers.{Within}
use Rattle.amr_num.specs.declared.Axis.TheVariants.{X, Y, Z}
use Rattle.amr_num.specs.declared.BlockAt.{BlockAt}
use Rattle.amr_num.specs.declared.CellAt.{CellAt}
use Rattle.mesh_model.specs.declared.fields.values.Var.{Var}
use Rattle.mesh_model.specs.declared.fields.values.Var.TheVariants.{Cell, CellWork}
use Rattle.mesh_model.specs.Fields.Advect.{Speeds, advected, flux, on_outer}
use Rattle.mesh_model.specs.Fields.Arrays.{array_in}
use Rattle.mesh_model.specs.Fields.Circulation.{net_flux}
use Rattle.mesh_model.specs.Fields.Firsts.{first_below}
use Rattle.mesh_model.specs.Fields.Octants.{cells_of}
use Rattle.mesh_model.specs.Fields.Ranks.{IsFit, WorldState, rank_at}
use Rattle.mesh_model.specs.Geometry.Places.{in_block}
use Rattle.mesh_model.specs.Tree.Kinds.{Grid, is_leaf_block}
use Rattle.block_tree.specs.Numbered.{block_at}
use Rattle.rank_world.specs.Holding.{IsLeafNode, LeavesHold, LeavesInRange, cell_array}
use Rattle.flux_conserve.specs.Work.{WorkHolds, WorkWithin, work_array}
use Rattle.guard_fill.specs.Filling.{LeavesSided}
use Rattle.step_advect.specs.Applied.{AreFluxes, AreInRange, Flows, IsApplied, first_out, flows_in, left_at, out_through}
use Rattle.step_advect.specs.Lifts.{HoldsFlows, first_above}
use Rattle.step_advect.specs.declared.update.RangeAt.{RangeAt}
use Rattle.mesh_steps.specs.declared.hindrance.Above.{Above}
use Rattle.rank_world.specs.NodeSums.{node_sum}

-- the array of a node's work cells
abbrev pub work_cells : WorldState → ℕ → List ℤ
work_cells w node = array_in (rank_at w 0).own.values CellWork node

-- numbers by places are the contents of a block's cells
pub record HoldsContents (g : Grid) (content : CellAt → ℤ) (b : BlockAt) (numbers : ℕ → ℕ → ℕ → ℤ) : Type 0 where
  pub at : (i j k : ℕ) → i < g.shape.n → j < g.shape.n → k < g.shape.n →
      numbers (g.shape.g + i) (g.shape.g + j) (g.shape.g + k) ≡ content (in_block g.shape.n b i j k)

-- the work cells of a node, and of each leaf, hold the contents
abbrev pub WorkNodeHolds : WorldState → (CellAt → ℤ) → ℕ → Type 0
WorkNodeHolds w content node = HoldsContents w.told.grid content (block_at w.told.grid node) (cells_of w.told.grid (work_cells w node))

abbrev pub WorkCellsHold : WorldState → (CellAt → ℤ) → Type 0
WorkCellsHold w content = (node : ℕ) → IsLeafNode w.told.grid node → WorkNodeHolds w content node

-- the numbers of the work cells may be others
pub record OnlyWorkCells (old new : WorldState) : Type 0 where
  pub told : new.told ≡ old.told
  pub others : (u : Var) (node : ℕ) → (u ≡ CellWork → ⊥) → array_in (rank_at new 0).own.values u node ≡ array_in (rank_at old 0).own.values u node

-- so may those of the work cells and of one cell variable
pub record OnlyCellsAndWork (old new : WorldState) (v : ℕ) : Type 0 where
  pub told : new.told ≡ old.told
  pub others : (u : Var) (node : ℕ) → (u ≡ Cell v → ⊥) → (u ≡ CellWork → ⊥) → array_in (rank_at new 0).own.values u node ≡ array_in (rank_at old 0).own.values u node

-- ---- before a step

-- the leaves hold the contents of a variable, in their own cells and straight across their sides, and the work faces of those at a jump of level the fluxes at some speeds
pub record AreFluxed (w : WorldState) (v : ℕ) (content : CellAt → ℤ) (n : Speeds) : Type 0 where
  pub cells : LeavesHold w v content
  pub guarded : LeavesSided w v content
  pub faces : WorkHolds w (flux w.told.grid content n)

-- the numbers of the leaves are small enough for a step
pub record MaySettle (n g : ℕ) (w : WorldState) (v : ℕ) : Type 0 where
  pub fit : IsFit n g w
  pub variable : v < w.told.counts.cells
  pub range : LeavesInRange w
  pub small : WorkWithin w (2 ^ 58)

-- fluxes through the faces of a block are small enough for one
pub record AreStepFaces (n g : ℕ) (x y z : List ℤ) : Type 0 where
  pub along_x : AreFluxes n g X x
  pub along_y : AreFluxes n g Y y
  pub along_z : AreFluxes n g Z z

-- what the arrays of a node have
abbrev pub flows_at : ℕ → ℕ → WorldState → ℕ → ℕ → Flows
flows_at n g w v node = flows_in n g (cell_array w v node) (work_array w X node) (work_array w Y node) (work_array w Z node)

-- ---- after it

-- a leaf's work cells have got what is left of its cells by some fluxes, which are the mesh's
pub record IsStepped (n g : ℕ) (old new : WorldState) (v node : ℕ) (speeds : Speeds) (outer : List Bool) (result : Result ℤ RangeAt) : Type 0 where
  pub x : List ℤ
  pub y : List ℤ
  pub z : List ℤ
  pub held : (content : CellAt → ℤ) → AreFluxed old v content speeds → HoldsFlows old.told.grid content speeds (block_at old.told.grid node) (cell_array old v node) x y z
  pub few : Within (2 ^ 70) (out_through n (flows_in n g (cell_array old v node) x y z) outer)
  pub left : IfOk result (λ flown. IsApplied n g (flows_in n g (cell_array old v node) x y z) (work_cells old node) (work_cells new node))
  pub in_range : IfOk result (λ flown. AreInRange n (left_at (flows_in n g (cell_array old v node) x y z)))
  pub flown : IfOk result (λ flown. flown ≡ out_through n (flows_in n g (cell_array old v node) x y z) outer)
  pub refused : IfErr result (λ at. first_out n (left_at (flows_in n g (cell_array old v node) x y z)) ≡ Some at)

-- what cells lose through the outer sides of the domain
abbrev pub lost : Grid → (CellAt → ℤ) → Speeds → CellAt → ℤ
lost g content n = net_flux g (on_outer g.shape (flux g content n))

-- the first cell of a node with an advected content out of range, where the node is a leaf
abbrev pub node_above : Grid → (CellAt → ℤ) → Speeds → ℕ → Option CellAt
node_above g content n node = if is_leaf_block g (block_at g node) then first_above g content n (block_at g node) else None

-- and the first of the nodes below a number
abbrev pub above_below : Grid → (CellAt → ℤ) → Speeds → ℕ → Option CellAt
above_below g content n count = first_below count (node_above g content n)

-- the cell is the first that is found, with its advected content
pub record IsRefused (g : Grid) (content : CellAt → ℤ) (n : Speeds) (first : Option CellAt) (above : Above) : Type 0 where
  pub first_is : first ≡ Some above.cell
  pub value_is : above.value ≡ advected g content n above.cell

-- a node is settled: where it is a leaf its work cells hold the advected contents, all of which are in range
pub record IsSettled (old new : WorldState) (content : CellAt → ℤ) (n : Speeds) (node : ℕ) : Type 0 where
  pub made : IsLeafNode old.told.grid node → WorkNodeHolds new (advected old.told.grid content n) node
  pub none : node_above old.told.grid content n node ≡ None

-- what flows out of it
abbrev pub IsLost : WorldState → (CellAt → ℤ) → Speeds → ℕ → ℤ → Type 0
IsLost w content n node flown = flown ≡ node_sum w.told.grid (lost w.told.grid content n) node
