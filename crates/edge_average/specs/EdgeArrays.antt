-- What the edges of leaves have in their arrays: in the work edges, or in those of the edge variable.
use Rattle.std.specs.Prelude.{◌≡◌, ℕ, ◌+◌, ◌<◌, ◌≤◌, ◌^◌, Bool, true, false, ℤ}
use Rattle.amr_num.specs.Numbers.{Within}
use Rattle.amr_num.specs.declared.Axis.{Axis}
use Rattle.amr_num.specs.declared.Axis.TheVariants.{X, Y, Z}
use Rattle.amr_num.specs.declared.BlockAt.{BlockAt}
use Rattle.amr_num.specs.declared.EdgeAt.{EdgeAt}
use Rattle.mesh_model.specs.Fields.FinePlaces.{edges_in}
use Rattle.mesh_model.specs.Fields.Ranks.{IsFit, OnlyOf, WorldState}
use Rattle.mesh_model.specs.Geometry.Places.{longer_across}
use Rattle.mesh_model.specs.Tree.Kinds.{Grid, is_leaf_block}
use Rattle.block_tree.specs.Numbered.{block_at}
use Rattle.rank_world.specs.Holding.{IsLeafNode, LeafEdgesHold, OnlyLeafAxes, edge_array, edge_var}
use Rattle.edge_average.specs.EdgeSums.{edge_at}
use Rattle.edge_average.specs.Lines.{IsEdgePlace, child_on, edge_there, halved, has_finer, place_within, sum_of_halves}

-- the numbers of a node's array of edges along an axis
abbrev pub edge_stored : Bool → WorldState → Axis → ℕ → ℕ → ℕ → ℕ → ℤ
edge_stored work w a node p s t = edge_at w.told.grid.shape.n w.told.grid.shape.g a (edge_array work w a node) p s t

-- the numbers of a leaf's array on the block's edges are at most so great in absolute value
pub record LeafEdgesWithin (work : Bool) (w : WorldState) (most : ℕ) (a : Axis) (node : ℕ) : Type 0 where
  pub at : (i j k : ℕ) → let s = w.told.grid.shape in i < longer_across a X s.n → j < longer_across a Y s.n → k < longer_across a Z s.n →
      Within most (edges_in w.told.grid a (edge_array work w a node) (s.g + i) (s.g + j) (s.g + k))

-- those of each leaf are
abbrev pub EdgesWithin : Bool → WorldState → ℕ → Type 0
EdgesWithin work w most = (node : ℕ) (a : Axis) → IsLeafNode w.told.grid node → LeafEdgesWithin work w most a node

-- ---- on the way

-- a line of a leaf has the field at its leaf edges, and the sums at the halves of its other edges
pub record LineHolds (work : Bool) (w : WorldState) (field : EdgeAt → ℤ) (node : ℕ) (a : Axis) (s t : ℕ) : Type 0 where
  pub at : (p : ℕ) → p < w.told.grid.shape.n → edge_stored work w a node p s t ≡ halved w.told.grid field (edge_there w.told.grid.shape a (block_at w.told.grid node) p s t)

-- the numbers are at most 2^56 in absolute value, or 2^58 where finer leaves stand round them
pub record IsTame (work : Bool) (w : WorldState) : Type 0 where
  pub calm : (node : ℕ) (a : Axis) (p s t : ℕ) → IsLeafNode w.told.grid node → IsEdgePlace w.told.grid.shape.n p s t → has_finer w.told.grid a (block_at w.told.grid node) s t ≡ false →
      Within (2 ^ 56) (edge_stored work w a node p s t)
  pub all : (node : ℕ) (a : Axis) (p s t : ℕ) → IsLeafNode w.told.grid node → IsEdgePlace w.told.grid.shape.n p s t → Within (2 ^ 58) (edge_stored work w a node p s t)

-- some lines have taken their sums
pub record AreHalved (work : Bool) (n g : ℕ) (old new : WorldState) : Type 0 where
  pub only : OnlyLeafAxes (edge_var work) old new
  pub fit : IsFit n g new
  pub tame : IsTame work new
  pub leaf_edges : (field : EdgeAt → ℤ) → LeafEdgesHold work old field → LeafEdgesHold work new field
  pub keeps : (field : EdgeAt → ℤ) (node : ℕ) (a : Axis) (s t : ℕ) → IsLeafNode old.told.grid node → s ≤ old.told.grid.shape.n → t ≤ old.told.grid.shape.n → LeafEdgesHold work old field →
      LineHolds work old field node a s t → LineHolds work new field node a s t

-- the children of a block in which the halves of a line lie are leaves, and nothing finer stands round the line there
pub record IsNear (g : Grid) (a : Axis) (b : BlockAt) (s t : ℕ) : Type 0 where
  pub leaf : (h : ℕ) → h < 2 → is_leaf_block g (child_on g.shape.n a b h s t) ≡ true
  pub calm : (h : ℕ) → h < 2 → has_finer g a (child_on g.shape.n a b h s t) (place_within g.shape.n s) (place_within g.shape.n t) ≡ false

-- a line of a leaf has taken the sums at the halves of the line (q, r) of the block d, and its other edges stay
pub record LineTaken (work : Bool) (n g : ℕ) (old new : WorldState) (node : ℕ) (a : Axis) (s t : ℕ) (d : BlockAt) (q r : ℕ) : Type 0 where
  pub only : OnlyOf old new 0 (edge_var work a) node
  pub fit : IsFit n g new
  pub others : (i j k : ℕ) → IsEdgePlace old.told.grid.shape.n i j k → (j ≡ s → k ≡ t → ⊥) → edge_stored work new a node i j k ≡ edge_stored work old a node i j k
  pub within : (p : ℕ) → p < old.told.grid.shape.n → Within (2 ^ 58) (edge_stored work new a node p s t)
  pub sums : (field : EdgeAt → ℤ) → LeafEdgesHold work old field → (p : ℕ) → p < old.told.grid.shape.n →
      edge_stored work new a node p s t ≡ sum_of_halves field (edge_there old.told.grid.shape a d p q r)
