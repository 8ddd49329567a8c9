-- One edge that is set.
use Rattle.std.specs.Prelude.{◌≡◌, ℕ, ◌+◌, ◌/◌, ◌<◌, Bool, false, ◌&&◌, ◌==◌, if◌then◌else◌, List, ℤ}
use Rattle.amr_num.specs.declared.Axis.{Axis}
use Rattle.amr_num.specs.declared.Axis.TheVariants.{X, Y, Z}
use Rattle.amr_num.specs.declared.BlockAt.{BlockAt}
use Rattle.amr_num.specs.declared.EdgeAt.{EdgeAt}
use Rattle.mesh_model.specs.declared.geometry.Shape.{Shape}
use Rattle.mesh_model.specs.Fields.ArrayPlaces.{IsWritten, edge_extents, number_at}
use Rattle.mesh_model.specs.Fields.EdgeSplits.{edge_box}
use Rattle.mesh_model.specs.Fields.FinePlaces.{edges_in}
use Rattle.mesh_model.specs.Fields.Ranks.{IsFit, WorldState}
use Rattle.mesh_model.specs.Geometry.Coordinates.{edge_numbers, is_same_edge, on}
use Rattle.mesh_model.specs.Geometry.Places.{longer_across}
use Rattle.mesh_model.specs.Geometry.Touch.{block_on}
use Rattle.mesh_model.specs.Tree.Kinds.{Grid}
use Rattle.block_tree.specs.Directions.{edge_name}
use Rattle.block_tree.specs.Numbered.{block_at}
use Rattle.rank_world.specs.Holding.{IsLeafNode, edge_array}

-- the edges of a leaf of a fit world with an edge variable
pub record HasEdges (n g : ℕ) (w : WorldState) (node : ℕ) : Type 0 where
  pub fit : IsFit n g w
  pub declared : 0 < w.told.counts.edges
  pub leaf : IsLeafNode w.told.grid node

-- a place of a block's edges along an axis
pub record IsEdgePlace (n : ℕ) (a : Axis) (i j k : ℕ) : Type 0 where
  pub x : i < longer_across a X n
  pub y : j < longer_across a Y n
  pub z : k < longer_across a Z n

-- the number that a node has there
abbrev pub edge_number : Grid → WorldState → Axis → ℕ → ℕ → ℕ → ℕ → ℤ
edge_number g w a node i j k = edges_in g a (edge_array false w a node) (g.shape.g + i) (g.shape.g + j) (g.shape.g + k)

-- the value where an edge is the one that is set, and another number elsewhere
abbrev pub set_or : EdgeAt → ℤ → EdgeAt → ℤ → ℤ
set_or at value e other = if is_same_edge e at then value else other

-- a node has the value wherever its edge is the one that is set, and what it had at all other places
abbrev pub IsNodeSet : Grid → WorldState → WorldState → EdgeAt → ℤ → ℕ → Type 0
IsNodeSet g old new at value node = (a : Axis) (i j k : ℕ) → IsEdgePlace g.shape.n a i j k →
    edge_number g new a node i j k ≡ set_or at value (edge_name g.shape a (block_at g node) i j k) (edge_number g old a node i j k)

-- each leaf does
pub record IsEdgeSet (old new : WorldState) (at : EdgeAt) (value : ℤ) : Type 0 where
  pub told : new.told ≡ old.told
  pub each : (node : ℕ) → IsLeafNode old.told.grid node → IsNodeSet old.told.grid old new at value node

-- a field with another number on one edge
abbrev pub with_edge : (EdgeAt → ℤ) → EdgeAt → ℤ → EdgeAt → ℤ
with_edge field at value e = set_or at value e (field e)

-- ---- on the way

-- the numbers of a block's edges along an axis after the edge was set, by places
abbrev pub edges_set : ℕ → ℕ → Shape → Axis → BlockAt → EdgeAt → ℤ → List ℤ → ℕ → ℕ → ℕ → ℤ
edges_set n g s a b at value xs i j k = set_or at value (edge_name s a b i j k) (number_at (edge_extents n g a) xs (g + i) (g + j) (g + k))

-- in an array of a block
abbrev pub AreEdgesSet : ℕ → ℕ → Shape → Axis → BlockAt → EdgeAt → ℤ → List ℤ → List ℤ → Type 0
AreEdgesSet n g s a b at value old new = IsWritten (edge_extents n g a) (edge_box n g a) (edges_set n g s a b at value old) old new

-- an edge lies on a block's level, and along the axis where the block does
abbrev pub is_beside : ℕ → BlockAt → EdgeAt → Bool
is_beside n b at = (b.level == at.level) && (on at.axis (edge_numbers at) / n == block_on at.axis b)
