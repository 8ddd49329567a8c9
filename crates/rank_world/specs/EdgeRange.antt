-- Numbers on leaf edges that are out of range.
use Rattle.std.specs.Prelude.{ℕ, ◌^◌, ◌&&◌, false, Option, None, Some, if◌then◌else◌, ℤ}
use Rattle.std.specs.Option.{option_or}
use Rattle.amr_num.specs.declared.Axis.{Axis}
use Rattle.amr_num.specs.declared.Axis.TheVariants.{X, Y, Z}
use Rattle.amr_num.specs.declared.BlockAt.{BlockAt}
use Rattle.amr_num.specs.declared.EdgeAt.{EdgeAt}
use Rattle.mesh_model.specs.declared.geometry.Shape.{Shape}
use Rattle.mesh_model.specs.Geometry.Places.{longer_across}
use Rattle.mesh_model.specs.Tree.Kinds.{Grid, is_leaf_edge}
use Rattle.mesh_model.specs.Fields.ArrayPlaces.{HoldsEdgeField}
use Rattle.mesh_model.specs.Fields.FinePlaces.{edges_in}
use Rattle.mesh_model.specs.Fields.Firsts.{first_in_places}
use Rattle.mesh_model.specs.Fields.RangeWalk.{is_above}
use Rattle.mesh_model.specs.Fields.Ranks.{WorldState}
use Rattle.block_store.specs.declared.above.Above.{Above}
use Rattle.block_tree.specs.Directions.{edge_name}
use Rattle.block_tree.specs.Numbered.{block_at}
use Rattle.rank_world.specs.Holding.{edge_array}
use Rattle.rank_world.specs.declared.edges.EdgeAbove.{EdgeAbove}

-- the node has a field on edges, in its array of the edges along an axis; in those of all axes
abbrev pub HasEdgesOn : WorldState → (EdgeAt → ℤ) → ℕ → Axis → Type 0
HasEdgesOn w field node a = HoldsEdgeField w.told.grid field a (block_at w.told.grid node) (edges_in w.told.grid a (edge_array false w a node))

abbrev pub HasEdges : WorldState → (EdgeAt → ℤ) → ℕ → Type 0
HasEdges w field node = (a : Axis) → HasEdgesOn w field node a

-- what a field has on a leaf edge, where that is above 2^40 in absolute value
abbrev pub edge_above_at : Grid → (EdgeAt → ℤ) → EdgeAt → Option EdgeAbove
edge_above_at g field e = if is_leaf_edge g e && is_above (2 ^ 40) (field e) then Some (record { edge = e; value = field e }) else None

-- the first of a block's edges along an axis, x fastest, then y, then z
abbrev pub axis_above : Grid → (EdgeAt → ℤ) → BlockAt → Axis → Option EdgeAbove
axis_above g field b a =
    let n = g.shape.n in
    first_in_places (longer_across a X n) (longer_across a Y n) (longer_across a Z n) (λ i j k. edge_above_at g field (edge_name g.shape a b i j k))

-- and of all its edges, axis by axis
abbrev pub first_above : Grid → (EdgeAt → ℤ) → BlockAt → Option EdgeAbove
first_above g field b = option_or (axis_above g field b X) (option_or (axis_above g field b Y) (axis_above g field b Z))

-- what is told of a number that is found among a block's edges along an axis
abbrev pub told_edge : Shape → BlockAt → Axis → Above → EdgeAbove
told_edge s b a found = record { edge = edge_name s a b found.i found.j found.k; value = found.value }
