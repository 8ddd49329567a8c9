-- The views of a field on the edges of a leaf.
use Rattle.std.specs.Prelude.{◌≡◌, ℕ, ◌*◌, ◌<◌, ◌⊎◌, true, ℤ}
use Rattle.amr_num.specs.Numbers.{Within}
use Rattle.amr_num.specs.declared.Axis.{Axis}
use Rattle.amr_num.specs.declared.Axis.TheVariants.{X, Y, Z}
use Rattle.amr_num.specs.declared.BlockAt.{BlockAt}
use Rattle.amr_num.specs.declared.EdgeAt.{EdgeAt}
use Rattle.mesh_model.specs.Fields.Views.{edge_view}
use Rattle.mesh_model.specs.Geometry.Coordinates.{half_edge}
use Rattle.mesh_model.specs.Geometry.Places.{longer_across}
use Rattle.mesh_model.specs.Tree.Kinds.{Grid, is_leaf_block, is_leaf_edge, is_split_edge}
use Rattle.mesh_model.specs.Tree.ValidGrid.{Valid}
use Rattle.block_tree.specs.Directions.{edge_name}
use Rattle.edge_average.specs.Lines.{sum_of_halves}

-- an edge is a leaf edge, and the view there is the field
pub record IsOwnView (g : Grid) (field : EdgeAt → ℤ) (e : EdgeAt) : Type 0 where
  pub leaf : is_leaf_edge g e ≡ true
  pub view : edge_view g field e ≡ field e

-- an edge has a split cell round it, its halves are leaf edges, and the view is the sum of the field there
pub record IsViewOfHalves (g : Grid) (field : EdgeAt → ℤ) (e : EdgeAt) : Type 0 where
  pub split : is_split_edge g e ≡ true
  pub leaves : (h : ℕ) → h < 2 → is_leaf_edge g (half_edge e h) ≡ true
  pub view : edge_view g field e ≡ sum_of_halves field e

-- each edge of a leaf is one of these
abbrev pub LeafEdgeViewsAreHalves : Type 0
LeafEdgeViewsAreHalves = (g : Grid) (field : EdgeAt → ℤ) (b : BlockAt) (a : Axis) (i j k : ℕ) → Valid g → is_leaf_block g b ≡ true →
    i < longer_across a X g.shape.n → j < longer_across a Y g.shape.n → k < longer_across a Z g.shape.n →
    IsOwnView g field (edge_name g.shape a b i j k) ⊎ IsViewOfHalves g field (edge_name g.shape a b i j k)

-- so where a field is at most so great on leaf edges, its views on a leaf's edges are at most twice that
abbrev pub LeafEdgeViewsAreSmall : Type 0
LeafEdgeViewsAreSmall = (g : Grid) (field : EdgeAt → ℤ) (most : ℕ) (b : BlockAt) (a : Axis) (i j k : ℕ) → Valid g → is_leaf_block g b ≡ true →
    ((e : EdgeAt) → is_leaf_edge g e ≡ true → Within most (field e)) →
    i < longer_across a X g.shape.n → j < longer_across a Y g.shape.n → k < longer_across a Z g.shape.n →
    Within (2 * most) (edge_view g field (edge_name g.shape a b i j k))
