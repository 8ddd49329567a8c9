-- The arrays that a step reads in a leaf, with numbers that can be added.
use Rattle.std.proofs.Common.{◌≡◌, ℕ, ◌+◌, ◌^◌, ◌<◌, Bool, true, false, ℤ, refl, subst, ◌∙◌}
use Rattle.amr_num.specs.Numbers.{Within}
use Rattle.amr_num.specs.declared.Axis.{Axis}
use Rattle.amr_num.specs.declared.Axis.TheVariants.{X, Y, Z}
use Rattle.mesh_model.specs.Fields.Arrays.{HasVar, var_length}
use Rattle.mesh_model.specs.Fields.ArrayPlaces.{edge_extents, number_at, size_of}
use Rattle.mesh_model.specs.Fields.Ranks.{IsFit, WorldState}
use Rattle.mesh_model.specs.Geometry.Places.{longer_across}
use Rattle.mesh_model.proofs.FieldLemmas.Worlds.{has_array}
use Rattle.rank_world.specs.Holding.{IsLeafNode, edge_array, edge_var}
use Rattle.edge_average.specs.EdgeArrays.{LeafEdgesWithin}
use Rattle.step_induct.specs.Circling.{AreEdgeArrays}
use Rattle.mesh_steps.specs.Circulations.{AreEdgesSmall, edge_arrays, is_work}
use Rattle.mesh_steps.specs.declared.circulations.Step.{Step}
use Rattle.mesh_steps.specs.declared.circulations.Step.TheVariants.{Curl}

-- such an array has a place for each of its block's edges and guards
edge_long : (n g : ℕ) (work : Bool) (a : Axis) → var_length n g (edge_var work a) ≡ size_of (edge_extents n g a)
edge_long n g true a = refl
edge_long n g false a = refl

module _ (step : Step) (n g : ℕ) (w : WorldState) (node : ℕ) (fit : IsFit n g w) (leaf : IsLeafNode w.told.grid node) where
  abbrev SmallOn : ℕ → ℕ → Axis → Type 0
  SmallOn m h a = (i j k : ℕ) → i < longer_across a X m → j < longer_across a Y m → k < longer_across a Z m → Within (2 ^ 58) (number_at (edge_extents m h a) (edge_array (is_work step) w a node) (h + i) (h + j) (h + k))

  -- the edges of a leaf whose variable is there and whose numbers are small
  pub edges_added : ((a : Axis) → HasVar w.told.counts (edge_var (is_work step) a)) → ((a : Axis) → LeafEdgesWithin (is_work step) w (2 ^ 58) a node) → AreEdgeArrays n g (edge_arrays step w node)
  edges_added some small = record {
    whole = elim [
      | X ↦ fit.whole.each (edge_var (is_work step) X) node (has_array n g w (edge_var (is_work step) X) node fit leaf.there (some X)) ∙ edge_long n g (is_work step) X
      | Y ↦ fit.whole.each (edge_var (is_work step) Y) node (has_array n g w (edge_var (is_work step) Y) node fit leaf.there (some Y)) ∙ edge_long n g (is_work step) Y
      | Z ↦ fit.whole.each (edge_var (is_work step) Z) node (has_array n g w (edge_var (is_work step) Z) node fit leaf.there (some Z)) ∙ edge_long n g (is_work step) Z
    ];
    small = elim [
      | X ↦ sized X
      | Y ↦ sized Y
      | Z ↦ sized Z
    ];
  }
    where
      sized : (a : Axis) → SmallOn n g a
      sized a = subst (λ m. SmallOn m g a) fit.sizes.cells (subst (λ h. SmallOn w.told.grid.shape.n h a) fit.sizes.guards (small a).at)

-- so are those of each leaf, in the arrays that a curl reads
pub leaves_added : (n g : ℕ) (w : WorldState) → IsFit n g w → 0 < w.told.counts.edges → ((node : ℕ) (a : Axis) → IsLeafNode w.told.grid node → LeafEdgesWithin false w (2 ^ 58) a node) → AreEdgesSmall n g w
leaves_added n g w fit some small node leaf = edges_added Curl n g w node fit leaf (λ a. some) (λ a. small node a leaf)
