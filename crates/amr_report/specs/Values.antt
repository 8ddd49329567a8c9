-- What block values have of a mesh: the views at the interior places of leaves, and the guard values round one leaf.
use Rattle.std.specs.Prelude.{◌≡◌, ℕ, ◌+◌, ◌*◌, ◌<◌, true, ℤ, pos, ◌-ℤ◌}
use Rattle.amr_num.specs.declared.Axis.{Axis}
use Rattle.amr_num.specs.declared.Axis.TheVariants.{X, Y, Z}
use Rattle.amr_num.specs.declared.BlockAt.{BlockAt}
pub use Rattle.block_tree.specs.Interior.{IsPlace, interior_value, HasInterior, HasViews}
use Rattle.block_tree.specs.Numbered.{block_at}
use Rattle.mesh_model.specs.declared.geometry.Shape.{Shape}
use Rattle.mesh_model.specs.declared.fields.values.Group.{Group}
use Rattle.mesh_model.specs.declared.fields.values.Group.TheVariants.{Cell, Face, Edge}
use Rattle.mesh_model.specs.declared.fields.values.Var.{Var}
use Rattle.mesh_model.specs.Geometry.Coordinates.{edge_of, face_of, next}
use Rattle.mesh_model.specs.Fields.GuardValues.{cell_guard, edge_guard, face_guard}
use Rattle.mesh_model.specs.Tree.Kinds.{Grid, is_leaf_block}
use Rattle.mesh_model.specs.Fields.Plain.{Mesh}
use Rattle.mesh_model.specs.Geometry.Places.{guard_index, in_block}
use Rattle.mesh_model.specs.Geometry.Canonical.{canonical_edge, canonical_face}
use Rattle.mesh_model.specs.Fields.Views.{edge_view, face_view}
use Rattle.block_tree.specs.Interior.{array_on, places_along}

-- ---- at all places, guard places included

-- the block index of a place, counted from the first guard place
abbrev pub from_guard : ℕ → ℕ → ℤ
from_guard guards i = pos i -ℤ pos guards

-- the coordinate on an axis of that place, where the block is the b-th
abbrev pub coordinate : Shape → ℕ → ℕ → ℤ
coordinate s b i = guard_index s.n s.g b i

-- the guard value at the place (i, j, k) of an array of the block b, counted from the first guard place
abbrev pub guard_value : Mesh → Group → Axis → BlockAt → ℕ → ℕ → ℕ → ℤ
guard_value m (Cell v) a b i j k =
    cell_guard m.grid (m.cells v) b.level (coordinate m.grid.shape b.x i) (coordinate m.grid.shape b.y j) (coordinate m.grid.shape b.z k)
guard_value m Face a b i j k =
    face_guard m.grid m.faces a b.level (coordinate m.grid.shape b.x i) (coordinate m.grid.shape b.y j) (coordinate m.grid.shape b.z k)
guard_value m Edge a b i j k =
    edge_guard m.grid m.edges a b.level (coordinate m.grid.shape b.x i) (coordinate m.grid.shape b.y j) (coordinate m.grid.shape b.z k)

-- at each place of a node's arrays of the group there is a number
pub record HasWhole (is_there : Var → ℕ → ℤ → ℤ → ℤ → Type 0) (g : Grid) (group : Group) (node : ℕ) : Type 0 where
  pub each : (a : Axis) (i j k : ℕ) → IsPlace g.shape.n g.shape.g (array_on group a) i j k
      → is_there (array_on group a) node (from_guard g.shape.g i) (from_guard g.shape.g j) (from_guard g.shape.g k)

-- these numbers are the guard values
pub record HasGuardValues (number : Var → ℕ → ℤ → ℤ → ℤ → ℤ) (m : Mesh) (group : Group) (node : ℕ) : Type 0 where
  pub each : (a : Axis) (i j k : ℕ) → IsPlace m.grid.shape.n m.grid.shape.g (array_on group a) i j k
      → number (array_on group a) node (from_guard m.grid.shape.g i) (from_guard m.grid.shape.g j) (from_guard m.grid.shape.g k)
      ≡ guard_value m group a (block_at m.grid node) i j k
