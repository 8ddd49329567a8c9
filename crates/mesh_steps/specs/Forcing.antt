-- Electromotive forces in the work edges of leaves.
use Rattle.std.specs.Prelude.{◌≡◌, ℕ, suc, ◌+◌, ◌*◌, ◌^◌, ◌<◌, Bool, true, ◌&&◌, ◌==◌, List, ℤ}
use Rattle.amr_num.specs.Numbers.{Within, number_range}
use Rattle.amr_num.specs.declared.Axis.{Axis}
use Rattle.amr_num.specs.declared.Axis.TheVariants.{X, Y, Z}
use Rattle.amr_num.specs.declared.BlockAt.{BlockAt}
use Rattle.amr_num.specs.declared.FaceAt.{FaceAt}
use Rattle.mesh_model.specs.declared.fields.values.Var.TheVariants.{EdgeWork}
use Rattle.mesh_model.specs.declared.geometry.Shape.{Shape}
use Rattle.mesh_model.specs.Fields.Advect.{Speeds, is_closed_kind, keeps_courant}
use Rattle.mesh_model.specs.Fields.ArrayPlaces.{HoldsEdgeField, HoldsFaceGuards}
use Rattle.mesh_model.specs.Fields.FaceSplits.{by_axis}
use Rattle.mesh_model.specs.Fields.FinePlaces.{edges_in, faces_in}
use Rattle.mesh_model.specs.Fields.Induct.{leaf_electromotive_force}
use Rattle.mesh_model.specs.Fields.Ranks.{IsFit, WorldState}
use Rattle.mesh_model.specs.Geometry.Coordinates.{roots, side_index, side_kind}
use Rattle.mesh_model.specs.Geometry.Places.{longer_across}
use Rattle.mesh_model.specs.Geometry.Touch.{block_on}
use Rattle.mesh_model.specs.Tree.Kinds.{Grid}
use Rattle.block_tree.specs.Numbered.{block_at}
use Rattle.rank_world.specs.Holding.{OnlyAxes, edge_array, face_array}
use Rattle.guard_fill.specs.Guarding.{LeavesGuardedFaces}
use Rattle.step_induct.specs.Forces.{is_closed_side}

-- which sides of a block lie on closed sides of the domain, in the order x low, x high, y low, y high, z low, z high
pub record AreClosedSides (s : Shape) (b : BlockAt) (closed : List Bool) : Type 0 where
  pub low : (a : Axis) → is_closed_side closed (side_index a) ≡ ((block_on a b == 0) && is_closed_kind (side_kind s.sides (side_index a)))
  pub high : (a : Axis) → is_closed_side closed (suc (side_index a)) ≡ ((suc (block_on a b) == roots s a * 2 ^ b.level) && is_closed_kind (side_kind s.sides (suc (side_index a))))

-- the edges of a block along an axis have the electromotive forces of whatever field its faces have with their guards, and small ones
pub record AreForces (g : Grid) (n : Speeds) (a : Axis) (b : BlockAt) (faces : Axis → List ℤ) (edges : List ℤ) : Type 0 where
  pub forces : (field : FaceAt → ℤ) → ((c : Axis) → HoldsFaceGuards g field c b (faces_in g c (faces c))) → HoldsEdgeField g (leaf_electromotive_force g field n) a b (edges_in g a edges)
  pub within : (i j k : ℕ) → i < longer_across a X g.shape.n → j < longer_across a Y g.shape.n → k < longer_across a Z g.shape.n →
      Within (2 ^ 56) (edges_in g a edges (g.shape.g + i) (g.shape.g + j) (g.shape.g + k))

-- the arrays of a node's faces normal to each axis
abbrev pub face_arrays : WorldState → ℕ → Axis → List ℤ
face_arrays w node = by_axis (face_array w X node) (face_array w Y node) (face_array w Z node)

-- the work edges of a node have them
abbrev pub HasForces : WorldState → Speeds → ℕ → Axis → Type 0
HasForces w n node a = AreForces w.told.grid n a (block_at w.told.grid node) (face_arrays w node) (edge_array true w a node)

-- the leaves have, with their guards, the views of a field on faces whose numbers are at most 2^40 in absolute value
pub record AreFacesGuarded (w : WorldState) : Type 0 where
  pub field : FaceAt → ℤ
  pub guarded : LeavesGuardedFaces w field
  pub small : (f : FaceAt) → Within number_range (field f)

-- a world whose faces may be flowed through with such speeds
pub record MayForce (n g : ℕ) (w : WorldState) (speeds : Speeds) : Type 0 where
  pub fit : IsFit n g w
  pub declared : 0 < w.told.counts.faces
  pub guarded : AreFacesGuarded w
  pub courant : keeps_courant w.told.grid.shape speeds ≡ true

-- some work edges have got their forces
pub record AreForced (n g : ℕ) (old new : WorldState) (speeds : Speeds) : Type 0 where
  pub only : OnlyAxes EdgeWork old new
  pub ready : MayForce n g new speeds
  pub keeps : (node : ℕ) (a : Axis) → HasForces old speeds node a → HasForces new speeds node a
