-- What faces become by the circulations of edges round them: by curl they get those of the edge variable, and by induct they lose those of the
-- electromotive forces.
use Rattle.std.specs.Prelude.{◌≡◌, ℕ, ◌<◌, Bool, false, true, List, ℤ, ◌-ℤ◌}
use Rattle.amr_num.specs.declared.Axis.{Axis}
use Rattle.amr_num.specs.declared.Axis.TheVariants.{X, Y, Z}
use Rattle.amr_num.specs.declared.EdgeAt.{EdgeAt}
use Rattle.amr_num.specs.declared.FaceAt.{FaceAt}
use Rattle.mesh_model.specs.Fields.ArrayPlaces.{IsWritten, face_extents}
use Rattle.mesh_model.specs.Fields.Arrays.{Counts, array_in}
use Rattle.mesh_model.specs.Fields.Circulation.{circulation}
use Rattle.mesh_model.specs.Fields.FaceSplits.{by_axis, face_box}
use Rattle.mesh_model.specs.Fields.Induct.{curled, less_circulation}
use Rattle.mesh_model.specs.Fields.Ranks.{IsFit, WorldState, rank_at}
use Rattle.mesh_model.specs.Fields.Views.{edge_view, face_view}
use Rattle.mesh_model.specs.Tree.Kinds.{Grid}
use Rattle.mesh_model.specs.declared.fields.values.Var.{Var}
use Rattle.mesh_model.specs.declared.fields.values.Var.TheVariants.{Face, FaceWork}
use Rattle.rank_world.specs.FaceRange.{HasWorkField}
use Rattle.rank_world.specs.Holding.{IsLeafNode, NodeHoldsEdges, NodeHoldsFaces, edge_array, face_array, stored}
use Rattle.step_induct.specs.Circling.{AreEdgeArrays, IsFaceArray, circled, edges_of, faces_of, lessened}
use Rattle.mesh_steps.specs.declared.circulations.Step.{Step}
use Rattle.mesh_steps.specs.declared.circulations.Step.TheVariants.{Curl, Induct}

-- ---- by coordinates

-- what a step gives to a face, from the views of a field on faces and of a field on edges
abbrev pub given : Step → Grid → (FaceAt → ℤ) → (EdgeAt → ℤ) → FaceAt → ℤ
given Curl g faces edges f = circulation g (edge_view g edges) f
given Induct g faces edges f = face_view g faces f -ℤ circulation g (edge_view g edges) f

-- and what the face variable is after it
abbrev pub stepped : Step → Grid → (FaceAt → ℤ) → (EdgeAt → ℤ) → FaceAt → ℤ
stepped Curl g faces edges = curled g edges
stepped Induct g faces edges = less_circulation g faces (edge_view g edges)

-- ---- by places

-- the electromotive forces stand in the work edges
abbrev pub is_work : Step → Bool
is_work Curl = false
is_work Induct = true

-- the arrays of a node's edges along each axis that a step reads
abbrev pub edge_arrays : Step → WorldState → ℕ → Axis → List ℤ
edge_arrays step w node = by_axis (edge_array (is_work step) w X node) (edge_array (is_work step) w Y node) (edge_array (is_work step) w Z node)

-- what it gives to the faces of a node normal to an axis
abbrev pub numbers_given : Step → ℕ → ℕ → WorldState → ℕ → Axis → ℕ → ℕ → ℕ → ℤ
numbers_given Curl n g w node a = circled (edges_of n g (edge_arrays Curl w node)) a
numbers_given Induct n g w node a = lessened (faces_of n g a (face_array w a node)) (edges_of n g (edge_arrays Induct w node)) a

-- the work faces of the node have it, and their guards stay
abbrev pub IsGiven : Step → ℕ → ℕ → WorldState → WorldState → ℕ → Axis → Type 0
IsGiven step n g old new node a = IsWritten (face_extents n g a) (face_box n g a) (numbers_given step n g old node a) (stored true old a node) (stored true new a node)

-- ---- what a step needs

-- the variable that it reads is there
abbrev pub HasRead : Step → Counts → Type 0
HasRead Curl counts = 0 < counts.edges
HasRead Induct counts = 0 < counts.faces

-- the numbers that it reads in a node can be added
pub record IsSmall (step : Step) (n g : ℕ) (w : WorldState) (node : ℕ) : Type 0 where
  pub edges : AreEdgeArrays n g (edge_arrays step w node)
  pub faces : step ≡ Induct → (a : Axis) → IsFaceArray n g a (face_array w a node)

-- those of each leaf's edges can
abbrev pub AreEdgesSmall : ℕ → ℕ → WorldState → Type 0
AreEdgesSmall n g w = (node : ℕ) → IsLeafNode w.told.grid node → AreEdgeArrays n g (edge_arrays Curl w node)

-- a leaf of a fit world where the step can be made
pub record MayStep (step : Step) (n g : ℕ) (w : WorldState) (node : ℕ) : Type 0 where
  pub fit : IsFit n g w
  pub declared : HasRead step w.told.counts
  pub leaf : IsLeafNode w.told.grid node
  pub small : IsSmall step n g w node

-- a node holds the views of the fields that the step reads; each leaf does
pub record NodeShows (step : Step) (w : WorldState) (faces : FaceAt → ℤ) (edges : EdgeAt → ℤ) (node : ℕ) : Type 0 where
  pub on_edges : NodeHoldsEdges (is_work step) w edges node
  pub on_faces : step ≡ Induct → NodeHoldsFaces w faces node

abbrev pub LeavesShow : Step → WorldState → (FaceAt → ℤ) → (EdgeAt → ℤ) → Type 0
LeavesShow step w faces edges = (node : ℕ) → IsLeafNode w.told.grid node → NodeShows step w faces edges node

-- ---- what it makes

-- the work faces of each leaf have what the step gives
abbrev pub HaveGiven : Step → WorldState → (FaceAt → ℤ) → (EdgeAt → ℤ) → Type 0
HaveGiven step w faces edges = (node : ℕ) → IsLeafNode w.told.grid node → HasWorkField w (given step w.told.grid faces edges) node

-- the faces and the work faces of nodes may have other numbers, and all else is as it was
pub record OnlyFacesAndWork (old new : WorldState) : Type 0 where
  pub told : new.told ≡ old.told
  pub others : (u : Var) (at : ℕ) → ((a : Axis) → u ≡ Face a → ⊥) → ((a : Axis) → u ≡ FaceWork a → ⊥) → array_in (rank_at new 0).own.values u at ≡ array_in (rank_at old 0).own.values u at

-- the faces of one node have what its work faces had, and all else but those is as it was
pub record IsFacesTaken (old new : WorldState) (node : ℕ) : Type 0 where
  pub told : new.told ≡ old.told
  pub here : (a : Axis) → array_in (rank_at new 0).own.values (Face a) node ≡ array_in (rank_at old 0).own.values (FaceWork a) node
  pub others : (u : Var) (at : ℕ) → ((a : Axis) → u ≡ Face a → at ≡ node → ⊥) → ((a : Axis) → u ≡ FaceWork a → at ≡ node → ⊥) →
      array_in (rank_at new 0).own.values u at ≡ array_in (rank_at old 0).own.values u at
