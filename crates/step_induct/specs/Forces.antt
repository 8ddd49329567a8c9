-- The electromotive forces of a block's edges along an axis, from the numbers of its faces with their guards, by places.
use Rattle.std.specs.Prelude.{◌≡◌, ℕ, suc, ◌+◌, ◌-◌, ◌*◌, ◌^◌, ◌<◌, ◌≤◌, Bool, false, ◌&&◌, ◌||◌, ◌==◌, List, length, ℤ, pos, negsuc, ◌-ℤ◌, if◌then◌else◌, slice_index_or, unsigned_abs}
use Rattle.amr_num.specs.Numbers.{Within, carry}
use Rattle.amr_num.specs.declared.Axis.{Axis}
use Rattle.amr_num.specs.declared.Axis.TheVariants.{X, Y, Z}
use Rattle.amr_num.specs.declared.BlockAt.{BlockAt}
use Rattle.amr_num.specs.declared.FaceAt.{FaceAt}
use Rattle.mesh_model.specs.declared.geometry.Shape.{Shape}
use Rattle.mesh_model.specs.Geometry.Blocks.{InDomain}
use Rattle.mesh_model.specs.Geometry.Coordinates.{next, roots, side_index, side_kind, step}
use Rattle.mesh_model.specs.Geometry.Limits.{IsShape}
use Rattle.mesh_model.specs.Geometry.Places.{is_on_side, longer_across}
use Rattle.mesh_model.specs.Geometry.Touch.{block_on}
use Rattle.mesh_model.specs.Tree.Kinds.{Grid}
use Rattle.mesh_model.specs.Fields.Advect.{Speeds, is_closed_kind, speed, three}
use Rattle.mesh_model.specs.Fields.ArrayPlaces.{HoldsEdgeField, HoldsFaceGuards, IsWritten, edge_extents, face_extents, size_of}
use Rattle.mesh_model.specs.Fields.EdgeSplits.{edge_box}
use Rattle.mesh_model.specs.Fields.FaceSplits.{all_faces, position}
use Rattle.mesh_model.specs.Fields.FinePlaces.{edges_in, faces_in}
use Rattle.mesh_model.specs.Fields.Induct.{leaf_electromotive_force}
use Rattle.step_induct.specs.declared.forces.BlockFlow.{BlockFlow}

-- ---- flows

-- how a block is flowed through: at which level, at which speed on each axis, and which of its sides are closed, in the order x low, x high,
-- y low, y high, z low, z high
pub record Flow : Type 0 where
  pub level : ℕ
  pub speeds : Speeds
  pub closed : List Bool

-- the level is one of a mesh, and each speed moves at most one cell of it a step
pub record IsSlow (f : Flow) : Type 0 where
  pub level : f.level ≤ 10
  pub speed_on : (a : Axis) → unsigned_abs (speed f.speeds a) * 2 ^ f.level ≤ 2 ^ 20

-- as the code has it
abbrev pub flow_of : BlockFlow → Flow
flow_of f = record { level = f.level; speeds = three f.speeds; closed = f.closed }

-- ---- closed sides

-- whether a side is closed
abbrev pub is_closed_side : List Bool → ℕ → Bool
is_closed_side closed q = slice_index_or closed q false

-- a position on an axis of a block lies on a closed side
abbrev pub is_closed_position : ℕ → List Bool → Axis → ℕ → Bool
is_closed_position n closed a p = is_on_side n (is_closed_side closed (side_index a)) (is_closed_side closed (suc (side_index a))) p

-- and so does the edge along an axis at a place
abbrev pub is_closed_edge : ℕ → List Bool → Axis → ℕ → ℕ → ℕ → Bool
is_closed_edge n closed a i j k =
    let b = next a in
    let c = next b in
    is_closed_position n closed b (position b i j k) || is_closed_position n closed c (position c i j k)

-- ---- forces

-- how many places lower stands what a speed comes from: one for a speed that is not negative, and none for a negative one
abbrev pub places_back : ℤ → ℕ
places_back (pos n) = 1
places_back (negsuc n) = 0

-- the number upstream of a place on an axis
abbrev pub upstream_number : Axis → ℤ → (ℕ → ℕ → ℕ → ℤ) → ℕ → ℕ → ℕ → ℤ
upstream_number a speed numbers i j k = let s = step a (places_back speed) in numbers (i - s.x) (j - s.y) (k - s.z)

-- the force of the edge along a at a place, with b and c the next axes, from the numbers of the face normal to b upstream on c and of the face
-- normal to c upstream on b: what the speed on c carries of the first, less what the speed on b carries of the other, and 0 on a closed side
unfoldable pub force_from : ℕ → Axis → Flow → ℤ → ℤ → ℕ → ℕ → ℕ → ℤ
force_from n a f face_b face_c i j k =
    let b = next a in
    let c = next b in
    if is_closed_edge n f.closed a i j k then pos 0 else carry (speed f.speeds c) f.level face_b -ℤ carry (speed f.speeds b) f.level face_c

-- and from the arrays of the faces normal to each axis
abbrev pub force_at : ℕ → ℕ → Axis → Flow → (Axis → List ℤ) → ℕ → ℕ → ℕ → ℤ
force_at n g a f arrays i j k =
    let b = next a in
    let c = next b in
    force_from n a f (upstream_number c (speed f.speeds c) (all_faces n g arrays b) (g + i) (g + j) (g + k))
    (upstream_number b (speed f.speeds b) (all_faces n g arrays c) (g + i) (g + j) (g + k)) i j k

-- the edges of a block along an axis have their forces, and the guards stay
abbrev pub IsForced : ℕ → ℕ → Axis → Flow → (Axis → List ℤ) → List ℤ → List ℤ → Type 0
IsForced n g a f arrays old new = IsWritten (edge_extents n g a) (edge_box n g a) (force_at n g a f arrays) old new

-- ---- sizes

-- a place on an axis lies in the block or in the layer of guards beside it
abbrev pub IsNear : ℕ → ℕ → ℕ → Type 0
IsNear n g i = (g ≤ i + 1) × (i ≤ g + n)

-- the faces there have numbers that are at most so great in absolute value
pub record AreFacesNear (most n g : ℕ) (arrays : Axis → List ℤ) : Type 0 where
  pub at : (a : Axis) (i j k : ℕ) → IsNear n g i → IsNear n g j → IsNear n g k → Within most (all_faces n g arrays a i j k)

-- the arrays of a block's faces normal to each axis, with numbers that can be carried
pub record AreFaceArrays (n g : ℕ) (arrays : Axis → List ℤ) : Type 0 where
  pub whole : (a : Axis) → length (arrays a) ≡ size_of (face_extents n g a)
  pub small : AreFacesNear (2 ^ 56) n g arrays

-- each edge of a block along an axis has a number that is at most so great in absolute value
pub record AreEdgesWithin (most n g : ℕ) (a : Axis) (edges : ℕ → ℕ → ℕ → ℤ) : Type 0 where
  pub at : (i j k : ℕ) → i < longer_across a X n → j < longer_across a Y n → k < longer_across a Z n → Within most (edges (g + i) (g + j) (g + k))

-- ---- fields

-- a block is flowed through as in the mesh: at its level and the speeds of the axes, and its sides are closed where they lie on a closed side of
-- the domain
pub record IsFlowOf (s : Shape) (n : Speeds) (b : BlockAt) (flow : Flow) : Type 0 where
  pub level : flow.level ≡ b.level
  pub speeds_of : flow.speeds ≡ n
  pub closed_low : (a : Axis) → is_closed_side flow.closed (side_index a) ≡ ((block_on a b == 0) && is_closed_kind (side_kind s.sides (side_index a)))
  pub closed_high : (a : Axis) →
      is_closed_side flow.closed (suc (side_index a)) ≡ ((suc (block_on a b) == roots s a * 2 ^ b.level) && is_closed_kind (side_kind s.sides (suc (side_index a))))

-- where the arrays of a block's faces have the views of a field, guards included, each of its edges gets the electromotive force that leaf edges
-- of the mesh have
abbrev pub ForcesAreOfLeaves : Type 0
ForcesAreOfLeaves = (g : Grid) (field : FaceAt → ℤ) (n : Speeds) (a : Axis) (b : BlockAt) (flow : Flow) (arrays : Axis → List ℤ) (old new : List ℤ) →
    IsShape g.shape → InDomain g.shape b → IsFlowOf g.shape n b flow → ((c : Axis) → HoldsFaceGuards g field c b (faces_in g c (arrays c))) →
    IsForced g.shape.n g.shape.g a flow arrays old new → HoldsEdgeField g (leaf_electromotive_force g field n) a b (edges_in g a new)
