-- A uniform field on the faces of a world.
use Rattle.std.specs.Prelude.{◌≡◌, ℕ, ◌<◌, ◌-◌, ◌^◌, ◌&&◌, Bool, true, false, Option, Some, None, if◌then◌else◌, find, ℤ, pos, ◌*ℤ◌, replicate}
use Rattle.std.specs.Option.{option_map}
use Rattle.amr_num.specs.declared.Axis.{Axis}
use Rattle.amr_num.specs.declared.BlockAt.{BlockAt}
use Rattle.amr_num.specs.declared.FaceAt.{FaceAt}
use Rattle.mesh_model.specs.Fields.Advect.{Speeds, speed}
use Rattle.mesh_model.specs.Fields.Arrays.{var_length}
use Rattle.mesh_model.specs.Fields.Firsts.{first_below}
use Rattle.mesh_model.specs.Fields.RangeWalk.{faces_walked, is_above}
use Rattle.mesh_model.specs.Fields.Ranks.{IsFit, WorldState}
use Rattle.mesh_model.specs.Tree.Kinds.{Grid, is_leaf_block, is_leaf_face}
use Rattle.mesh_model.specs.declared.fields.values.Var.TheVariants.{Face}
use Rattle.block_tree.specs.Beside.{finer_beside}
use Rattle.block_tree.specs.Numbered.{block_at}
use Rattle.rank_world.specs.FaceRange.{first_above}
use Rattle.rank_world.specs.Holding.{IsLeafNode, face_array}
use Rattle.rank_world.specs.declared.faces.FaceAbove.{FaceAbove}

-- the faces of a leaf of a fit world with a face variable
pub record HasLeafFaces (n g : ℕ) (w : WorldState) (node : ℕ) : Type 0 where
  pub fit : IsFit n g w
  pub declared : 0 < w.told.counts.faces
  pub leaf : IsLeafNode w.told.grid node

-- what flows through a face of a level normal to an axis: that of a finest face, times the face's area in finest faces
abbrev pub level_flux : Grid → Speeds → Axis → ℕ → ℤ
level_flux g b a l = speed b a *ℤ pos (4 ^ (g.shape.max - l))

abbrev pub node_flux : Grid → Speeds → Axis → ℕ → ℤ
node_flux g b a node = level_flux g b a (block_at g node).level

-- the array of a node's faces normal to an axis has this number alone; so it is on each axis
abbrev pub IsEven : ℕ → ℕ → WorldState → Speeds → ℕ → Axis → Type 0
IsEven n g w b node a = face_array w a node ≡ replicate (var_length n g (Face a)) (node_flux w.told.grid b a node)

abbrev pub AreEven : ℕ → ℕ → WorldState → Speeds → ℕ → Type 0
AreEven n g w b node = (a : Axis) → IsEven n g w b node a

-- no finer leaves stand at the low side of a block, or some do
pub record IsCalmBelow (g : Grid) (a : Axis) (b : BlockAt) (calm : Bool) : Type 0 where
  pub none : calm ≡ true → finer_beside g a false b ≡ None
  pub some : calm ≡ false → (d : BlockAt) × (finer_beside g a false b ≡ Some d)

-- the first leaf face of a node above 2^40 in absolute value, where the node is a leaf; and the first of the nodes below a number
abbrev pub node_above : Grid → (FaceAt → ℤ) → ℕ → Option FaceAbove
node_above g field node = if is_leaf_block g (block_at g node) then first_above g field (block_at g node) else None

abbrev pub above_below : Grid → (FaceAt → ℤ) → ℕ → Option FaceAbove
above_below g field count = first_below count (node_above g field)

-- a face, with what a field has there
abbrev pub face_told : (FaceAt → ℤ) → FaceAt → FaceAbove
face_told field f = record { face = f; value = field f }

-- the first leaf face in the walk over all numbers that is above 2^40 in absolute value
abbrev pub walked_above : Grid → (FaceAt → ℤ) → Option FaceAbove
walked_above g field = option_map (face_told field) (find (λ f. is_leaf_face g f && is_above (2 ^ 40) (field f)) (faces_walked g))
