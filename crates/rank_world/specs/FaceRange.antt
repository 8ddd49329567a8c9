-- Numbers on leaf faces that are out of range.
use Rattle.std.specs.Prelude.{ℕ, ◌^◌, ◌&&◌, ◌≡◌, Bool, true, false, Option, None, Some, if◌then◌else◌, ℤ}
use Rattle.std.specs.Option.{option_or}
use Rattle.amr_num.specs.declared.Axis.{Axis}
use Rattle.amr_num.specs.declared.Axis.TheVariants.{X, Y, Z}
use Rattle.amr_num.specs.declared.BlockAt.{BlockAt}
use Rattle.amr_num.specs.declared.FaceAt.{FaceAt}
use Rattle.mesh_model.specs.declared.geometry.Shape.{Shape}
use Rattle.mesh_model.specs.Geometry.Canonical.{canonical_on}
use Rattle.mesh_model.specs.Geometry.Coordinates.{face_of}
use Rattle.mesh_model.specs.Geometry.Places.{in_block, longer_on}
use Rattle.mesh_model.specs.Tree.Kinds.{Grid, is_leaf_face}
use Rattle.mesh_model.specs.Fields.ArrayPlaces.{HoldsFaceField}
use Rattle.mesh_model.specs.Fields.FinePlaces.{faces_in}
use Rattle.mesh_model.specs.Fields.Firsts.{first_in_places}
use Rattle.mesh_model.specs.Fields.RangeWalk.{is_above}
use Rattle.mesh_model.specs.Fields.Ranks.{WorldState}
use Rattle.block_store.specs.declared.above.Above.{Above}
use Rattle.block_store.specs.declared.above.CountedFaces.{CountedFaces}
use Rattle.block_tree.specs.Beside.{finer_beside}
use Rattle.block_tree.specs.Numbered.{block_at}
use Rattle.rank_world.specs.Holding.{stored}
use Rattle.rank_world.specs.declared.faces.FaceAbove.{FaceAbove}

-- the node has a field on faces, in its arrays of faces normal to an axis; in those of all axes
abbrev pub HasAxis : Bool → WorldState → (FaceAt → ℤ) → ℕ → Axis → Type 0
HasAxis work w field node a = HoldsFaceField w.told.grid field a (block_at w.told.grid node) (faces_in w.told.grid a (stored work w a node))

abbrev pub HasAxes : Bool → WorldState → (FaceAt → ℤ) → ℕ → Type 0
HasAxes work w field node = (a : Axis) → HasAxis work w field node a

-- on its faces, and on its work faces
abbrev pub HasField : WorldState → (FaceAt → ℤ) → ℕ → Type 0
HasField w field node = HasAxes false w field node

abbrev pub HasWorkField : WorldState → (FaceAt → ℤ) → ℕ → Type 0
HasWorkField w field node = HasAxes true w field node

-- what a field has on a leaf face, where that is above 2^40 in absolute value
abbrev pub face_above_at : Grid → (FaceAt → ℤ) → FaceAt → Option FaceAbove
face_above_at g field f = if is_leaf_face g f && is_above (2 ^ 40) (field f) then Some (record { face = f; value = field f }) else None

-- the first of a block's faces normal to an axis, x fastest, then y, then z
abbrev pub axis_above : Grid → (FaceAt → ℤ) → BlockAt → Axis → Option FaceAbove
axis_above g field b a =
    let n = g.shape.n in
    first_in_places (longer_on a X n) (longer_on a Y n) (longer_on a Z n) (λ i j k. face_above_at g field (face_of a (canonical_on g.shape a (in_block n b i j k))))

-- and of all its faces, axis by axis
abbrev pub first_above : Grid → (FaceAt → ℤ) → BlockAt → Option FaceAbove
first_above g field b = option_or (axis_above g field b X) (option_or (axis_above g field b Y) (axis_above g field b Z))

-- the leaf faces of a leaf normal to an axis count: those at a side where no finer leaves stand
pub record CountLeafFaces (g : Grid) (b : BlockAt) (f : CountedFaces) : Type 0 where
  pub low_calm : f.low ≡ true → finer_beside g f.axis false b ≡ None
  pub low_finer : f.low ≡ false → (d : BlockAt) × (finer_beside g f.axis false b ≡ Some d)
  pub high_calm : f.high ≡ true → finer_beside g f.axis true b ≡ None
  pub high_finer : f.high ≡ false → (d : BlockAt) × (finer_beside g f.axis true b ≡ Some d)

-- what is told of a number that is found among a block's faces normal to an axis
abbrev pub told_face : Shape → BlockAt → Axis → Above → FaceAbove
told_face s b a found = record { face = face_of a (canonical_on s a (in_block s.n b found.i found.j found.k)); value = found.value }
