-- What the faces of leaves have in their arrays: in the work faces, or in those of the face variable.
use Rattle.std.specs.Prelude.{◌≡◌, ℕ, ◌+◌, ◌<◌, ◌^◌, Bool, not, true, false, Some, List, ℤ}
use Rattle.amr_num.specs.Numbers.{Within}
use Rattle.amr_num.specs.declared.Axis.{Axis}
use Rattle.amr_num.specs.declared.Axis.TheVariants.{X, Y, Z}
use Rattle.amr_num.specs.declared.BlockAt.{BlockAt}
use Rattle.amr_num.specs.declared.FaceAt.{FaceAt}
use Rattle.mesh_model.specs.declared.fields.values.Var.{Var}
use Rattle.mesh_model.specs.Fields.Arrays.{array_in}
use Rattle.mesh_model.specs.Fields.ArrayPlaces.{HoldsFaceField, face_extents, number_at}
use Rattle.mesh_model.specs.Fields.Ranks.{IsFit, OnlyOf, WorldState, rank_at}
use Rattle.mesh_model.specs.Geometry.Places.{longer_on}
use Rattle.mesh_model.specs.Tree.Kinds.{Grid}
use Rattle.block_tree.specs.Numbered.{IsNumberOf, block_at}
pub use Rattle.block_tree.specs.Beside.{IsFinerNode}
use Rattle.rank_world.specs.Holding.{IsLeafNode, face_var}
pub use Rattle.rank_world.specs.Holding.{stored}
use Rattle.flux_conserve.specs.Jumps.{BlockFaces, IsCalm, IsFacePlace, child_beside, finer_beside, four_finer, is_at_jump, side_position, spot}

-- the number of an array of faces at a place of the block's faces
unfoldable pub face_at : ℕ → ℕ → Axis → List ℤ → ℕ → ℕ → ℕ → ℤ
face_at n g a xs p s t = number_at (face_extents n g a) xs (g + (spot a p s t).x) (g + (spot a p s t).y) (g + (spot a p s t).z)

-- the numbers of a node's array of faces normal to an axis
abbrev pub stored_at : Bool → WorldState → Axis → ℕ → ℕ → ℕ → ℕ → ℤ
stored_at work w a node p s t = face_at w.told.grid.shape.n w.told.grid.shape.g a (stored work w a node) p s t

-- a node is a leaf across some side of which the level jumps
pub record IsJumpNode (g : Grid) (node : ℕ) : Type 0 where
  pub own : IsLeafNode g node
  pub jump : is_at_jump g (block_at g node) ≡ true

-- no leaf is
abbrev pub HasNoJump : Grid → Type 0
HasNoJump g = (node : ℕ) → IsLeafNode g node → is_at_jump g (block_at g node) ≡ false

-- the leaves that use their faces: the work faces serve those at a jump alone, the face variable's arrays all
abbrev pub IsUsed : Bool → Grid → ℕ → Type 0
IsUsed true g node = IsJumpNode g node
IsUsed false g node = IsLeafNode g node

-- the faces of each leaf that uses them hold a field, by canonical names
abbrev pub FacesHold : Bool → WorldState → (FaceAt → ℤ) → Type 0
FacesHold work w field = (node : ℕ) (a : Axis) → IsUsed work w.told.grid node →
    HoldsFaceField w.told.grid field a (block_at w.told.grid node) (number_at (face_extents w.told.grid.shape.n w.told.grid.shape.g a) (stored work w a node))

-- the numbers of a leaf's array on the block's faces are at most so great in absolute value
pub record LeafWithin (work : Bool) (w : WorldState) (most : ℕ) (a : Axis) (node : ℕ) : Type 0 where
  pub at : (i j k : ℕ) → let s = w.told.grid.shape in i < longer_on a X s.n → j < longer_on a Y s.n → k < longer_on a Z s.n →
      Within most (number_at (face_extents s.n s.g a) (stored work w a node) (s.g + i) (s.g + j) (s.g + k))

-- those of each leaf that uses its array are
abbrev pub FacesWithin : Bool → WorldState → ℕ → Type 0
FacesWithin work w most = (node : ℕ) (a : Axis) → IsUsed work w.told.grid node → LeafWithin work w most a node

-- the faces of each leaf that uses them have these numbers
pub record FacesHave (work : Bool) (w : WorldState) (faces : BlockFaces) : Type 0 where
  pub at : (node : ℕ) (a : Axis) (p s t : ℕ) → IsUsed work w.told.grid node → IsFacePlace w.told.grid.shape.n p s t →
      stored_at work w a node p s t ≡ faces a (block_at w.told.grid node) p s t

-- arrays may have other numbers where they are these faces of leaves, and all else is as it was
pub record OnlyFaces (work : Bool) (old new : WorldState) : Type 0 where
  pub told : new.told ≡ old.told
  pub others : (u : Var) (node : ℕ) → ((a : Axis) → u ≡ face_var work a → IsLeafNode old.told.grid node → ⊥) →
      array_in (rank_at new 0).own.values u node ≡ array_in (rank_at old 0).own.values u node

-- ---- on the way

-- those at which no finer leaves stand do
pub record CalmHas (work : Bool) (w : WorldState) (faces : BlockFaces) : Type 0 where
  pub at : (node : ℕ) (a : Axis) (p s t : ℕ) → IsUsed work w.told.grid node → IsFacePlace w.told.grid.shape.n p s t → IsCalm w.told.grid a (block_at w.told.grid node) p →
      stored_at work w a node p s t ≡ faces a (block_at w.told.grid node) p s t

-- a side of a leaf at which finer leaves stand has their sums
pub record SideHas (work : Bool) (w : WorldState) (faces : BlockFaces) (node : ℕ) (a : Axis) (high : Bool) : Type 0 where
  pub at : (d : BlockAt) (s t : ℕ) → finer_beside w.told.grid a high (block_at w.told.grid node) ≡ Some d → s < w.told.grid.shape.n → t < w.told.grid.shape.n →
      stored_at work w a node (side_position w.told.grid.shape.n high) s t ≡ four_finer w.told.grid.shape.n faces a high d s t

-- the numbers are at most 2^56 in absolute value, or 2^58 where finer leaves stand
pub record IsTame (work : Bool) (w : WorldState) : Type 0 where
  pub calm : (node : ℕ) (a : Axis) (p s t : ℕ) → IsUsed work w.told.grid node → IsFacePlace w.told.grid.shape.n p s t → IsCalm w.told.grid a (block_at w.told.grid node) p →
      Within (2 ^ 56) (stored_at work w a node p s t)
  pub all : (node : ℕ) (a : Axis) (p s t : ℕ) → IsUsed work w.told.grid node → IsFacePlace w.told.grid.shape.n p s t → Within (2 ^ 58) (stored_at work w a node p s t)

-- some sides have taken their sums
pub record AreSummed (work : Bool) (n g : ℕ) (old new : WorldState) : Type 0 where
  pub only : OnlyFaces work old new
  pub fit : IsFit n g new
  pub tame : IsTame work new
  pub calm : (faces : BlockFaces) → CalmHas work old faces → CalmHas work new faces
  pub keeps : (faces : BlockFaces) (node : ℕ) (a : Axis) (high : Bool) → IsLeafNode old.told.grid node → CalmHas work old faces → SideHas work old faces node a high → SideHas work new faces node a high

-- the children of the block of a node that stand at a side of a coarser block have faces with these numbers there
pub record NearHas (work : Bool) (w : WorldState) (faces : BlockFaces) (a : Axis) (high : Bool) (node : ℕ) : Type 0 where
  pub at : (q s t child : ℕ) → q < 4 → IsNumberOf w.told.grid (child_beside a high q (block_at w.told.grid node)) child → s < w.told.grid.shape.n → t < w.told.grid.shape.n →
      let p = side_position w.told.grid.shape.n (not high) in stored_at work w a child p s t ≡ faces a (child_beside a high q (block_at w.told.grid node)) p s t

-- these numbers are at most 2^56 in absolute value
pub record NearWithin (work : Bool) (w : WorldState) (a : Axis) (high : Bool) (node : ℕ) : Type 0 where
  pub at : (q s t child : ℕ) → q < 4 → IsNumberOf w.told.grid (child_beside a high q (block_at w.told.grid node)) child → s < w.told.grid.shape.n → t < w.told.grid.shape.n →
      Within (2 ^ 56) (stored_at work w a child (side_position w.told.grid.shape.n (not high)) s t)

-- a side of a leaf has taken its sums, and its other faces stay
pub record SideTaken (work : Bool) (n g : ℕ) (old new : WorldState) (node : ℕ) (a : Axis) (high : Bool) (beside : ℕ) : Type 0 where
  pub only : OnlyOf old new 0 (face_var work a) node
  pub fit : IsFit n g new
  pub others : (p s t : ℕ) → IsFacePlace old.told.grid.shape.n p s t → (p ≡ side_position old.told.grid.shape.n high → ⊥) → stored_at work new a node p s t ≡ stored_at work old a node p s t
  pub within : (s t : ℕ) → s < old.told.grid.shape.n → t < old.told.grid.shape.n → Within (2 ^ 58) (stored_at work new a node (side_position old.told.grid.shape.n high) s t)
  pub sums : (faces : BlockFaces) → NearHas work old faces a high beside → (s t : ℕ) → s < old.told.grid.shape.n → t < old.told.grid.shape.n →
      stored_at work new a node (side_position old.told.grid.shape.n high) s t ≡ four_finer old.told.grid.shape.n faces a high (block_at old.told.grid beside) s t
