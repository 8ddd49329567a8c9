-- The arrays of blocks as plain data, by keys and variables. A pool's keys are its slots, and a rank's are the nodes.
use Rattle.std.specs.Prelude.{◌≡◌, ℕ, ◌+◌, ◌<◌, Bool, true, false, List, [], ◌++◌, length, take, drop, set, ℤ, slice_index_or}
use Rattle.mesh_model.specs.declared.fields.values.Var.{Var}
use Rattle.mesh_model.specs.declared.fields.values.Var.TheVariants.{Cell, Face, Edge, CellWork, FaceWork, EdgeWork}
use Rattle.mesh_model.specs.Geometry.Coordinates.{axis_index}
use Rattle.mesh_model.specs.Fields.ArrayPlaces.{extents_of, size_of}

-- how many variables there are of each group
pub record Counts : Type 0 where
  pub cells : ℕ
  pub faces : ℕ
  pub edges : ℕ

-- a block has such an array; work arrays are always there
abbrev pub HasVar : Counts → Var → Type 0
HasVar n (Cell v) = v < n.cells
HasVar n (Face a) = 0 < n.faces
HasVar n (Edge a) = 0 < n.edges
HasVar n CellWork = Unit {0}
HasVar n (FaceWork a) = Unit {0}
HasVar n (EdgeWork a) = Unit {0}

-- the place of a variable's array among those of a block: the work arrays, the faces, the edges, and the cell variables
abbrev pub array_number : Var → ℕ
array_number CellWork = 0
array_number (FaceWork a) = 1 + axis_index a
array_number (EdgeWork a) = 4 + axis_index a
array_number (Face a) = 7 + axis_index a
array_number (Edge a) = 10 + axis_index a
array_number (Cell v) = 13 + v

-- how many arrays a block has
abbrev pub array_count : Counts → ℕ
array_count n = 13 + n.cells

-- the variables of the arrays, which keys have arrays, and the arrays of each key by the places of variables
pub record Arrays : Type 0 where
  pub counts : Counts
  pub held : List Bool
  pub blocks : List (List (List ℤ))

-- a key has arrays
abbrev pub IsHeld : Arrays → ℕ → Type 0
IsHeld a key = slice_index_or a.held key false ≡ true

-- there is an array of the variable for the key
pub record HasArray (a : Arrays) (var : Var) (key : ℕ) : Type 0 where
  pub declared : HasVar a.counts var
  pub held : IsHeld a key

-- the arrays of a key, and the array of a variable
abbrev pub block_in : List (List (List ℤ)) → ℕ → List (List ℤ)
block_in blocks key = slice_index_or blocks key []

unfoldable pub array_in : Arrays → Var → ℕ → List ℤ
array_in a var key = slice_index_or (block_in a.blocks key) (array_number var) []

-- a list with other numbers in front, of the length that it had
abbrev pub refilled : List ℤ → List ℤ → List ℤ
refilled old w = take (length old) (w ++ drop (length w) old)

-- the arrays after one was written
abbrev pub with_block : List (List (List ℤ)) → ℕ → ℕ → List ℤ → List (List (List ℤ))
with_block blocks key number w = set blocks key (set (block_in blocks key) number (refilled (slice_index_or (block_in blocks key) number []) w))

unfoldable pub with_array : Arrays → Var → ℕ → List ℤ → Arrays
with_array a var key w = record a { blocks = with_block a.blocks key (array_number var) w }

-- how long the array of a variable is
abbrev pub var_length : ℕ → ℕ → Var → ℕ
var_length n g var = size_of (extents_of n g var)

-- all arrays that there are have their lengths
pub record AreWhole (n g : ℕ) (a : Arrays) : Type 0 where
  pub each : (var : Var) (key : ℕ) → HasArray a var key → length (array_in a var key) ≡ var_length n g var

-- one array may have other numbers, and all else is as it was
pub record OnlyArray (old new : Arrays) (var : Var) (key : ℕ) : Type 0 where
  pub counts : new.counts ≡ old.counts
  pub held : new.held ≡ old.held
  pub others : (u : Var) (at : ℕ) → (u ≡ var → at ≡ key → ⊥) → array_in new u at ≡ array_in old u at
