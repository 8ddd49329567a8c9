-- The lines that declare.
use Rattle.std.specs.Prelude.{ℕ, Bool, ◌&&◌, not, if◌then◌else◌, nat_le, List, [], ◌∷◌, ◌++◌, length, Some, Result, Ok, is_some}
use Rattle.amr_num.specs.declared.SideKind.{SideKind}
use Rattle.mesh_model.specs.declared.geometry.Shape.{Shape}
use Rattle.mesh_model.specs.declared.language.script.Reason.{Reason}
use Rattle.mesh_model.specs.declared.language.script.Reason.TheVariants.{OutOfRange, Unpaired}
use Rattle.mesh_model.specs.Geometry.Coordinates.{is_periodic_kind}
use Rattle.mesh_model.specs.Fields.VariableNames.{VariableNames, most_cell_variables}
use Rattle.mesh_model.specs.Language.Words.{word}
use Rattle.mesh_model.specs.Language.Forms.{◌>>=◌, check, count, one_of, level, side, new_name}

-- domain RX RY RZ
unfoldable pub domain : Shape → List (List ℕ) → Result Shape Reason
domain shape words = do
  x ← count 1 8 (word words 1)
  y ← count 1 8 (word words 2)
  z ← count 1 8 (word words 3)
  Ok (record shape { rx = x; ry = y; rz = z })

-- cells N G
unfoldable pub cells : Shape → List (List ℕ) → Result Shape Reason
cells shape words = do
  n ← one_of (4 ∷ 8 ∷ []) (word words 1)
  g ← one_of (1 ∷ 2 ∷ 4 ∷ []) (word words 2)
  Ok (record shape { n = n; g = g })

-- both sides of an axis are periodic, or none is
abbrev pub are_paired : SideKind → SideKind → Bool
are_paired low high = if is_periodic_kind low then is_periodic_kind high else not (is_periodic_kind high)

-- bounds XL XH YL YH ZL ZH
unfoldable pub bounds : Shape → List (List ℕ) → Result Shape Reason
bounds shape words = do
  xl ← side (word words 1)
  xh ← side (word words 2)
  yl ← side (word words 3)
  yh ← side (word words 4)
  zl ← side (word words 5)
  zh ← side (word words 6)
  check (are_paired xl xh && are_paired yl yh && are_paired zl zh) Unpaired (record shape { sides = xl ∷ xh ∷ yl ∷ yh ∷ zl ∷ zh ∷ [] })

-- levels MIN MAX
unfoldable pub levels : Shape → List (List ℕ) → Result Shape Reason
levels shape words = do
  min ← level (word words 1)
  max ← level (word words 2)
  check (nat_le min max) OutOfRange (record shape { min = min; max = max })

-- cellvar NAME, of which there are four at most
unfoldable pub cellvar : VariableNames → List (List ℕ) → Result VariableNames Reason
cellvar names words = do
  name ← new_name names (nat_le most_cell_variables (length names.cells)) (word words 1)
  Ok (record names { cells = names.cells ++ name ∷ [] })

-- facevar NAME, of which there is one at most
unfoldable pub facevar : VariableNames → List (List ℕ) → Result VariableNames Reason
facevar names words = do
  name ← new_name names (is_some names.face) (word words 1)
  Ok (record names { face = Some name })

-- edgevar NAME, of which there is one at most
unfoldable pub edgevar : VariableNames → List (List ℕ) → Result VariableNames Reason
edgevar names words = do
  name ← new_name names (is_some names.edge) (word words 1)
  Ok (record names { edge = Some name })
