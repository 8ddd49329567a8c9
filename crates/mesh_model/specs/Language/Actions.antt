-- The lines that act.
use Rattle.std.specs.Prelude.{ℕ, ◌^◌, Bool, ◌&&◌, ◌==◌, nat_lt, nat_le, if◌then◌else◌, List, length, Result, Ok, Err, codes, bytes_eq, slice_index}
use Rattle.amr_num.specs.Numbers.{number_range}
use Rattle.amr_num.specs.declared.Axis.TheVariants.{X, Y, Z}
use Rattle.mesh_model.specs.declared.geometry.Shape.{Shape}
use Rattle.mesh_model.specs.declared.language.script.Command.{Command}
use Rattle.mesh_model.specs.declared.language.script.Command.TheVariants.{FillAll, FillBox, FaceSet, EdgeSet, Uniform, MarkRefine, MarkDerefine, RefineWhere, DerefineWhere, Advect, Induct, PrintSize, PrintMesh, PrintTree, PrintRanks, PrintTrace, PrintVar, PrintGuards, Total}
use Rattle.mesh_model.specs.declared.language.script.Declared.{Declared}
use Rattle.mesh_model.specs.declared.language.script.Reason.{Reason}
use Rattle.mesh_model.specs.declared.language.script.Reason.TheVariants.{BadBox, UnknownWord}
use Rattle.mesh_model.specs.Geometry.Coordinates.{extent}
use Rattle.mesh_model.specs.Fields.VariableNames.{VariableNames}
use Rattle.mesh_model.specs.Language.Words.{word}
use Rattle.mesh_model.specs.Language.Forms.{◌>>=◌, check, numbers, leaf_number, level, point, block, fixed, axis, cell_variable, variable}

-- fill VAR all V
unfoldable pub fill_all : Declared → List (List ℕ) → Result Command Reason
fill_all d words = do
  var ← cell_variable d.names (word words 1)
  all ← fixed (codes "all") (word words 2)
  value ← leaf_number (word words 3)
  Ok (FillAll var value)

-- on the axis with index i the box begins below its end, and ends within e cells
abbrev pub is_between : List ℕ → List ℕ → ℕ → ℕ → Bool
is_between low high i e = nat_lt (slice_index low i) (slice_index high i) && nat_le (slice_index high i) e

-- a box of cells of level l within the domain
unfoldable pub is_box : Shape → ℕ → List ℕ → List ℕ → Bool
is_box s l low high = is_between low high 0 (extent s X l) && is_between low high 1 (extent s Y l) && is_between low high 2 (extent s Z l)

-- fill VAR box L X0 Y0 Z0 X1 Y1 Z1 V
unfoldable pub fill_box : Declared → List (List ℕ) → Result Command Reason
fill_box d words = do
  var ← cell_variable d.names (word words 1)
  box ← fixed (codes "box") (word words 2)
  l ← level (word words 3)
  low ← point words 4
  high ← point words 7
  value ← leaf_number (word words 10)
  check (is_box d.shape l low high) BadBox (FillBox var l low high value)

-- fill, with 4 words or with 11
unfoldable pub fill : Declared → List (List ℕ) → Result Command Reason
fill d words = if length words == 4 then fill_all d words else fill_box d words

-- faceset A L X Y Z V
unfoldable pub faceset : List (List ℕ) → Result Command Reason
faceset words = do
  a ← axis (word words 1)
  b ← block words 2
  value ← leaf_number (word words 6)
  Ok (FaceSet (record { axis = a; level = b.level; x = b.x; y = b.y; z = b.z }) value)

-- edgeset A L X Y Z V
unfoldable pub edgeset : List (List ℕ) → Result Command Reason
edgeset words = do
  a ← axis (word words 1)
  b ← block words 2
  value ← leaf_number (word words 6)
  Ok (EdgeSet (record { axis = a; level = b.level; x = b.x; y = b.y; z = b.z }) value)

-- uniform BX BY BZ
unfoldable pub uniform : List (List ℕ) → Result Command Reason
uniform words = do
  b ← numbers number_range words 1
  Ok (Uniform b)

-- mark refine where VAR above V, and mark refine L X Y Z
unfoldable pub refine_where : VariableNames → List (List ℕ) → Result Command Reason
refine_where names words = do
  var ← cell_variable names (word words 3)
  above ← fixed (codes "above") (word words 4)
  value ← leaf_number (word words 5)
  Ok (RefineWhere var value)

unfoldable pub refine_block : List (List ℕ) → Result Command Reason
refine_block words = do
  at ← block words 2
  Ok (MarkRefine at)

-- mark derefine where VAR below V, and mark derefine L X Y Z
unfoldable pub derefine_where : VariableNames → List (List ℕ) → Result Command Reason
derefine_where names words = do
  var ← cell_variable names (word words 3)
  below ← fixed (codes "below") (word words 4)
  value ← leaf_number (word words 5)
  Ok (DerefineWhere var value)

unfoldable pub derefine_block : List (List ℕ) → Result Command Reason
derefine_block words = do
  at ← block words 2
  Ok (MarkDerefine at)

unfoldable pub mark : VariableNames → List (List ℕ) → Result Command Reason
mark names words =
    if bytes_eq (word words 1) (codes "refine") then
    (if bytes_eq (word words 2) (codes "where") then refine_where names words else refine_block words)
    else if bytes_eq (word words 1) (codes "derefine") then
    (if bytes_eq (word words 2) (codes "where") then derefine_where names words else derefine_block words)
    else Err UnknownWord

-- advect VAR NX NY NZ
unfoldable pub advect : VariableNames → List (List ℕ) → Result Command Reason
advect names words = do
  var ← cell_variable names (word words 1)
  speeds ← numbers (2 ^ 20) words 2
  Ok (Advect var speeds)

-- induct NX NY NZ
unfoldable pub induct : List (List ℕ) → Result Command Reason
induct words = do
  speeds ← numbers (2 ^ 20) words 1
  Ok (Induct speeds)

-- print VAR
unfoldable pub print_var : VariableNames → List (List ℕ) → Result Command Reason
print_var names words = do
  group ← variable names (word words 1)
  Ok (PrintVar group)

-- print size, mesh, tree, ranks, trace or VAR
unfoldable pub print_one : VariableNames → List (List ℕ) → Result Command Reason
print_one names words =
    if bytes_eq (word words 1) (codes "size") then Ok PrintSize
    else if bytes_eq (word words 1) (codes "mesh") then Ok PrintMesh
    else if bytes_eq (word words 1) (codes "tree") then Ok PrintTree
    else if bytes_eq (word words 1) (codes "ranks") then Ok PrintRanks
    else if bytes_eq (word words 1) (codes "trace") then Ok PrintTrace
    else print_var names words

-- print guards VAR L X Y Z
unfoldable pub print_guards : VariableNames → List (List ℕ) → Result Command Reason
print_guards names words = do
  guards ← fixed (codes "guards") (word words 1)
  group ← variable names (word words 2)
  at ← block words 3
  Ok (PrintGuards group at)

-- print, with 2 words or with 7
unfoldable pub print : VariableNames → List (List ℕ) → Result Command Reason
print names words = if length words == 2 then print_one names words else print_guards names words

-- total VAR
unfoldable pub total : VariableNames → List (List ℕ) → Result Command Reason
total names words = do
  var ← cell_variable names (word words 1)
  Ok (Total var)
