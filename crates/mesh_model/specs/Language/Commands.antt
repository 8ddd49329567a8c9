-- Which numbers the commands and declarations of an accepted script have, and the script as plain data.
use Rattle.std.specs.Prelude.{◌≡◌, ℕ, ◌<◌, ◌≤◌, ◌≢◌, ◌^◌, true, List, ℤ, length, IfSome, slice_index, All, AllPairs, IsSome}
use Rattle.amr_num.specs.Numbers.{Within, finest_level, number_range}
use Rattle.amr_num.specs.declared.Axis.{Axis}
use Rattle.amr_num.specs.declared.BlockAt.{BlockAt}
use Rattle.mesh_model.specs.declared.geometry.Shape.{Shape}
use Rattle.mesh_model.specs.declared.language.script.Command.{Command}
use Rattle.mesh_model.specs.declared.language.script.Command.TheVariants.{FillAll, FillBox, FaceSet, EdgeSet, Uniform, MarkRefine, MarkDerefine, RefineWhere, DerefineWhere, Regrid, Advect, Curl, Induct, Checkpoint, PrintSize, PrintMesh, PrintTree, PrintRanks, PrintTrace, PrintVar, PrintGuards, Total, NetFlux}
use Rattle.mesh_model.specs.declared.language.script.Declared.{Declared}
use Rattle.mesh_model.specs.declared.fields.values.Group.{Group}
use Rattle.mesh_model.specs.declared.fields.values.Group.TheVariants.{Cell, Face, Edge}
use Rattle.mesh_model.specs.declared.language.script.Line.{Line}
use Rattle.mesh_model.specs.declared.language.script.Script.{Script}
use Rattle.mesh_model.specs.Geometry.Limits.{IsShape}
use Rattle.mesh_model.specs.Geometry.Coordinates.{extent, axis_index}
use Rattle.mesh_model.specs.Fields.VariableNames.{VariableNames, most_cell_variables}
use Rattle.mesh_model.specs.Language.Words.{is_name}

-- a script as plain data
pub record PlainScript : Type 0 where
  pub declared : Declared
  pub lines : List Line

abbrev pub plain_script : Script → PlainScript
plain_script s = record { declared = s.declared; lines = s.lines.items }

-- a declared cell variable
abbrev pub IsCellVariable : VariableNames → ℕ → Type 0
IsCellVariable names v = v < length names.cells

-- a declared group
abbrev pub IsGroup : VariableNames → Group → Type 0
IsGroup names (Cell v) = IsCellVariable names v
IsGroup names Face = IsSome names.face
IsGroup names Edge = IsSome names.edge

-- a number that a leaf may hold
abbrev pub IsLeafNumber : ℤ → Type 0
IsLeafNumber n = Within number_range n

-- three numbers of absolute value at most `most`
pub record AreThree (most : ℕ) (numbers : List ℤ) : Type 0 where
  pub three : length numbers ≡ 3
  pub within : All (Within most) numbers

-- a place that a script can name, be it in the domain or not
pub record IsPlace (at : BlockAt) : Type 0 where
  pub level : at.level ≤ finest_level
  pub x : at.x ≤ 65536
  pub y : at.y ≤ 65536
  pub z : at.z ≤ 65536

-- a box of cells of level l: on each axis it begins below its end, within the domain
pub record IsBox (s : Shape) (l : ℕ) (low high : List ℕ) : Type 0 where
  pub level : l ≤ finest_level
  pub begins : (a : Axis) → slice_index low (axis_index a) < slice_index high (axis_index a)
  pub ends : (a : Axis) → slice_index high (axis_index a) ≤ extent s a l

-- the command names what is declared, and its numbers are within their ranges
abbrev pub IsCommandOf : Declared → Command → Type 0
IsCommandOf d (FillAll var value) = IsCellVariable d.names var × IsLeafNumber value
IsCommandOf d (FillBox var level low high value) = IsCellVariable d.names var × IsBox d.shape level low high × IsLeafNumber value
IsCommandOf d (FaceSet at value) = IsSome d.names.face × IsPlace (record { level = at.level; x = at.x; y = at.y; z = at.z }) × IsLeafNumber value
IsCommandOf d (EdgeSet at value) = IsSome d.names.edge × IsPlace (record { level = at.level; x = at.x; y = at.y; z = at.z }) × IsLeafNumber value
IsCommandOf d (Uniform b) = IsSome d.names.face × AreThree number_range b
IsCommandOf d (MarkRefine at) = IsPlace at
IsCommandOf d (MarkDerefine at) = IsPlace at
IsCommandOf d (RefineWhere var above) = IsCellVariable d.names var × IsLeafNumber above
IsCommandOf d (DerefineWhere var below) = IsCellVariable d.names var × IsLeafNumber below
IsCommandOf d Regrid = Unit {0}
IsCommandOf d (Advect var speeds) = IsCellVariable d.names var × AreThree (2 ^ 20) speeds
IsCommandOf d Curl = IsSome d.names.face × IsSome d.names.edge
IsCommandOf d (Induct speeds) = IsSome d.names.face × AreThree (2 ^ 20) speeds
IsCommandOf d Checkpoint = Unit {0}
IsCommandOf d PrintSize = Unit {0}
IsCommandOf d PrintMesh = Unit {0}
IsCommandOf d PrintTree = Unit {0}
IsCommandOf d PrintRanks = Unit {0}
IsCommandOf d PrintTrace = Unit {0}
IsCommandOf d (PrintVar group) = IsGroup d.names group
IsCommandOf d (PrintGuards group at) = IsGroup d.names group × IsPlace at
IsCommandOf d (Total var) = IsCellVariable d.names var
IsCommandOf d NetFlux = IsSome d.names.face

abbrev pub IsLineOf : Declared → Line → Type 0
IsLineOf d line = IsCommandOf d line.command

-- at most four cell variables; each name is one
pub record AreNames (names : VariableNames) : Type 0 where
  pub few : length names.cells ≤ most_cell_variables
  pub cells : All (λ w. is_name w ≡ true) names.cells
  pub face : IfSome names.face (λ w. is_name w ≡ true)
  pub edge : IfSome names.edge (λ w. is_name w ≡ true)

-- the names of all variables differ from each other
pub record AreDifferent (names : VariableNames) : Type 0 where
  pub cells : AllPairs (λ a b. a ≢ b) names.cells
  pub face : IfSome names.face (λ f. All (λ c. c ≢ f) names.cells)
  pub edge : IfSome names.edge (λ e. All (λ c. c ≢ e) names.cells)
  pub both : IfSome names.face (λ f. IfSome names.edge (λ e. f ≢ e))

-- the declarations are within the limits of the language
pub record InLimits (d : Declared) : Type 0 where
  pub shape : IsShape d.shape
  pub names : AreNames d.names
  pub different : AreDifferent d.names
