-- The words of a command by their kinds: numbers, fixed words, sides, axes, variables and new names.
use Rattle.std.specs.Prelude.{ℕ, ◌+◌, Bool, false, not, ◌&&◌, ◌||◌, ◌==◌, nat_le, if◌then◌else◌, List, [], ◌∷◌, Option, Some, None, Result, Ok, Err, ℤ, pos, unsigned_abs, int_le, codes, bytes_eq, is_some, position}
use Rattle.std.specs.List.{list_any}
use Rattle.amr_num.specs.Numbers.{finest_level, number_range}
use Rattle.amr_num.specs.declared.Axis.{Axis}
use Rattle.amr_num.specs.declared.Axis.TheVariants.{X, Y, Z}
use Rattle.amr_num.specs.declared.SideKind.{SideKind}
use Rattle.amr_num.specs.declared.SideKind.TheVariants.{Periodic, Outflow, Closed}
use Rattle.amr_num.specs.declared.BlockAt.{BlockAt}
use Rattle.mesh_model.specs.declared.fields.values.Group.{Group}
use Rattle.mesh_model.specs.declared.fields.values.Group.TheVariants.{Cell, Face, Edge}
use Rattle.mesh_model.specs.declared.language.script.Reason.{Reason}
use Rattle.mesh_model.specs.declared.language.script.Reason.TheVariants.{UnknownVariable, NotNumber, OutOfRange, UnknownWord, BadName, NameTaken, TooMany}
use Rattle.mesh_model.specs.Fields.VariableNames.{VariableNames}
use Rattle.mesh_model.specs.Language.Words.{word, number_of, is_name}

-- what follows where a step gave a value; a refusal stands
infixl 10 ◌>>=◌
abbrev pub ◌>>=◌ : {A B E : Type 0} → Result A E → (A → Result B E) → Result B E
Ok x >>= f = f x
Err e >>= f = Err e

-- the value, where the test passes
abbrev pub check : {A : Type 0} → Bool → Reason → A → Result A Reason
check passes reason x = if passes then Ok x else Err reason

abbrev pub found : {A : Type 0} → Reason → Option A → Result A Reason
found reason (Some x) = Ok x
found reason None = Err reason

-- NUMBERS

-- a number of absolute value at most `most`
unfoldable pub number : ℕ → List ℕ → Result ℤ Reason
number most w = do
  z ← found NotNumber (number_of w)
  check (nat_le (unsigned_abs z) most) OutOfRange z

-- a number from `low` to `high`
unfoldable pub count : ℕ → ℕ → List ℕ → Result ℕ Reason
count low high w = do
  z ← found NotNumber (number_of w)
  check (int_le (pos low) z && int_le z (pos high)) OutOfRange (unsigned_abs z)

-- one of these numbers, which are at most 8
unfoldable pub one_of : List ℕ → List ℕ → Result ℕ Reason
one_of numbers w = do
  n ← count 0 8 w
  check (list_any (λ m. m == n) numbers) OutOfRange n

-- a number that a leaf may hold
abbrev pub leaf_number : List ℕ → Result ℤ Reason
leaf_number = number number_range

-- three numbers of absolute value at most `most`, the first at place i
unfoldable pub numbers : ℕ → List (List ℕ) → ℕ → Result (List ℤ) Reason
numbers most words i = do
  x ← number most (word words i)
  y ← number most (word words (i + 1))
  z ← number most (word words (i + 2))
  Ok (x ∷ y ∷ z ∷ [])

-- a level
abbrev pub level : List ℕ → Result ℕ Reason
level = count 0 finest_level

-- three coordinates, the first at place i
unfoldable pub point : List (List ℕ) → ℕ → Result (List ℕ) Reason
point words i = do
  x ← count 0 65536 (word words i)
  y ← count 0 65536 (word words (i + 1))
  z ← count 0 65536 (word words (i + 2))
  Ok (x ∷ y ∷ z ∷ [])

-- a block's place: its level at place i, and its coordinates
unfoldable pub block : List (List ℕ) → ℕ → Result BlockAt Reason
block words i = do
  l ← level (word words i)
  x ← count 0 65536 (word words (i + 1))
  y ← count 0 65536 (word words (i + 2))
  z ← count 0 65536 (word words (i + 3))
  Ok (record { level = l; x = x; y = y; z = z })

-- FIXED WORDS

-- that very word
unfoldable pub fixed : List ℕ → List ℕ → Result (Unit {0}) Reason
fixed text w = check (bytes_eq w text) UnknownWord tt

unfoldable pub axis : List ℕ → Result Axis Reason
axis w =
    if bytes_eq w (codes "x") then Ok X
    else if bytes_eq w (codes "y") then Ok Y
    else if bytes_eq w (codes "z") then Ok Z
    else Err UnknownWord

unfoldable pub side : List ℕ → Result SideKind Reason
side w =
    if bytes_eq w (codes "periodic") then Ok Periodic
    else if bytes_eq w (codes "outflow") then Ok Outflow
    else if bytes_eq w (codes "closed") then Ok Closed
    else Err UnknownWord

-- VARIABLES

-- the number of the cell variable with this name
abbrev pub cell_named : VariableNames → List ℕ → Option ℕ
cell_named names w = position (λ name. bytes_eq name w) names.cells

-- it is the name of the face or edge variable
abbrev pub is_named : Option (List ℕ) → List ℕ → Bool
is_named None w = false
is_named (Some name) w = bytes_eq name w

-- a cell variable
unfoldable pub cell_variable : VariableNames → List ℕ → Result ℕ Reason
cell_variable names w = found UnknownVariable (cell_named names w)

-- any variable
unfoldable pub variable_named : VariableNames → List ℕ → Option Group
variable_named names w =
    if is_named names.face w then Some Face
    else if is_named names.edge w then Some Edge
    else elim (cell_named names w) [ Some v ↦ Some (Cell v) | None ↦ None ]

unfoldable pub variable : VariableNames → List ℕ → Result Group Reason
variable names w = found UnknownVariable (variable_named names w)

-- NEW NAMES

unfoldable pub is_taken : VariableNames → List ℕ → Bool
is_taken names w = is_some (cell_named names w) || is_named names.face w || is_named names.edge w

-- a name that no variable has, where `full` says that no further variable of its kind may come
unfoldable pub new_name : VariableNames → Bool → List ℕ → Result (List ℕ) Reason
new_name names full w =
    if not (is_name w) then Err BadName
    else if is_taken names w then Err NameTaken
    else if full then Err TooMany
    else Ok w
