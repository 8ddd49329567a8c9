-- The language of scripts: what a list of bytes says, or the first fault in it.
use Rattle.std.specs.Prelude.{ℕ, ◌+◌, ◌^◌, Bool, true, false, not, ◌&&◌, ◌||◌, ◌==◌, nat_lt, if◌then◌else◌, List, [], ◌∷◌, ◌++◌, length, replicate, Option, Some, None, Result, Ok, Err, codes, bytes_eq, count_by, is_none}
use Rattle.std.specs.Option.{option_or, option_map}
use Rattle.amr_num.specs.declared.SideKind.TheVariants.{Periodic}
use Rattle.mesh_model.specs.declared.geometry.Shape.{Shape}
use Rattle.mesh_model.specs.declared.language.script.Action.{Action}
use Rattle.mesh_model.specs.declared.language.script.Command.{Command}
use Rattle.mesh_model.specs.declared.language.script.Command.TheVariants.{Regrid, Curl, Checkpoint, NetFlux}
use Rattle.mesh_model.specs.declared.language.script.Declaration.{Declaration}
use Rattle.mesh_model.specs.declared.language.script.Declared.{Declared}
use Rattle.mesh_model.specs.declared.language.script.Keyword.{Keyword}
use Rattle.mesh_model.specs.declared.language.script.Keyword.TheVariants.{Declares, Acts, Ends}
use Rattle.mesh_model.specs.declared.language.script.Line.{Line}
use Rattle.mesh_model.specs.declared.language.script.Reading.{Reading}
use Rattle.mesh_model.specs.declared.language.script.Reason.{Reason}
use Rattle.mesh_model.specs.declared.language.script.Reason.TheVariants.{TooLong, TextAfterEnd, UnknownCommand, DomainMissing, TooLate, Twice, WordCount, UnknownVariable, EndMissing}
use Rattle.mesh_model.specs.Language.Commands.{PlainScript}
use Rattle.mesh_model.specs.Fields.VariableNames.{VariableNames, no_names}
use Rattle.mesh_model.specs.Language.Words.{is_line_end, lines_of, words_of, word, is_passed_over}
use Rattle.mesh_model.specs.Language.Forms.{◌>>=◌, check, found}
use Rattle.mesh_model.specs.Language.Declarations.{domain, cells, bounds, levels, cellvar, facevar, edgevar}
use Rattle.mesh_model.specs.Language.Actions.{fill, faceset, edgeset, uniform, mark, advect, induct, print, total}
use Rattle.mesh_model.specs.declared.language.script.Action.TheVariants as action
use Rattle.mesh_model.specs.declared.language.script.Declaration.TheVariants as declaration

-- a fault: the number of its line, from 1, and why it is refused
pub record Fault : Type 0 where
  pub line : ℕ
  pub reason : Reason

-- THE TABLES: what each line says, by its first word

unfoldable pub declaration_of : List ℕ → Option Declaration
declaration_of w =
    if bytes_eq w (codes "domain") then Some declaration.Domain
    else if bytes_eq w (codes "cells") then Some declaration.Cells
    else if bytes_eq w (codes "bounds") then Some declaration.Bounds
    else if bytes_eq w (codes "levels") then Some declaration.Levels
    else if bytes_eq w (codes "cellvar") then Some declaration.CellVar
    else if bytes_eq w (codes "facevar") then Some declaration.FaceVar
    else if bytes_eq w (codes "edgevar") then Some declaration.EdgeVar
    else None

unfoldable pub setting_of : List ℕ → Option Action
setting_of w =
    if bytes_eq w (codes "fill") then Some action.Fill
    else if bytes_eq w (codes "faceset") then Some action.FaceSet
    else if bytes_eq w (codes "edgeset") then Some action.EdgeSet
    else if bytes_eq w (codes "uniform") then Some action.Uniform
    else if bytes_eq w (codes "mark") then Some action.Mark
    else None

unfoldable pub step_of : List ℕ → Option Action
step_of w =
    if bytes_eq w (codes "regrid") then Some action.Regrid
    else if bytes_eq w (codes "advect") then Some action.Advect
    else if bytes_eq w (codes "curl") then Some action.Curl
    else if bytes_eq w (codes "induct") then Some action.Induct
    else if bytes_eq w (codes "checkpoint") then Some action.Checkpoint
    else None

unfoldable pub report_of : List ℕ → Option Action
report_of w =
    if bytes_eq w (codes "print") then Some action.Print
    else if bytes_eq w (codes "total") then Some action.Total
    else if bytes_eq w (codes "netflux") then Some action.NetFlux
    else None

abbrev pub action_of : List ℕ → Option Action
action_of w = option_or (option_or (setting_of w) (step_of w)) (report_of w)

unfoldable pub keyword_of : List ℕ → Option Keyword
keyword_of w = option_or (option_map Declares (declaration_of w)) (option_or (option_map Acts (action_of w)) (if bytes_eq w (codes "end") then Some Ends else None))

-- how many words the line has, with the first
abbrev pub declaration_has : Declaration → ℕ → Bool
declaration_has declaration.Domain n = n == 4
declaration_has declaration.Cells n = n == 3
declaration_has declaration.Bounds n = n == 7
declaration_has declaration.Levels n = n == 3
declaration_has declaration.CellVar n = n == 2
declaration_has declaration.FaceVar n = n == 2
declaration_has declaration.EdgeVar n = n == 2

abbrev pub action_has : Action → ℕ → Bool
action_has action.Fill n = (n == 4) || (n == 11)
action_has action.FaceSet n = n == 7
action_has action.EdgeSet n = n == 7
action_has action.Uniform n = n == 4
action_has action.Mark n = n == 6
action_has action.Regrid n = n == 1
action_has action.Advect n = n == 5
action_has action.Curl n = n == 1
action_has action.Induct n = n == 4
action_has action.Checkpoint n = n == 1
action_has action.Print n = (n == 2) || (n == 7)
action_has action.Total n = n == 2
action_has action.NetFlux n = n == 1

abbrev pub has_count : Keyword → ℕ → Bool
has_count (Declares d) n = declaration_has d n
has_count (Acts a) n = action_has a n
has_count Ends n = n == 1

-- it may come once, and came before
abbrev pub is_repeated : Reading → Declaration → Bool
is_repeated r declaration.Domain = r.domain
is_repeated r declaration.Cells = r.cells
is_repeated r declaration.Bounds = r.bounds
is_repeated r declaration.Levels = r.levels
is_repeated r declaration.CellVar = false
is_repeated r declaration.FaceVar = false
is_repeated r declaration.EdgeVar = false

-- it wants the face variable; the edge variable
abbrev pub wants_face : Action → Bool
wants_face action.Fill = false
wants_face action.FaceSet = true
wants_face action.EdgeSet = false
wants_face action.Uniform = true
wants_face action.Mark = false
wants_face action.Regrid = false
wants_face action.Advect = false
wants_face action.Curl = true
wants_face action.Induct = true
wants_face action.Checkpoint = false
wants_face action.Print = false
wants_face action.Total = false
wants_face action.NetFlux = true

abbrev pub wants_edge : Action → Bool
wants_edge action.Fill = false
wants_edge action.FaceSet = false
wants_edge action.EdgeSet = true
wants_edge action.Uniform = false
wants_edge action.Mark = false
wants_edge action.Regrid = false
wants_edge action.Advect = false
wants_edge action.Curl = true
wants_edge action.Induct = false
wants_edge action.Checkpoint = false
wants_edge action.Print = false
wants_edge action.Total = false
wants_edge action.NetFlux = false

-- what is known after it
abbrev pub with_shape : Reading → Result Shape Reason → Result Reading Reason
with_shape r read = do
  shape ← read
  Ok (record r { declared = record { shape = shape; names = r.declared.names } })

abbrev pub with_names : Reading → Result VariableNames Reason → Result Reading Reason
with_names r read = do
  names ← read
  Ok (record r { declared = record { shape = r.declared.shape; names = names } })

unfoldable pub declares : Reading → Declaration → List (List ℕ) → Result Reading Reason
declares r declaration.Domain words = with_shape (record r { domain = true }) (domain r.declared.shape words)
declares r declaration.Cells words = with_shape (record r { cells = true }) (cells r.declared.shape words)
declares r declaration.Bounds words = with_shape (record r { bounds = true }) (bounds r.declared.shape words)
declares r declaration.Levels words = with_shape (record r { levels = true }) (levels r.declared.shape words)
declares r declaration.CellVar words = with_names r (cellvar r.declared.names words)
declares r declaration.FaceVar words = with_names r (facevar r.declared.names words)
declares r declaration.EdgeVar words = with_names r (edgevar r.declared.names words)

-- its command
unfoldable pub acts : Declared → Action → List (List ℕ) → Result Command Reason
acts d action.Fill words = fill d words
acts d action.FaceSet words = faceset words
acts d action.EdgeSet words = edgeset words
acts d action.Uniform words = uniform words
acts d action.Mark words = mark d.names words
acts d action.Regrid words = Ok Regrid
acts d action.Advect words = advect d.names words
acts d action.Curl words = Ok Curl
acts d action.Induct words = induct words
acts d action.Checkpoint words = Ok Checkpoint
acts d action.Print words = print d.names words
acts d action.Total words = total d.names words
acts d action.NetFlux words = Ok NetFlux

-- LINES

abbrev pub is_domain : Keyword → Bool
is_domain (Declares declaration.Domain) = true
is_domain (Declares declaration.Cells) = false
is_domain (Declares declaration.Bounds) = false
is_domain (Declares declaration.Levels) = false
is_domain (Declares declaration.CellVar) = false
is_domain (Declares declaration.FaceVar) = false
is_domain (Declares declaration.EdgeVar) = false
is_domain (Acts a) = false
is_domain Ends = false

abbrev pub is_declaration : Keyword → Bool
is_declaration (Declares d) = true
is_declaration (Acts a) = false
is_declaration Ends = false

abbrev pub comes_again : Reading → Keyword → Bool
comes_again r (Declares d) = is_repeated r d
comes_again r (Acts a) = false
comes_again r Ends = false

-- a variable that it wants is not declared
abbrev pub lacks_variable : VariableNames → Keyword → Bool
lacks_variable names (Declares d) = false
lacks_variable names (Acts a) = (wants_face a && is_none names.face) || (wants_edge a && is_none names.edge)
lacks_variable names Ends = false

-- the line stands where it may, with as many words as it has, and its variables are declared
unfoldable pub placed : Reading → Keyword → ℕ → Result Keyword Reason
placed r k n =
    if not (r.domain || is_domain k) then Err DomainMissing
    else if is_declaration k && r.acting then Err TooLate
    else if comes_again r k then Err Twice
    else if not (has_count k n) then Err WordCount
    else if lacks_variable r.declared.names k then Err UnknownVariable
    else Ok k

-- what the first word says, where no step before the other words refuses
unfoldable pub command_of : Reading → List (List ℕ) → Result Keyword Reason
command_of r words = if r.ended then Err TextAfterEnd else do
  k ← found UnknownCommand (keyword_of (word words 0))
  placed r k (length words)

-- what is known after a line, and its command if it acts
abbrev pub Said : Type 0
Said = Reading × Option Command

unfoldable pub says : Reading → Keyword → List (List ℕ) → Result Said Reason
says r (Declares d) words = do
  after ← declares r d words
  Ok (after, None)
says r (Acts a) words = do
  command ← acts r.declared a words
  Ok (record r { acting = true }, Some command)
says r Ends words = Ok (record r { ended = true }, None)

-- a line by its words
unfoldable pub line_of : Reading → List (List ℕ) → Result Said Reason
line_of r words = if is_passed_over words then Ok (r, None) else do
  k ← command_of r words
  says r k words

-- SCRIPTS

-- the defaults of what is not declared: cells 8 2, levels 0 3, all sides periodic, no variables
abbrev pub defaults : Declared
defaults = record { shape = record { rx = 1; ry = 1; rz = 1; n = 8; g = 2; min = 0; max = 3; sides = replicate 6 Periodic }; names = no_names }

-- before the first line, where no declarations are given, and where some are
abbrev pub at_start : Option Declared → Reading
at_start None = record { declared = defaults; domain = false; cells = false; bounds = false; levels = false; acting = false; ended = false }
at_start (Some given) = record { declared = given; domain = true; cells = false; bounds = false; levels = false; acting = true; ended = false }

abbrev pub on_line : {A : Type 0} → ℕ → Result A Reason → Result A Fault
on_line n (Ok x) = Ok x
on_line n (Err reason) = Err (record { line = n; reason = reason })

abbrev pub numbered : ℕ → Option Command → List Line
numbered n None = []
numbered n (Some c) = record { number = n; command = c } ∷ []

-- what the lines from number n on say, where r is known before them
abbrev pub lines_say : Reading → ℕ → List (List ℕ) → Result (Reading × List Line) Fault
lines_say r n [] = Ok (r, [])
lines_say r n (line ∷ lines) = do
  said ← on_line n (line_of r (words_of line))
  rest ← lines_say said.0 (n + 1) lines
  Ok (rest.0, numbered n said.1 ++ rest.1)

-- `end` stands among the lines, or is missing on line n
abbrev pub closed : ℕ → Reading × List Line → Result PlainScript Fault
closed n read = on_line n (check read.0.ended EndMissing (record { declared = read.0.declared; lines = read.1 }))

-- the most bytes that a script has
abbrev pub most_bytes : ℕ
most_bytes = 2 ^ 20

-- the script that the bytes say over the declarations that are given, if any, or the first fault
unfoldable pub script_of : Option Declared → List ℕ → Result PlainScript Fault
script_of given bytes =
    if nat_lt most_bytes (length bytes) then Err (record { line = 0; reason = TooLong }) else do
      read ← lines_say (at_start given) 1 (lines_of bytes)
      closed (count_by is_line_end bytes + 1) read
