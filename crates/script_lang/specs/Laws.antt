-- What the laws of the language say.
use Rattle.std.specs.Prelude.{◌≡◌, ℕ, suc, ◌+◌, ◌^◌, ◌<◌, ◌⊎◌, false, List, [], Option, Ok, Err, length, take, count_by, slice_index_or}
use Rattle.mesh_model.specs.declared.language.script.Declared.{Declared}
use Rattle.mesh_model.specs.declared.language.script.Line.{Line}
use Rattle.mesh_model.specs.declared.language.script.Reading.{Reading}
use Rattle.mesh_model.specs.declared.language.script.Reason.TheVariants.{TooLong, EndMissing}
use Rattle.mesh_model.specs.Language.Grammar.{Fault, at_start, line_of, lines_say}
use Rattle.mesh_model.specs.Language.Words.{lines_of, words_of, is_line_end}

-- the script is too long
pub record IsTooLong (bytes : List ℕ) (f : Fault) : Type 0 where
  pub long : 2 ^ 20 < length bytes
  pub fault : f ≡ record { line = 0; reason = TooLong }

-- the lines before it have no fault, and with what they say the line has this one
pub record IsFirstFaulty (given : Option Declared) (bytes : List ℕ) (f : Fault) : Type 0 where
  pub n : ℕ
  pub before : Reading
  pub commands : List Line
  pub line : f.line ≡ suc n
  pub there : n < length (lines_of bytes)
  pub faultless : lines_say (at_start given) 1 (take n (lines_of bytes)) ≡ Ok (before, commands)
  pub faulty : line_of before (words_of (slice_index_or (lines_of bytes) n [])) ≡ Err f.reason

-- no line has a fault, and none is `end`
pub record IsEndMissing (given : Option Declared) (bytes : List ℕ) (f : Fault) : Type 0 where
  pub last : Reading
  pub commands : List Line
  pub faultless : lines_say (at_start given) 1 (lines_of bytes) ≡ Ok (last, commands)
  pub open_ended : last.ended ≡ false
  pub fault : f ≡ record { line = count_by is_line_end bytes + 1; reason = EndMissing }

abbrev pub IsFirstFault : Option Declared → List ℕ → Fault → Type 0
IsFirstFault given bytes f = IsTooLong bytes f ⊎ (IsFirstFaulty given bytes f ⊎ IsEndMissing given bytes f)
