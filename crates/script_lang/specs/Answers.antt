-- How the reader's answers stand for what the language says.
use Rattle.std.specs.Prelude.{◌≡◌, ℕ, ◌≤◌, List, ◌++◌, map, Option, Result, Ok, Err}
use denote.Ref.{Bor}
use Rattle.mesh_model.specs.declared.geometry.Shape.{Shape}
use Rattle.mesh_model.specs.declared.language.script.Reason.{Reason}
use Rattle.mesh_model.specs.declared.language.script.Command.{Command}
use Rattle.mesh_model.specs.declared.language.script.Line.{Line}
use Rattle.mesh_model.specs.declared.language.script.Reading.{Reading}
use Rattle.mesh_model.specs.Language.Grammar as grammar
use Rattle.mesh_model.specs.Language.Grammar.{Said, numbered}
use Rattle.script_lang.specs.declared.reader.ScriptStop.{ScriptStop}
use Rattle.script_lang.specs.declared.reader.ScriptStop.TheVariants as ends
use Rattle.script_lang.specs.declared.reader.Stop.{Stop}
use Rattle.script_lang.specs.declared.reader.Stop.TheVariants.{Fault, OutOfMemory}

-- the bytes of the words
abbrev pub texts : List (Bor (List ℕ)) → List (List ℕ)
texts words = map (λ w. w.now) words

-- a stop is the language's refusal, unless memory ran out
abbrev pub Refuses : {A : Type 0} → Stop → Result A Reason → Type 0
Refuses (Fault reason) said = said ≡ Err reason
Refuses OutOfMemory said = Unit {0}

-- the answer is what the language says
abbrev pub Answers : {R A : Type 0} → (R → A) → Result R Stop → Result A Reason → Type 0
Answers view (Ok x) said = said ≡ Ok (view x)
Answers view (Err stop) said = Refuses stop said

-- the line says this, its command has this number, and the commands after it are those before it with its own
abbrev pub Adds : Result Said Reason → Reading → ℕ → List Line → List Line → Type 0
Adds said after n before lines = (c : Option Command) × (said ≡ Ok (after, c)) × (lines ≡ before ++ numbered n c)

-- a stop is the language's refusal of line n, unless memory ran out
abbrev pub Stopped : ScriptStop → ℕ → Result Said Reason → Type 0
Stopped (ends.Fault line reason) n said = (line ≡ n) × (said ≡ Err reason)
Stopped ends.OutOfMemory n said = Unit {0}

-- a stop is the fault that the language gives, unless memory ran out
abbrev pub Halts : {A : Type 0} → ScriptStop → Result A grammar.Fault → Type 0
Halts (ends.Fault line reason) said = said ≡ Err (record { line = line; reason = reason })
Halts ends.OutOfMemory said = Unit {0}

-- no axis has more than eight roots, nor a root more than eight cells
pub record IsNarrow (s : Shape) : Type 0 where
  pub n : s.n ≤ 8
  pub rx : s.rx ≤ 8
  pub ry : s.ry ≤ 8
  pub rz : s.rz ≤ 8
