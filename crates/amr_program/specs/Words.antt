-- What the words of the program ask for.
use Rattle.std.specs.Prelude.{◌≡◌, ℕ, ◌^◌, ◌-◌, Bool, true, false, List, [], ◌∷◌, Option, Some, None, Result, Ok, Err, String, bytes_eq, codes, map, option_and_then, option_map, string_bytes}
use Rattle.std.specs.Result.{result_ok}
use Rattle.clap.specs.Faults.{fault_of}
use Rattle.clap.specs.Kinds.{Kinds}
use Rattle.clap.specs.Simple.{App, matches_of, new_app, new_rule, on_top, with_rule}
use Rattle.clap.specs.Walk.{Row, Rule, Text, first_of}
use Rattle.clap.specs.declared.builder.action.ArgAction.TheVariants.{Set, SetTrue}
use Rattle.clap.specs.declared.error.kind.ErrorKind.{ErrorKind}
use Rattle.clap.specs.declared.error.kind.ErrorKind.TheVariants as kind
use Rattle.mesh_model.specs.Language.Forms.{count}
use Rattle.amr_program.specs.declared.words.Asked.{Asked}
use Rattle.amr_program.specs.declared.words.Start.{Start}
use Rattle.amr_program.specs.declared.words.Start.TheVariants.{New, Restart, Sample}
use Rattle.amr_program.specs.declared.words.WordsStop.{WordsStop}
use Rattle.amr_program.specs.declared.words.WordsStop.TheVariants.{Refused, OutOfMemory}

-- ---- the command

-- an option that takes one value, and a flag
abbrev pub option : Text → Rule
option name = record (new_rule name) { long = Some name; action = Some Set }

abbrev pub flag : Text → Rule
flag name = record (new_rule name) { long = Some name; action = Some SetTrue }

-- the words of the program begin after its own name
abbrev pub named : App
named = on_top (λ s. record s { no_binary_name = true }) (new_app (codes "amr"))

abbrev pub program_command : App
program_command =
    with_rule (with_rule (with_rule (with_rule (with_rule named (option (codes "ranks"))) (option (codes "order"))) (option (codes "workers")))
    (option (codes "sample"))) (flag (codes "restart"))

-- ---- what is asked

-- the number from `low` to `high` that a text is, in digits without a sign or a leading zero
abbrev pub number_in : ℕ → ℕ → Text → Option ℕ
number_in low high text = result_ok (count low high text)

-- the number of an option, or `default` where the option is not there
abbrev pub number_or : ℕ → ℕ → ℕ → Option Text → Option ℕ
number_or low high default None = Some default
number_or low high default (Some text) = number_in low high text

-- the flag has the value `true` where it is there
abbrev pub is_set : Option Text → Bool
is_set None = false
is_set (Some value) = bytes_eq value (codes "true")

abbrev pub start_of : Bool → Option Text → Option Start
start_of false None = Some New
start_of true None = Some Restart
start_of false (Some seed) = option_map (λ n. Sample n) (number_in 0 (2 ^ 32 - 1) seed)
start_of true (Some seed) = None

-- a restart or a sample, and not both
abbrev pub start_by : Option Text → Option Text → Option Start
start_by restart sample = start_of (is_set restart) sample

-- by the values of the options and of the flag
abbrev pub asked_of : Option Text → Option Text → Option Text → Option Text → Option Text → Option Asked
asked_of ranks order workers sample restart =
    option_and_then (λ start.
    option_and_then (λ r.
    option_and_then (λ k.
    option_map (λ w. record { start = start; ranks = r; order = k; workers = w }) (number_or 1 16 1 workers))
    (number_or 0 (2 ^ 32 - 1) 0 order))
    (number_or 1 64 1 ranks))
    (start_by restart sample)

abbrev pub asked_by : (Text → Option Text) → Option Asked
asked_by value = asked_of (value (codes "ranks")) (value (codes "order")) (value (codes "workers")) (value (codes "sample")) (value (codes "restart"))

abbrev pub asked_where : Kinds → List Row → Option Asked
asked_where [] rows = asked_by (λ name. first_of name rows)
asked_where (kind ∷ kinds) rows = None

-- what the words ask for, where the command takes them and their options go together
unfoldable pub asked_in : List Text → Option Asked
asked_in words = asked_where (fault_of program_command words) (matches_of program_command words)

-- the bytes of the words
abbrev pub texts_of : {Y : Type 0} → List (String Y) → List Text
texts_of words = map (λ w. string_bytes w) words

-- ---- what is answered

abbrev pub stop_of : ErrorKind → WordsStop
stop_of kind.OutOfMemory = OutOfMemory
stop_of _ = Refused

-- the words are told, unless memory ran out
abbrev pub Tells : Option Asked → Result Asked WordsStop → Type 0
Tells asked (Ok a) = asked ≡ Some a
Tells asked (Err Refused) = asked ≡ None
Tells asked (Err OutOfMemory) = Unit {0}
