-- What the parse of the words tells.
use Rattle.std.proofs.Common.{◌≡◌, ◌∙◌, Bool, true, false, if◌then◌else◌, List, [], ◌∷◌, Option, Some, None, Err, inl, inr, map, refl, sym, ap, subst, bytes_eq, codes}
use Rattle.std.specs.Prelude.{find, option_and_then, option_map, slice_get}
use Rattle.std.specs.Option.{ok_or}
use denote.Ref.{Bor}
use Rattle.clap.specs.Facts.{Entry}
use Rattle.clap.specs.Faults.{fault_of, is_simple_and_free}
use Rattle.clap.specs.Kinds.{HasKind, IsAmong, Kinds}
use Rattle.clap.specs.Simple.{is_simple, matches_of}
use Rattle.clap.specs.Walk.{Row, Text, first_of, row_of, rows_of}
use Rattle.clap.specs.Words.{first_value, kind_of}
use Rattle.clap.specs.declared.error.Error.{Error}
use Rattle.clap.specs.declared.error.kind.ErrorKind.{ErrorKind}
use Rattle.clap.specs.declared.parser.matches.Found.{Found}
use Rattle.clap.proofs.OnLiterals.{clap_on_literals}
use Rattle.amr_program.specs.Words.{Tells, asked_by, asked_in, asked_of, asked_where, program_command, stop_of}
use Rattle.amr_program.specs.declared.words.Asked.{Asked}
use Rattle.amr_program.specs.declared.words.WordsStop.{WordsStop}
use Rattle.amr_program.specs.declared.words.WordsStop.TheVariants.{Refused, OutOfMemory}

-- ---- the command is one of which the words give the matches and the faults

pub is_plain : is_simple program_command ≡ true
unfolding clap_on_literals
is_plain = refl

pub is_free : is_simple_and_free program_command ≡ true
unfolding clap_on_literals
is_free = refl

-- ---- values

first_read : (vals : List (Bor Text)) → option_map (λ s. s.now) (slice_get vals 0) ≡ slice_get (map (λ s. s.now) vals) 0
first_read [] = refl
first_read (v ∷ vs) = refl

abbrev value_in : Option Entry → Option Text
value_in o = option_and_then (λ a. option_map (λ s. s.now) (slice_get a.vals.items 0)) (option_map (λ e. e.1) o)

abbrev value_at : Option Row → Option Text
value_at o = option_and_then (λ r. slice_get r.values 0) o

values_at_first : (b : Bool) (e : Entry) (es : Option Entry) (rows : Option Row) → value_in es ≡ value_at rows → value_in (if b then Some e else es) ≡ value_at (if b then Some (row_of e) else rows)
values_at_first true e es rows rest = first_read e.1.vals.items
values_at_first false e es rows rest = rest

values_among : (entries : List Entry) (id : Text) → value_in (find (λ e. bytes_eq e.0.now id) entries) ≡ value_at (find (λ r. bytes_eq r.id id) (map row_of entries))
values_among [] id = refl
values_among (e ∷ es) id = values_at_first (bytes_eq e.0.now id) e _ _ (values_among es id)

-- a value by its name in what was found is that in its rows
values_read : (f : Found) (id : Text) → first_value f id ≡ first_of id (rows_of f)
values_read f id = values_among f.entries.items id

-- ---- what is told

module _ (words : List Text) where
  pub asked_parsed : (f : Found) → fault_of program_command words ≡ [] → rows_of f ≡ matches_of program_command words → asked_in words ≡ asked_by (λ name. first_value f name)
  unfolding asked_in
  asked_parsed f none rows =
      let v = values_read f in
      let at : Text → Option Text = λ name. first_of name (rows_of f) in
      ap (λ kinds. asked_where kinds (matches_of program_command words)) none ∙ ap (asked_where []) (sym rows)
      ∙ sym (ap (λ x. asked_of x (first_value f (codes "order")) (first_value f (codes "workers")) (first_value f (codes "sample")) (first_value f (codes "restart"))) (v (codes "ranks"))
      ∙ ap (λ x. asked_of (at (codes "ranks")) x (first_value f (codes "workers")) (first_value f (codes "sample")) (first_value f (codes "restart"))) (v (codes "order"))
      ∙ ap (λ x. asked_of (at (codes "ranks")) (at (codes "order")) x (first_value f (codes "sample")) (first_value f (codes "restart"))) (v (codes "workers"))
      ∙ ap (λ x. asked_of (at (codes "ranks")) (at (codes "order")) (at (codes "workers")) x (first_value f (codes "restart"))) (v (codes "sample"))
      ∙ ap (λ x. asked_of (at (codes "ranks")) (at (codes "order")) (at (codes "workers")) (at (codes "sample")) x) (v (codes "restart")))

  tells_or : (said found : Option Asked) → said ≡ found → Tells said (ok_or found Refused)
  tells_or said None is = is
  tells_or said (Some a) is = is

  pub tells_parsed : (f : Found) → fault_of program_command words ≡ [] → rows_of f ≡ matches_of program_command words → (found : Option Asked) → found ≡ asked_by (λ name. first_value f name) → Tells (asked_in words) (ok_or found Refused)
  tells_parsed f none rows found is = tells_or (asked_in words) found (asked_parsed f none rows ∙ sym is)

  refused : (k : ErrorKind) (kinds : Kinds) (rows : List Row) → IsAmong k kinds → asked_where kinds rows ≡ None
  refused k [] rows among = absurd among
  refused k (x ∷ xs) rows among = refl

  tells_none : (said : Option Asked) (stop : WordsStop) → said ≡ None → Tells said (Err stop)
  tells_none said Refused is = is
  tells_none said OutOfMemory is = tt

  pub tells_failed : (e : Error) → HasKind (fault_of program_command words) e → Tells (asked_in words) (Err (stop_of (kind_of e)))
  unfolding asked_in
  tells_failed e (inl memory) = subst (λ k. Tells (asked_in words) (Err (stop_of k))) (sym memory) tt
  tells_failed e (inr among) = tells_none (asked_in words) (stop_of (kind_of e)) (refused (kind_of e) (fault_of program_command words) (matches_of program_command words) among)
