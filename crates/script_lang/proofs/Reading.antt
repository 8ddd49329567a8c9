-- One line after another.
use Rattle.std.proofs.Common.{◌≡◌, ℕ, zero, suc, ◌+◌, ◌^◌, ◌<◌, ◌≤◌, false, nat_lt, List, [], ◌∷◌, ◌++◌, Option, Result, Ok, Err, length, get_or, drop, refl, sym, ap, subst, ◌∙◌, arith, append_assoc, count_by, Bor}
use Rattle.mesh_model.specs.declared.language.script.Command.{Command}
use Rattle.mesh_model.specs.declared.language.script.Declared.{Declared}
use Rattle.mesh_model.specs.declared.language.script.Line.{Line}
use Rattle.mesh_model.specs.declared.language.script.Reading.{Reading}
use Rattle.mesh_model.specs.declared.language.script.Reason.{Reason}
use Rattle.mesh_model.specs.declared.language.script.Reason.TheVariants.{EndMissing}
use Rattle.std.proofs.lemmas.Bool.Decides.{nat_tests}
use Rattle.mesh_model.specs.Language.Forms.{◌>>=◌}
use Rattle.mesh_model.specs.Language.Grammar.{Fault, Said, line_of, lines_say, at_start, script_of, on_line, numbered}
use Rattle.mesh_model.specs.Language.Words.{words_of, lines_of, is_line_end}
use Rattle.script_lang.specs.Answers.{texts, Stopped, Halts}
use Rattle.script_lang.specs.declared.reader.ScriptStop.{ScriptStop}
use Rattle.script_lang.specs.declared.reader.ScriptStop.TheVariants as ends
use Rattle.std.proofs.lemmas.List.{length-map}
use Rattle.std.proofs.lemmas.List.Splits.{length-slice_split}

-- these commands before what the lines after them say
abbrev pub read_after : List Line → Result (Reading × List Line) Fault → Result (Reading × List Line) Fault
read_after front (Ok read) = Ok (read.0, front ++ read.1)
read_after front (Err fault) = Err fault

-- what a line says, before what the lines after it say
abbrev onto : ℕ → List (List ℕ) → Result Said Reason → Result (Reading × List Line) Fault
onto n lines said = on_line n said >>= (λ s. lines_say s.0 (n + 1) lines >>= (λ rest. Ok (rest.0, numbered n s.1 ++ rest.1)))

line_at : (r : Reading) (n : ℕ) (ls : List (Bor (List ℕ))) (i : ℕ) (d : Bor (List ℕ)) → i < length ls → lines_say r n (drop i (texts ls)) ≡ onto n (drop (suc i) (texts ls)) (line_of r (words_of (get_or ls i d).now))
line_at r n [] i d h = absurd (omega arith)
line_at r n (x ∷ ls) zero d h = refl
line_at r n (x ∷ ls) (suc i) d h = line_at r n ls i d (omega arith)

one_more : (front mid : List Line) (rest : Result (Reading × List Line) Fault) → read_after (front ++ mid) rest ≡ read_after front (rest >>= (λ rest. Ok (rest.0, mid ++ rest.1)))
one_more front mid (Ok read) = ap (λ ls. Ok (read.0, ls)) (append_assoc front mid read.1)
one_more front mid (Err fault) = refl

module _ (r : Reading) (n : ℕ) (ls : List (Bor (List ℕ))) (i : ℕ) (d : Bor (List ℕ)) (h : i < length ls) (front : List Line) (all : Result (Reading × List Line) Fault) (so_far : read_after front (lines_say r n (drop i (texts ls))) ≡ all) where
  here : read_after front (onto n (drop (suc i) (texts ls)) (line_of r (words_of (get_or ls i d).now))) ≡ all
  here = ap (read_after front) (sym (line_at r n ls i d h)) ∙ so_far

  pub stops : (reason : Reason) → line_of r (words_of (get_or ls i d).now) ≡ Err reason → all ≡ Err (record { line = n; reason = reason })
  stops reason e = sym (ap (λ said. read_after front (onto n (drop (suc i) (texts ls)) said)) (sym e) ∙ here)

  pub goes_on : (after : Reading) (c : Option Command) → line_of r (words_of (get_or ls i d).now) ≡ Ok (after, c) → read_after (front ++ numbered n c) (lines_say after (n + 1) (drop (i + 1) (texts ls))) ≡ all
  goes_on after c e =
      let next : suc i ≡ i + 1 = omega arith in
      subst (λ k. read_after (front ++ numbered n c) (lines_say after (n + 1) (drop k (texts ls))) ≡ all) next (one_more front (numbered n c) (lines_say after (n + 1) (drop (suc i) (texts ls))) ∙ ap (λ said. read_after front (onto n (drop (suc i) (texts ls)) said)) (sym e) ∙ here)

pub line_count : (ls : List (Bor (List ℕ))) (bytes : List ℕ) → texts ls ≡ lines_of bytes → length ls ≡ count_by is_line_end bytes + 1
unfolding lines_of
line_count ls bytes e = sym (length-map ls (λ x. x.now)) ∙ ap length e ∙ length-slice_split is_line_end bytes

-- a stop at line n ends the reading
pub halted : (stop : ScriptStop) (n : ℕ) (said : Result Said Reason) (all : Result (Reading × List Line) Fault) → Stopped stop n said → ((reason : Reason) → said ≡ Err reason → all ≡ Err (record { line = n; reason = reason })) → Halts stop all
halted (ends.Fault line reason) n said all h stopped = stopped reason h.1 ∙ ap (λ k. Err (record { line = k; reason = reason })) (sym h.0)
halted ends.OutOfMemory n said all h stopped = tt

pub missing : (given : Option Declared) (bytes : List ℕ) (ls : List (Bor (List ℕ))) (last : Reading) (read : List Line) (n : ℕ) → length bytes ≤ 2 ^ 20 → texts ls ≡ lines_of bytes → lines_say (at_start given) 1 (texts ls) ≡ Ok (last, read) → last.ended ≡ false → n ≡ length ls → script_of given bytes ≡ Err (record { line = n; reason = EndMissing })
unfolding script_of
missing given bytes ls last read n short split say lacking counted =
    let few : nat_lt (2 ^ 20) (length bytes) ≡ false = grind (arith, nat_tests) in
    let is : n ≡ count_by is_line_end bytes + 1 = counted ∙ line_count ls bytes split in
    rw (few, ← split, say, lacking, is) refl
