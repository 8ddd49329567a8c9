-- The line that a refused command ends a run with, word by word.
use Rattle.std.proofs.Common.{◌≡◌, ℕ, suc, ◌+◌, ◌<◌, ℤ, get_or, take, arith, List, [], ◌∷◌, ◌++◌, length, map, codes, decimal, sym, ap, ◌∙◌, append_assoc, append-nil}
use Rattle.std.proofs.Math.Seq.{take-suc}
use Rattle.std.proofs.lemmas.Grind.{flat_map-append}
use Rattle.std.proofs.lemmas.List.{map-append}
use Rattle.std.specs.Fmt.{signed_decimal}
use Rattle.std.specs.List.{join_with_byte}
use Rattle.mesh_model.specs.Fields.VariableNames.{VariableNames}
use Rattle.mesh_model.specs.declared.run.stops.Refusal as stops
use Rattle.mesh_model.specs.Run.StopTexts.{refusal_words, stop_line}
use Rattle.amr_report.specs.Printing.{with_word}
use Rattle.amr_program.specs.Lines.{more_words}

-- words joined by spaces are the first, and then each other after a space
joined : (word : List ℕ) (words : List (List ℕ)) → join_with_byte 32 (word ∷ words) ≡ word ++ more_words words
joined word [] = sym (append-nil word)
joined word (next ∷ words) = ap (λ t. word ++ (32 ∷ t)) (joined next words)

pub stop_told : (names : VariableNames) (line : ℕ) (why : stops.Refusal) (first second third fourth fifth last : List ℕ) →
    first ≡ codes "error:" → second ≡ with_word first (codes "line") → third ≡ with_word second (decimal line) → fourth ≡ third ++ codes ":" →
    fifth ≡ fourth ++ more_words (refusal_words names why) → last ≡ fifth ++ codes "\n" → last ≡ stop_line names line why
unfolding stop_line
stop_told names line why first second third fourth fifth last e1 e2 e3 e4 e5 e6 =
    let words = refusal_words names why in
    e6 ∙ ap (λ t. t ++ codes "\n") (e5 ∙ ap (λ t. t ++ more_words words) (e4 ∙ ap (λ t. t ++ codes ":") (e3 ∙ ap (λ t. with_word t (decimal line)) (e2 ∙ ap (λ t. with_word t (codes "line")) e1)))
    ∙ ap (λ t. t ++ more_words words) (append_assoc (codes "error: line") (32 ∷ decimal line) (codes ":"))
    ∙ append_assoc (codes "error: line") (32 ∷ (decimal line ++ codes ":")) (more_words words)
    ∙ sym (joined (codes "error:") (codes "line" ∷ (decimal line ++ codes ":") ∷ words)))

-- one more number
pub one_more_number : (numbers : List ℤ) (i : ℕ) (d : ℤ) → i < length numbers → more_words (map signed_decimal (take (i + 1) numbers)) ≡ more_words (map signed_decimal (take i numbers)) ++ (32 ∷ signed_decimal (get_or numbers i d))
one_more_number numbers i d h =
    let next : i + 1 ≡ suc i = omega arith in
    ap (λ k. more_words (map signed_decimal (take k numbers))) next
    ∙ ap (λ ls. more_words (map signed_decimal ls)) (take-suc numbers i d h)
    ∙ ap more_words (map-append signed_decimal (take i numbers) (get_or numbers i d ∷ []))
    ∙ flat_map-append (λ w. 32 ∷ w) (map signed_decimal (take i numbers)) (signed_decimal (get_or numbers i d) ∷ [])
    ∙ ap (λ t. more_words (map signed_decimal (take i numbers)) ++ (32 ∷ t)) (append-nil (signed_decimal (get_or numbers i d)))
