-- Words joined by a space.
use Rattle.std.proofs.Common.{◌≡◌, ℕ, ◌+◌, ◌<◌, List, [], ◌∷◌, ◌++◌, length, map, ℤ, ap, refl, sym, ◌∙◌, arith, append_assoc}
use Rattle.std.proofs.lemmas.List.{length-map, map-append}
use Rattle.std.proofs.lemmas.List.FromFn.{length-map-range_with_len, map-range_with_len_more}
use Rattle.std.specs.Fmt.{signed_decimal}
use Rattle.std.specs.List.{join_with_byte, range_with_len}
use Rattle.amr_report.specs.Printing.{with_word, with_words}

join_first : (first word : List ℕ) (words : List (List ℕ)) → join_with_byte 32 ((first ++ 32 ∷ word) ∷ words) ≡ join_with_byte 32 (first ∷ word ∷ words)
join_first first word [] = refl
join_first first word (w ∷ words) = append_assoc first (32 ∷ word) (32 ∷ join_with_byte 32 (w ∷ words))

-- words one after the other are words joined by a space
pub join_words : (first : List ℕ) (words : List (List ℕ)) → with_words first words ≡ join_with_byte 32 (first ∷ words)
join_words first [] = refl
join_words first (word ∷ words) = join_words (first ++ 32 ∷ word) words ∙ join_first first word words

-- words in two parts
pub words_apart : (line : List ℕ) (first second : List (List ℕ)) → with_words line (first ++ second) ≡ with_words (with_words line first) second
words_apart line [] second = refl
words_apart line (word ∷ first) second = words_apart (line ++ 32 ∷ word) first second

-- one more word at the end
join_push : (words : List (List ℕ)) (word : List ℕ) → 0 < length words → join_with_byte 32 (words ++ word ∷ []) ≡ join_with_byte 32 words ++ (32 ∷ word)
join_push [] word h = absurd (omega arith)
join_push (v ∷ []) word h = refl
join_push (v ∷ w ∷ words) word h = ap (λ t. v ++ (32 ∷ t)) (join_push (w ∷ words) word (omega arith)) ∙ sym (append_assoc v (32 ∷ join_with_byte 32 (w ∷ words)) (32 ∷ word))

-- the first n numbers of a row, and one more
abbrev pub row_so_far : (ℕ → ℤ) → ℕ → List ℕ
row_so_far at n = join_with_byte 32 (map signed_decimal (map at (range_with_len 0 n)))

pub row_next : (at : ℕ → ℤ) (n : ℕ) → 0 < n → row_so_far at (n + 1) ≡ with_word (row_so_far at n) (signed_decimal (at n))
row_next at n some =
    let size : length (map signed_decimal (map at (range_with_len 0 n))) ≡ n = length-map (map at (range_with_len 0 n)) signed_decimal ∙ length-map-range_with_len at 0 n in
    ap (λ ns. join_with_byte 32 (map signed_decimal ns)) (map-range_with_len_more at 0 n n (omega arith))
    ∙ ap (join_with_byte 32) (map-append signed_decimal (map at (range_with_len 0 n)) (at n ∷ []))
    ∙ join_push (map signed_decimal (map at (range_with_len 0 n))) (signed_decimal (at n)) (omega arith)
