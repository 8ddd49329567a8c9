-- Lines that are written word by word, and the words that are read in them.
use Rattle.std.proofs.Common.{◌≡◌, ℕ, suc, ◌*◌, ◌^◌, ◌<◌, ◌≤◌, Bool, true, false, not, ◌&&◌, List, [], ◌∷◌, ◌++◌, length, decimal, ℤ, pos, negsuc, refl, ap, ap₂, ◌∙◌, arith, length-append}
use Rattle.std.proofs.lemmas.Bool.{and_parts}
use Rattle.std.proofs.lemmas.Bool.Decides.{nat_tests}
use Rattle.std.proofs.lemmas.Fmt.{length-decimal-le}
use Rattle.std.proofs.lemmas.List.Folds.{list_all-append}
use Rattle.std.proofs.lemmas.List.Splits.{slice_split-cons_no, slice_split-cons_yes}
use Rattle.std.specs.Fmt.{signed_decimal}
use Rattle.std.specs.List.{list_all, onto_first, slice_split}
use lib.Signed.{mag}
use Rattle.mesh_model.specs.Language.Words.{is_digit, is_filled, is_gap, is_line_end, words_of}
use Rattle.script_lang.proofs.Numerals.{decimal_numeral}

-- no byte passes the test
abbrev pub lacks : (ℕ → Bool) → List ℕ → Bool
lacks p w = list_all (λ b. not (p b)) w

not_true : (b : Bool) → not b ≡ true → b ≡ false
not_true true h = absurd (cc)
not_true false h = refl

-- the parts of a list, where no byte of the first parts it
pub split_after : (p : ℕ → Bool) (w : List ℕ) (y : ℕ) (t : List ℕ) → lacks p w ≡ true → p y ≡ true → slice_split p (w ++ (y ∷ t)) ≡ w ∷ slice_split p t
split_after p [] y t h e = slice_split-cons_yes p y t e
split_after p (x ∷ xs) y t h e =
    let parts = and_parts (not (p x)) (lacks p xs) h in
    slice_split-cons_no p x (xs ++ (y ∷ t)) (not_true (p x) parts.0) ∙ ap (onto_first x) (split_after p xs y t parts.1 e)

pub split_whole : (p : ℕ → Bool) (w : List ℕ) → lacks p w ≡ true → slice_split p w ≡ w ∷ []
split_whole p [] h = refl
split_whole p (x ∷ xs) h =
    let parts = and_parts (not (p x)) (lacks p xs) h in
    slice_split-cons_no p x xs (not_true (p x) parts.0) ∙ ap (onto_first x) (split_whole p xs parts.1)

pub record IsWord (w : List ℕ) : Type 0 where
  pub filled : is_filled w ≡ true
  pub gapless : lacks is_gap w ≡ true
  pub inline : lacks is_line_end w ≡ true
  pub short : length w ≤ 23

-- the text of a line, and its words
pub record Reads (text : List ℕ) (words : List (List ℕ)) : Type 0 where
  pub inline : lacks is_line_end text ≡ true
  pub said : words_of text ≡ words
  pub short : length text ≤ 24 * length words

pub last_word : (w : List ℕ) → IsWord w → Reads w (w ∷ [])
unfolding words_of
last_word w h = record {
  inline = h.inline;
  said = rw (split_whole is_gap w h.gapless, h.filled) refl;
  short = omega (arith, h.short);
}

pub next_word : (w t : List ℕ) (ws : List (List ℕ)) → IsWord w → Reads t ws → Reads (w ++ (32 ∷ t)) (w ∷ ws)
unfolding words_of
next_word w t ws h r = record {
  inline = list_all-append (λ b. not (is_line_end b)) w (32 ∷ t) ∙ ap₂ (λ a b. a && b) h.inline r.inline;
  said = rw (split_after is_gap w 32 t h.gapless refl, h.filled) (ap (λ ws. w ∷ ws) r.said);
  short = omega (arith, h.short, r.short, length-append w (32 ∷ t));
}

-- digits are a word
digits_lack : (p : ℕ → Bool) → ((b : ℕ) → is_digit b ≡ true → not (p b) ≡ true) → (ds : List ℕ) → list_all is_digit ds ≡ true → lacks p ds ≡ true
digits_lack p h [] all = refl
digits_lack p h (d ∷ ds) all =
    let parts = and_parts (is_digit d) (list_all is_digit ds) all in
    ap₂ (λ a b. a && b) (h d parts.0) (digits_lack p h ds parts.1)

no_gap : (b : ℕ) → is_digit b ≡ true → not (is_gap b) ≡ true
no_gap b h = grind (arith, nat_tests)

no_end : (b : ℕ) → is_digit b ≡ true → not (is_line_end b) ≡ true
no_end b h = grind (arith, nat_tests)

pub decimal_word : (n : ℕ) → n < 2 ^ 64 → IsWord (decimal n)
decimal_word n h =
    let m = decimal_numeral n h in
    let few : length (decimal n) ≤ 20 = length-decimal-le 20 n (omega arith) (omega arith) h in
    record {
      filled = m.filled;
      gapless = digits_lack is_gap no_gap (decimal n) m.all;
      inline = digits_lack is_line_end no_end (decimal n) m.all;
      short = omega arith;
    }

pub signed_word : (z : ℤ) → mag z < 2 ^ 63 → IsWord (signed_decimal z)
signed_word (pos n) h = decimal_word n (omega arith)
signed_word (negsuc n) h =
    let few : length (decimal (suc n)) ≤ 20 = length-decimal-le 20 (suc n) (omega arith) (omega arith) (omega arith) in
    let w = decimal_word (suc n) (omega arith) in
    record { filled = refl; gapless = w.gapless; inline = w.inline; short = omega arith }
