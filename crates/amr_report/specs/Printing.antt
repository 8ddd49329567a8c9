-- What a call prints, and how a line is made.
use Rattle.std.specs.Prelude.{◌≡◌, ℕ, List, [], ◌∷◌, ◌++◌, Option, Result, Ok, Err}
use Rattle.outside_io.specs.Moved.{Rose, Takes, TakesPrefix}
use Rattle.outside_io.specs.declared.Failed.{Failed}

-- the sink took the text, or it failed and took the first bytes of it
abbrev pub Prints : Result (Unit {0}) Failed → Option (List ℕ) → List ℕ → Option (List ℕ) → ℕ → ℕ → Type 0
Prints (Ok done) before text after faults new_faults = Takes before text after × (new_faults ≡ faults)
Prints (Err failed) before text after faults new_faults = TakesPrefix before text after × Rose faults new_faults

-- one more word, after a space
abbrev pub with_word : List ℕ → List ℕ → List ℕ
with_word line word = line ++ 32 ∷ word

-- more words, each after a space
abbrev pub with_words : List ℕ → List (List ℕ) → List ℕ
with_words line [] = line
with_words line (word ∷ words) = with_words (with_word line word) words
