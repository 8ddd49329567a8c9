-- The words of a script: its lines, the words of a line, and which words are numbers and names.
use Rattle.std.specs.Prelude.{ℕ, ◌+◌, ◌-◌, ◌*◌, Bool, true, false, not, ◌&&◌, ◌||◌, ◌==◌, nat_le, if◌then◌else◌, List, [], ◌∷◌, length, Option, Some, None, ℤ, pos, neg_ℤ, fold, filter, slice_index, slice_index_or, codes, bytes_eq}
use Rattle.std.specs.List.{slice_split, list_any, list_all}
use Rattle.mesh_model.specs.Fields.VariableNames.{longest_name}

-- lines are parted by LF
abbrev pub is_line_end : ℕ → Bool
is_line_end b = b == 10

unfoldable pub lines_of : List ℕ → List (List ℕ)
lines_of bytes = slice_split is_line_end bytes

-- words are parted by space, tab and CR, which may stand before and after them
abbrev pub is_gap : ℕ → Bool
is_gap b = (b == 32) || (b == 9) || (b == 13)

abbrev pub is_filled : List ℕ → Bool
is_filled [] = false
is_filled (b ∷ bs) = true

unfoldable pub words_of : List ℕ → List (List ℕ)
words_of line = filter is_filled (slice_split is_gap line)

-- the word at place i, from 0
abbrev pub word : List (List ℕ) → ℕ → List ℕ
word words i = slice_index_or words i []

-- a line without words is passed over, and one whose first word begins with #
abbrev pub is_passed_over : List (List ℕ) → Bool
is_passed_over [] = true
is_passed_over (first ∷ words) = slice_index first 0 == 35

-- 0 to 9
abbrev pub is_digit : ℕ → Bool
is_digit b = nat_le 48 b && nat_le b 57

abbrev pub digits_value : List ℕ → ℕ
digits_value digits = fold (λ n d. 10 * n + (d - 48)) 0 digits

-- a digit 1 to 9, and then digits
abbrev pub is_positive : List ℕ → Bool
is_positive [] = false
is_positive (d ∷ ds) = nat_le 49 d && nat_le d 57 && list_all is_digit ds

-- the digits of a word that begins with a minus
abbrev pub after_minus : List ℕ → List ℕ
after_minus [] = []
after_minus (b ∷ bs) = if b == 45 then bs else []

-- the number that a word is: 0, or a positive one, or - followed by a positive one
unfoldable pub number_of : List ℕ → Option ℤ
number_of w =
    if bytes_eq w (codes "0") then Some (pos 0)
    else if is_positive w then Some (pos (digits_value w))
    else if is_positive (after_minus w) then Some (neg_ℤ (pos (digits_value (after_minus w))))
    else None

-- a to z; a to z, 0 to 9 and _
abbrev pub is_letter : ℕ → Bool
is_letter b = nat_le 97 b && nat_le b 122

abbrev pub is_name_byte : ℕ → Bool
is_name_byte b = is_letter b || is_digit b || (b == 95)

-- words that no variable is named by
abbrev pub is_reserved : List ℕ → Bool
is_reserved w = list_any (bytes_eq w) (codes "mesh" ∷ codes "tree" ∷ codes "size" ∷ codes "guards" ∷ codes "ranks" ∷ codes "trace" ∷ [])

-- a name: 1 to 16 bytes, a letter and then letters, digits and _, and not reserved
unfoldable pub is_name : List ℕ → Bool
is_name w = nat_le 1 (length w) && nat_le (length w) longest_name && is_letter (slice_index w 0) && list_all is_name_byte w && not (is_reserved w)
