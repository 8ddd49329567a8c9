-- The sample script of every seed is accepted: what each of its lines says.
use Rattle.std.proofs.Common.{◌≡◌, ℕ, suc, ◌+◌, ◌-◌, ◌%◌, ◌^◌, ◌<◌, ◌≤◌, Bool, true, false, cond, ◌&&◌, nat_lt, nat_le, int_le, List, [], ◌∷◌, ◌++◌, length, Option, Some, None, Ok, ℤ, pos, negsuc, unsigned_abs, codes, decimal, refl, sym, ap, subst, ◌∙◌, arith, append_assoc, length-append}
use Rattle.std.proofs.lemmas.Bool.{and_parts}
use Rattle.std.proofs.lemmas.Bool.Decides.{nat_tests}
use Rattle.std.proofs.lemmas.Nat.{mod_below}
use Rattle.std.specs.Fmt.{signed_decimal}
use Rattle.std.specs.List.{join_with_byte}
use lib.Signed.{mag}
use Rattle.amr_num.specs.declared.Axis.TheVariants.{Z}
use Rattle.amr_num.specs.declared.SideKind.TheVariants.{Periodic, Outflow, Closed}
use Rattle.mesh_model.specs.declared.language.script.Command.{Command}
use Rattle.mesh_model.specs.declared.language.script.Command.TheVariants.{Advect, EdgeSet, FillBox, Induct, RefineWhere}
use Rattle.mesh_model.specs.declared.language.script.Declared.{Declared}
use Rattle.mesh_model.specs.declared.language.script.Line.{Line}
use Rattle.mesh_model.specs.declared.language.script.Reading.{Reading}
use Rattle.mesh_model.specs.Language.Actions.{advect, derefine_where, edgeset, fill, fill_box, induct, is_box, mark, print, print_one, refine_where, total}
use Rattle.mesh_model.specs.Language.Commands.{PlainScript}
use Rattle.mesh_model.specs.Language.Declarations.{bounds, cells, cellvar, domain, edgevar, facevar, levels}
use Rattle.mesh_model.specs.Language.Forms.{axis, block, cell_variable, count, fixed, is_taken, level, new_name, number, numbers, one_of, point, side}
use Rattle.mesh_model.specs.Language.Grammar.{acts, at_start, command_of, declaration_of, declares, keyword_of, line_of, lines_say, numbered, placed, report_of, says, script_of, setting_of, step_of}
use Rattle.mesh_model.specs.Language.Sample.{box, corner, declarations, draw, line, position, round, round_after, sample, speed, start}
use Rattle.mesh_model.specs.Language.Words.{is_filled, is_gap, is_line_end, is_name, lines_of, number_of, word, words_of}
use Rattle.script_lang.proofs.Drawing.{draw_below}
use Rattle.script_lang.proofs.Numerals.{number_of_decimal, number_of_signed}
use Rattle.script_lang.proofs.Wording.{IsWord, Reads, decimal_word, lacks, last_word, next_word, signed_word, split_after}

-- LINES

-- the bytes are lines without a fault, the last of which are `end` and nothing, and at most k bytes
pub record Accepts (k : ℕ) (r : Reading) (bytes : List ℕ) : Type 0 where
  pub read : (n : ℕ) → (last : Reading × List Line) × (lines_say r n (lines_of bytes) ≡ Ok last) × (last.0.ended ≡ true)
  pub short : length bytes ≤ k

-- a line without a fault before lines that are accepted
line_before : (k : ℕ) (r after : Reading) (c : Option Command) (text rest : List ℕ) (words : List (List ℕ)) → lacks is_line_end text ≡ true → words_of text ≡ words → length text < 300 → line_of r words ≡ Ok (after, c) → Accepts k after rest → Accepts (k + 300) r (text ++ (10 ∷ rest))
unfolding lines_of
line_before k r after c text rest words inline reads few said next = record {
  read = λ n.
      let tail = next.read (n + 1) in
      let last : Reading × List Line = (tail.0.0, numbered n c ++ tail.0.1) in
      (last, rw (split_after is_line_end text 10 rest inline refl, reads, said, tail.1) refl, tail.2);
  short = omega (arith, few, next.short, length-append text (10 ∷ rest));
}

-- the same for a line that is written from its words
line_then : (k : ℕ) (r after : Reading) (c : Option Command) (parts words : List (List ℕ)) (rest : List ℕ) → Reads (join_with_byte 32 parts) words → length words ≤ 12 → line_of r words ≡ Ok (after, c) → Accepts k after rest → Accepts (k + 300) r (line parts ++ rest)
line_then k r after c parts words rest reads few said next =
    let short : length (join_with_byte 32 parts) < 300 = omega (arith, reads.short) in
    subst (Accepts (k + 300) r) (sym (append_assoc (join_with_byte 32 parts) (10 ∷ []) rest)) (line_before k r after c (join_with_byte 32 parts) rest words reads.inline reads.said short said next)

-- the same for a line without numbers
fixed_line : (k : ℕ) (r after : Reading) (c : Option Command) (text rest : List ℕ) → (lacks is_line_end text && nat_lt (length text) 300) ≡ true → line_of r (words_of text) ≡ Ok (after, c) → Accepts k after rest → Accepts (k + 300) r (text ++ (10 ∷ rest))
fixed_line k r after c text rest test said next =
    let parts = and_parts (lacks is_line_end text) (nat_lt (length text) 300) test in
    let short : length text < 300 = grind (arith, nat_tests, parts.1) in
    line_before k r after c text rest (words_of text) parts.0 refl short said next

same_bytes : (k : ℕ) (r : Reading) (bytes text : List ℕ) → text ≡ bytes → Accepts k r bytes → Accepts k r text
same_bytes k r bytes text e a = record {
  read = subst (λ b. (n : ℕ) → (last : Reading × List Line) × (lines_say r n (lines_of b) ≡ Ok last) × (last.0.ended ≡ true)) (sym e) a.read;
  short = omega (arith, a.short, ap length e);
}

-- READINGS

-- what is known after the declarations, and whether a line acted
abbrev declared : Declared
declared = record {
  shape = record { rx = 4; ry = 4; rz = 4; n = 8; g = 2; min = 0; max = 3; sides = Periodic ∷ Periodic ∷ Outflow ∷ Outflow ∷ Closed ∷ Closed ∷ [] };
  names = record { cells = codes "u" ∷ []; face = Some (codes "b"); edge = Some (codes "e") };
}

abbrev known : Bool → Reading
known acting = record { declared = declared; domain = true; cells = true; bounds = true; levels = true; acting = acting; ended = false }

-- NUMBERS

number_decimal : (most n : ℕ) → n ≤ most → n < 2 ^ 64 → number most (decimal n) ≡ Ok (pos n)
unfolding number
number_decimal most n h fits =
    let passes : nat_le n most ≡ true = grind (arith, nat_tests) in
    rw (number_of_decimal n fits, passes) refl

size_within : (most : ℕ) (z : ℤ) → mag z < most → nat_le (unsigned_abs z) most ≡ true
size_within most (pos n) h = grind (arith, nat_tests)
size_within most (negsuc n) h = grind (arith, nat_tests)

number_signed : (most : ℕ) (z : ℤ) → mag z < most → mag z < 2 ^ 63 → number most (signed_decimal z) ≡ Ok z
unfolding number
number_signed most z h fits = rw (number_of_signed z fits, size_within most z h) refl

count_decimal : (high n : ℕ) → n ≤ high → n < 2 ^ 64 → count 0 high (decimal n) ≡ Ok n
unfolding count
count_decimal high n h fits =
    let passes : (int_le (pos 0) (pos n) && int_le (pos n) (pos high)) ≡ true = grind (arith, nat_tests) in
    rw (number_of_decimal n fits, passes) refl

level_zero : level (codes "0") ≡ Ok 0
unfolding count number_of
level_zero = refl

count_five : count 0 65536 (codes "5") ≡ Ok 5
unfolding count number_of
count_five = refl

number_one : number (2 ^ 40) (codes "1") ≡ Ok (pos 1)
unfolding number number_of
number_one = refl

u_is_first : cell_variable declared.names (codes "u") ≡ Ok 0
unfolding cell_variable
u_is_first = refl

-- WORDS

abbrev box_words : ℕ → ℕ → ℕ → ℕ → List (List ℕ)
box_words a b c v = codes "fill" ∷ codes "u" ∷ codes "box" ∷ codes "0" ∷ decimal a ∷ decimal b ∷ decimal c ∷ decimal (a + 4) ∷ decimal (b + 4) ∷ decimal (c + 4) ∷ decimal v ∷ []

abbrev edge_words : ℕ → ℕ → ℕ → List (List ℕ)
edge_words p q v = codes "edgeset" ∷ codes "z" ∷ codes "0" ∷ decimal p ∷ decimal q ∷ codes "5" ∷ decimal v ∷ []

abbrev mark_words : ℕ → List (List ℕ)
mark_words threshold = codes "mark" ∷ codes "refine" ∷ codes "where" ∷ codes "u" ∷ codes "above" ∷ decimal threshold ∷ []

abbrev advect_words : ℤ → ℤ → ℤ → List (List ℕ)
advect_words x y z = codes "advect" ∷ codes "u" ∷ signed_decimal x ∷ signed_decimal y ∷ signed_decimal z ∷ []

abbrev induct_words : ℤ → ℤ → ℤ → List (List ℕ)
induct_words x y z = codes "induct" ∷ signed_decimal x ∷ signed_decimal y ∷ signed_decimal z ∷ []

-- WHAT THE LINES SAY

fill_box_says : (a b c v : ℕ) → a < 28 → b < 28 → c < 28 → v ≤ 2 ^ 40 → fill_box declared (box_words a b c v) ≡ Ok (FillBox 0 0 (a ∷ b ∷ c ∷ []) ((a + 4) ∷ (b + 4) ∷ (c + 4) ∷ []) (pos v))
unfolding fill_box point fixed is_box
fill_box_says a b c v ha hb hc hv =
    let low_a = count_decimal 65536 a (omega arith) (omega arith) in
    let low_b = count_decimal 65536 b (omega arith) (omega arith) in
    let low_c = count_decimal 65536 c (omega arith) (omega arith) in
    let high_a = count_decimal 65536 (a + 4) (omega arith) (omega arith) in
    let high_b = count_decimal 65536 (b + 4) (omega arith) (omega arith) in
    let high_c = count_decimal 65536 (c + 4) (omega arith) (omega arith) in
    let content = number_decimal (2 ^ 40) v hv (omega arith) in
    let fits : ((nat_lt a (a + 4) && nat_le (a + 4) 32) && (nat_lt b (b + 4) && nat_le (b + 4) 32) && (nat_lt c (c + 4) && nat_le (c + 4) 32)) ≡ true = grind (arith, nat_tests) in
    rw (u_is_first, level_zero, low_a, low_b, low_c, high_a, high_b, high_c, content, fits) refl

box_says : (a b c v : ℕ) → a < 28 → b < 28 → c < 28 → v ≤ 2 ^ 40 → line_of (known false) (box_words a b c v) ≡ Ok (known true, Some (FillBox 0 0 (a ∷ b ∷ c ∷ []) ((a + 4) ∷ (b + 4) ∷ (c + 4) ∷ []) (pos v)))
unfolding line_of command_of keyword_of declaration_of setting_of placed says acts fill
box_says a b c v ha hb hc hv = rw (fill_box_says a b c v ha hb hc hv) refl

edge_block : (p q v : ℕ) → p ≤ 65536 → q ≤ 65536 → block (edge_words p q v) 2 ≡ Ok (record { level = 0; x = p; y = q; z = 5 })
unfolding block
edge_block p q v hp hq =
    let x = count_decimal 65536 p hp (omega arith) in
    let y = count_decimal 65536 q hq (omega arith) in
    rw (level_zero, x, y, count_five) refl

edge_says : (p q v : ℕ) → p ≤ 65536 → q ≤ 65536 → v ≤ 2 ^ 40 → line_of (known true) (edge_words p q v) ≡ Ok (known true, Some (EdgeSet (record { axis = Z; level = 0; x = p; y = q; z = 5 }) (pos v)))
unfolding line_of command_of keyword_of declaration_of setting_of placed says acts edgeset axis
edge_says p q v hp hq hv =
    let content = number_decimal (2 ^ 40) v hv (omega arith) in
    rw (edge_block p q v hp hq, content) refl

mark_says : (threshold : ℕ) → threshold ≤ 2 ^ 40 → line_of (known true) (mark_words threshold) ≡ Ok (known true, Some (RefineWhere 0 (pos threshold)))
unfolding line_of command_of keyword_of declaration_of setting_of placed says acts mark refine_where fixed
mark_says threshold h =
    let above = number_decimal (2 ^ 40) threshold h (omega arith) in
    rw (u_is_first, above) refl

-- three speeds among the words
speeds_from : (words : List (List ℕ)) (i : ℕ) (x y z : ℤ) → word words i ≡ signed_decimal x → word words (i + 1) ≡ signed_decimal y → word words (i + 2) ≡ signed_decimal z → mag x < 30001 → mag y < 30001 → mag z < 30001 → numbers (2 ^ 20) words i ≡ Ok (x ∷ y ∷ z ∷ [])
unfolding numbers
speeds_from words i x y z wx wy wz hx hy hz =
    let nx = number_signed (2 ^ 20) x (omega arith) (omega arith) in
    let ny = number_signed (2 ^ 20) y (omega arith) (omega arith) in
    let nz = number_signed (2 ^ 20) z (omega arith) (omega arith) in
    rw (wx, wy, wz, nx, ny, nz) refl

advect_says : (x y z : ℤ) → mag x < 30001 → mag y < 30001 → mag z < 30001 → line_of (known true) (advect_words x y z) ≡ Ok (known true, Some (Advect 0 (x ∷ y ∷ z ∷ [])))
unfolding line_of command_of keyword_of declaration_of setting_of step_of placed says acts advect
advect_says x y z hx hy hz = rw (u_is_first, speeds_from (advect_words x y z) 2 x y z refl refl refl hx hy hz) refl

induct_says : (x y z : ℤ) → mag x < 30001 → mag y < 30001 → mag z < 30001 → line_of (known true) (induct_words x y z) ≡ Ok (known true, Some (Induct (x ∷ y ∷ z ∷ [])))
unfolding line_of command_of keyword_of declaration_of setting_of step_of placed says acts induct
induct_says x y z hx hy hz = rw (speeds_from (induct_words x y z) 1 x y z refl refl refl hx hy hz) refl

-- THE PARTS

fixed_word : (w : List ℕ) → (is_filled w && lacks is_gap w && lacks is_line_end w && nat_le (length w) 23) ≡ true → IsWord w
fixed_word w test =
    let all = and_parts (is_filled w && lacks is_gap w && lacks is_line_end w) (nat_le (length w) 23) test in
    let three = and_parts (is_filled w && lacks is_gap w) (lacks is_line_end w) all.0 in
    let two = and_parts (is_filled w) (lacks is_gap w) three.0 in
    record { filled = two.0; gapless = two.1; inline = three.1; short = grind (arith, nat_tests, all.1) }

box_reads : (a b c v : ℕ) → a < 28 → b < 28 → c < 28 → v < 2 ^ 40 → Reads (join_with_byte 32 (codes "fill u box 0" ∷ decimal a ∷ decimal b ∷ decimal c ∷ decimal (a + 4) ∷ decimal (b + 4) ∷ decimal (c + 4) ∷ decimal v ∷ [])) (box_words a b c v)
box_reads a b c v ha hb hc hv =
    next_word (codes "fill") _ _ (fixed_word (codes "fill") refl) (next_word (codes "u") _ _ (fixed_word (codes "u") refl) (next_word (codes "box") _ _ (fixed_word (codes "box") refl) (next_word (codes "0") _ _ (fixed_word (codes "0") refl)
    (next_word (decimal a) _ _ (decimal_word a (omega arith)) (next_word (decimal b) _ _ (decimal_word b (omega arith)) (next_word (decimal c) _ _ (decimal_word c (omega arith))
    (next_word (decimal (a + 4)) _ _ (decimal_word (a + 4) (omega arith)) (next_word (decimal (b + 4)) _ _ (decimal_word (b + 4) (omega arith)) (next_word (decimal (c + 4)) _ _ (decimal_word (c + 4) (omega arith))
    (last_word (decimal v) (decimal_word v (omega arith))))))))))))

edge_reads : (p q v : ℕ) → p < 2 ^ 40 → q < 2 ^ 40 → v < 2 ^ 40 → Reads (join_with_byte 32 (codes "edgeset z 0" ∷ decimal p ∷ decimal q ∷ codes "5" ∷ decimal v ∷ [])) (edge_words p q v)
edge_reads p q v hp hq hv =
    next_word (codes "edgeset") _ _ (fixed_word (codes "edgeset") refl) (next_word (codes "z") _ _ (fixed_word (codes "z") refl) (next_word (codes "0") _ _ (fixed_word (codes "0") refl)
    (next_word (decimal p) _ _ (decimal_word p (omega arith)) (next_word (decimal q) _ _ (decimal_word q (omega arith)) (next_word (codes "5") _ _ (fixed_word (codes "5") refl)
    (last_word (decimal v) (decimal_word v (omega arith))))))))

mark_reads : (threshold : ℕ) → threshold < 2 ^ 40 → Reads (join_with_byte 32 (codes "mark refine where u above" ∷ decimal threshold ∷ [])) (mark_words threshold)
mark_reads threshold h =
    next_word (codes "mark") _ _ (fixed_word (codes "mark") refl) (next_word (codes "refine") _ _ (fixed_word (codes "refine") refl) (next_word (codes "where") _ _ (fixed_word (codes "where") refl) (next_word (codes "u") _ _ (fixed_word (codes "u") refl) (next_word (codes "above") _ _ (fixed_word (codes "above") refl)
    (last_word (decimal threshold) (decimal_word threshold (omega arith)))))))

speeds_read : (x y z : ℤ) → mag x < 30001 → mag y < 30001 → mag z < 30001 → Reads (join_with_byte 32 (signed_decimal x ∷ signed_decimal y ∷ signed_decimal z ∷ [])) (signed_decimal x ∷ signed_decimal y ∷ signed_decimal z ∷ [])
speeds_read x y z hx hy hz =
    next_word (signed_decimal x) _ _ (signed_word x (omega arith)) (next_word (signed_decimal y) _ _ (signed_word y (omega arith)) (last_word (signed_decimal z) (signed_word z (omega arith))))

advect_reads : (x y z : ℤ) → mag x < 30001 → mag y < 30001 → mag z < 30001 → Reads (join_with_byte 32 (codes "advect u" ∷ signed_decimal x ∷ signed_decimal y ∷ signed_decimal z ∷ [])) (advect_words x y z)
advect_reads x y z hx hy hz = next_word (codes "advect") _ _ (fixed_word (codes "advect") refl) (next_word (codes "u") _ _ (fixed_word (codes "u") refl) (speeds_read x y z hx hy hz))

induct_reads : (x y z : ℤ) → mag x < 30001 → mag y < 30001 → mag z < 30001 → Reads (join_with_byte 32 (codes "induct" ∷ signed_decimal x ∷ signed_decimal y ∷ signed_decimal z ∷ [])) (induct_words x y z)
induct_reads x y z hx hy hz = next_word (codes "induct") _ _ (fixed_word (codes "induct") refl) (speeds_read x y z hx hy hz)

-- A ROUND

reports_then : (k : ℕ) (rest : List ℕ) → Accepts k (known true) rest → Accepts (k + 300 + 300 + 300 + 300 + 300) (known true) (codes "total u\nnetflux\nprint size\nmark derefine where u below 1\nregrid\n" ++ rest)
unfolding words_of line_of command_of keyword_of declaration_of setting_of step_of report_of placed says acts total print print_one mark derefine_where cell_variable fixed number number_of
reports_then k rest next =
    fixed_line _ (known true) (known true) _ (codes "total u") _ refl refl
    (fixed_line _ (known true) (known true) _ (codes "netflux") _ refl refl
    (fixed_line _ (known true) (known true) _ (codes "print size") _ refl refl
    (fixed_line _ (known true) (known true) _ (codes "mark derefine where u below 1") _ refl refl
    (fixed_line k (known true) (known true) _ (codes "regrid") rest refl refl next))))

regrid_then : (k : ℕ) (rest : List ℕ) → Accepts k (known true) rest → Accepts (k + 300) (known true) (codes "regrid\n" ++ rest)
unfolding words_of line_of command_of keyword_of declaration_of setting_of step_of placed says acts
regrid_then k rest next = fixed_line k (known true) (known true) _ (codes "regrid") rest refl refl next

five_parts : (a b c d e t : List ℕ) → (a ++ b ++ c ++ d ++ e) ++ t ≡ a ++ (b ++ (c ++ (d ++ (e ++ t))))
five_parts a b c d e t = simp append_assoc

round_then : (k threshold : ℕ) (x y z : ℤ) (rest : List ℕ) → threshold < 2 ^ 40 → mag x < 30001 → mag y < 30001 → mag z < 30001 → Accepts k (known true) rest → Accepts (k + 2700) (known true) (round threshold x y z ++ rest)
round_then k threshold x y z rest ht hx hy hz next =
    let speeds = signed_decimal x ∷ signed_decimal y ∷ signed_decimal z ∷ [] in
    let mark = line (codes "mark refine where u above" ∷ decimal threshold ∷ []) in
    let advect = line (codes "advect u" ∷ speeds) in
    let induct = line (codes "induct" ∷ speeds) in
    let reports = codes "total u\nnetflux\nprint size\nmark derefine where u below 1\nregrid\n" in
    let reported = reports_then k rest next in
    let inducted = line_then _ (known true) (known true) _ (codes "induct" ∷ speeds) (induct_words x y z) (reports ++ rest) (induct_reads x y z hx hy hz) (omega arith) (induct_says x y z hx hy hz) reported in
    let advected = line_then _ (known true) (known true) _ (codes "advect u" ∷ speeds) (advect_words x y z) (induct ++ (reports ++ rest)) (advect_reads x y z hx hy hz) (omega arith) (advect_says x y z hx hy hz) inducted in
    let again = regrid_then _ (advect ++ (induct ++ (reports ++ rest))) advected in
    let marked = line_then _ (known true) (known true) _ (codes "mark refine where u above" ∷ decimal threshold ∷ []) (mark_words threshold) (codes "regrid\n" ++ (advect ++ (induct ++ (reports ++ rest)))) (mark_reads threshold ht) (omega arith) (mark_says threshold (omega arith)) again in
    let all = same_bytes _ (known true) _ _ (five_parts mark (codes "regrid\n") advect induct reports rest) marked in
    record { read = all.read; short = omega (arith, all.short) }

-- THE SAMPLE

sample_parts : (seed : ℕ) → sample seed ≡ declarations ++ (start seed ++ (round_after 800 seed 7 ++ (round_after 100 seed 10 ++ (round_after 12 seed 13 ++ codes "end\n"))))
unfolding sample
sample_parts seed =
    let first = round_after 800 seed 7 in
    let second = round_after 100 seed 10 in
    let third = round_after 12 seed 13 in
    let end = codes "end\n" in
    append_assoc (declarations ++ start seed ++ first ++ second) third end
    ∙ append_assoc (declarations ++ start seed ++ first) second (third ++ end)
    ∙ append_assoc (declarations ++ start seed) first (second ++ (third ++ end))
    ∙ append_assoc declarations (start seed) (first ++ (second ++ (third ++ end)))

small_either : (test : Bool) (x y : ℕ) → x < 30001 → y < 30001 → mag (cond test (negsuc x) (pos y)) < 30001
small_either true x y hx hy = hx
small_either false x y hx hy = hy

speed_small : (d : ℕ) → mag (speed d) < 30001
speed_small d = small_either _ (30000 - suc (d % 60001)) (d % 60001 - 30000) (omega arith) (omega arith)

next_round_then : (k threshold seed i : ℕ) (rest : List ℕ) → threshold < 2 ^ 40 → Accepts k (known true) rest → Accepts (k + 2700) (known true) (round_after threshold seed i ++ rest)
next_round_then k threshold seed i rest h next = round_then k threshold _ _ _ rest h (speed_small (draw seed (i + 1))) (speed_small (draw seed (i + 2))) (speed_small (draw seed (i + 3))) next

curl_then : (k : ℕ) (rest : List ℕ) → Accepts k (known true) rest → Accepts (k + 300) (known true) (codes "curl\n" ++ rest)
unfolding words_of line_of command_of keyword_of declaration_of setting_of step_of placed says acts
curl_then k rest next = fixed_line k (known true) (known true) _ (codes "curl") rest refl refl next

three_parts : (a b c t : List ℕ) → (a ++ (b ++ c)) ++ t ≡ a ++ (b ++ (c ++ t))
three_parts a b c t = simp append_assoc

start_then : (k seed : ℕ) (rest : List ℕ) → Accepts k (known true) rest → Accepts (k + 900) (known false) (start seed ++ rest)
start_then k seed rest next =
    let a = corner (draw seed 1) in
    let b = corner (draw seed 2) in
    let c = corner (draw seed 3) in
    let content = 1000 + draw seed 4 in
    let p = position (draw seed 5) in
    let q = position (draw seed 6) in
    let value = 1000 + draw seed 7 in
    let low_a : a < 28 = mod_below (draw seed 1) 28 (omega arith) in
    let low_b : b < 28 = mod_below (draw seed 2) 28 (omega arith) in
    let low_c : c < 28 = mod_below (draw seed 3) 28 (omega arith) in
    let low_p : p < 65536 = omega (arith, mod_below (draw seed 5) 16 (omega arith)) in
    let low_q : q < 65536 = omega (arith, mod_below (draw seed 6) 16 (omega arith)) in
    let content_small : content < 66537 = omega (arith, draw_below seed 4) in
    let value_small : value < 66537 = omega (arith, draw_below seed 7) in
    let box_parts = codes "fill u box 0" ∷ decimal a ∷ decimal b ∷ decimal c ∷ decimal (a + 4) ∷ decimal (b + 4) ∷ decimal (c + 4) ∷ decimal content ∷ [] in
    let edge_parts = codes "edgeset z 0" ∷ decimal p ∷ decimal q ∷ codes "5" ∷ decimal value ∷ [] in
    let ring = line edge_parts in
    let curled = curl_then k rest next in
    let looped = line_then _ (known true) (known true) _ edge_parts (edge_words p q value) (codes "curl\n" ++ rest) (edge_reads p q value (omega arith) (omega arith) (omega arith)) (omega arith) (edge_says p q value (omega arith) (omega arith) (omega arith)) curled in
    let filled = line_then _ (known false) (known true) _ box_parts (box_words a b c content) (ring ++ (codes "curl\n" ++ rest)) (box_reads a b c content low_a low_b low_c (omega arith)) (omega arith) (box_says a b c content low_a low_b low_c (omega arith)) looped in
    let all = same_bytes _ (known false) _ _ (three_parts (box a b c content) ring (codes "curl\n") rest) filled in
    record { read = all.read; short = omega (arith, all.short) }

declared_then : (k : ℕ) (rest : List ℕ) → Accepts k (known false) rest → Accepts (k + 300 + 300 + 300 + 300 + 300 + 300 + 300) (at_start None) (declarations ++ rest)
unfolding words_of line_of command_of keyword_of declaration_of placed says declares domain cells bounds levels cellvar facevar edgevar count one_of side number_of new_name is_name is_taken
declared_then k rest next =
    fixed_line _ (at_start None) _ _ (codes "domain 4 4 4") _ refl refl
    (fixed_line _ _ _ _ (codes "cells 8 2") _ refl refl
    (fixed_line _ _ _ _ (codes "bounds periodic periodic outflow outflow closed closed") _ refl refl
    (fixed_line _ _ _ _ (codes "levels 0 3") _ refl refl
    (fixed_line _ _ _ _ (codes "cellvar u") _ refl refl
    (fixed_line _ _ _ _ (codes "facevar b") _ refl refl
    (fixed_line k _ (known false) _ (codes "edgevar e") rest refl refl next))))))

at_end : Accepts 300 (known true) (codes "end\n")
unfolding words_of line_of command_of keyword_of declaration_of setting_of step_of report_of placed says lines_of
at_end = fixed_line 0 (known true) (record (known true) { ended = true }) None (codes "end") [] refl refl (record { read = λ n. ((record (known true) { ended = true }, []), refl, refl); short = omega arith })

accepted : (k : ℕ) (bytes : List ℕ) → k ≤ 2 ^ 20 → Accepts k (at_start None) bytes → (s : PlainScript) × (script_of None bytes ≡ Ok s)
unfolding script_of
accepted k bytes h a =
    let read = a.read 1 in
    let short : nat_lt (2 ^ 20) (length bytes) ≡ false = grind (arith, nat_tests, a.short) in
    (record { declared = read.0.0.declared; lines = read.0.1 }, rw (short, read.1, read.2) refl)

pub sample_accepted : (seed : ℕ) → (s : PlainScript) × (script_of None (sample seed) ≡ Ok s)
sample_accepted seed =
    let end = codes "end\n" in
    let third = next_round_then _ 12 seed 13 end (omega arith) at_end in
    let second = next_round_then _ 100 seed 10 (round_after 12 seed 13 ++ end) (omega arith) third in
    let first = next_round_then _ 800 seed 7 (round_after 100 seed 10 ++ (round_after 12 seed 13 ++ end)) (omega arith) second in
    let started = start_then _ seed (round_after 800 seed 7 ++ (round_after 100 seed 10 ++ (round_after 12 seed 13 ++ end))) first in
    let all = declared_then _ (start seed ++ (round_after 800 seed 7 ++ (round_after 100 seed 10 ++ (round_after 12 seed 13 ++ end)))) started in
    accepted _ (sample seed) (omega arith) (same_bytes _ (at_start None) _ _ (sample_parts seed) all)
