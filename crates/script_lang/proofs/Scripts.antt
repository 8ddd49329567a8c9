-- What an accepted script is, and where the first fault is.
use Rattle.std.proofs.Common.{replicate, ◌≡◌, ℕ, zero, suc, ◌+◌, ◌^◌, ◌<◌, ◌⊎◌, inl, inr, Bool, true, false, not, ◌&&◌, ◌||◌, nat_lt, if◌then◌else◌, List, [], ◌∷◌, ◌++◌, Option, Some, None, Result, Ok, Err, IfSome, IsSome, is_none, length, take, get_or, count_by, All, Bor, refl, sym, ap, subst, ◌∙◌, arith}
use Rattle.std.proofs.lemmas.Bool.Decides.{nat_tests}
use Rattle.std.specs.Option.{option_copied}
use Rattle.amr_num.specs.declared.SideKind.TheVariants.{Periodic}
use Rattle.mesh_model.specs.declared.language.script.Action.{Action}
use Rattle.mesh_model.specs.declared.language.script.Declaration.{Declaration}
use Rattle.mesh_model.specs.declared.language.script.Declared.{Declared}
use Rattle.mesh_model.specs.declared.language.script.Keyword.{Keyword}
use Rattle.mesh_model.specs.declared.language.script.Keyword.TheVariants.{Declares, Acts, Ends}
use Rattle.mesh_model.specs.declared.language.script.Line.{Line}
use Rattle.mesh_model.specs.declared.language.script.Reading.{Reading}
use Rattle.mesh_model.specs.declared.language.script.Reason.{Reason}
use Rattle.mesh_model.specs.declared.language.script.Reason.TheVariants.{TooLong, DomainMissing, TooLate, Twice, WordCount, UnknownVariable, TextAfterEnd, UnknownCommand, EndMissing}
use Rattle.mesh_model.specs.Language.Commands.{PlainScript, InLimits, IsCommandOf, IsLineOf}
use Rattle.mesh_model.specs.Language.Forms.{found, check, ◌>>=◌}
use Rattle.mesh_model.specs.Language.Grammar.{Fault, Said, script_of, lines_say, line_of, says, acts, declares, command_of, placed, keyword_of, comes_again, is_domain, is_declaration, has_count, lacks_variable, wants_face, wants_edge, on_line, numbered, closed, at_start}
use Rattle.mesh_model.specs.Language.Words.{word, words_of, lines_of, is_passed_over, is_line_end}
use Rattle.script_lang.specs.Laws.{IsEndMissing, IsFirstFault}
use Rattle.script_lang.proofs.Acting.{Has, acts_fit}
use Rattle.script_lang.proofs.Declaring.{declares_within, by_axis}
use Rattle.script_lang.proofs.Steps.{bound, passed, same_value}

-- LINES

-- what a line that stands where it may tells
placed_says : (missing late repeated short lacking : Bool) (k j : Keyword) → (if missing then Err DomainMissing else if late then Err TooLate else if repeated then Err Twice else if short then Err WordCount else if lacking then Err UnknownVariable else Ok k) ≡ Ok j → (late ≡ false) × (lacking ≡ false) × (k ≡ j)
placed_says true late repeated short lacking k j h = absurd (cc)
placed_says false true repeated short lacking k j h = absurd (cc)
placed_says false false true short lacking k j h = absurd (cc)
placed_says false false false true lacking k j h = absurd (cc)
placed_says false false false false true k j h = absurd (cc)
placed_says false false false false false k j h = (refl, refl, same_value k j h)

record IsPlaced (r : Reading) (k : Keyword) : Type 0 where
  early : (is_declaration k && r.acting) ≡ false
  has : lacks_variable r.declared.names k ≡ false

placed_tells : (r : Reading) (k j : Keyword) (n : ℕ) → placed r k n ≡ Ok j → IsPlaced r j
unfolding placed
placed_tells r k j n h =
    let p = placed_says (not (r.domain || is_domain k)) (is_declaration k && r.acting) (comes_again r k) (not (has_count k n)) (lacks_variable r.declared.names k) k j h in
    subst (IsPlaced r) p.2 (record { early = p.0; has = p.1 })

command_case : (ended : Bool) (o : Option Keyword) (f : Keyword → Result Keyword Reason) (j : Keyword) → (if ended then Err TextAfterEnd else (found UnknownCommand o >>= f)) ≡ Ok j → (k : Keyword) × (f k ≡ Ok j)
command_case true o f j h = absurd (cc)
command_case false o f j h = let k = bound (found UnknownCommand o) f j h in (k.0, k.2)

command_tells : (r : Reading) (ws : List (List ℕ)) (j : Keyword) → command_of r ws ≡ Ok j → IsPlaced r j
unfolding command_of
command_tells r ws j h =
    let k = command_case r.ended (keyword_of (word ws 0)) (λ k. placed r k (length ws)) j h in
    placed_tells r k.0 j (length ws) k.1

not_late : (r : Reading) (d : Declaration) (ws : List (List ℕ)) → r.acting ≡ true → command_of r ws ≡ Ok (Declares d) → ⊥
not_late r d ws acting h =
    let late : r.acting ≡ false = (command_tells r ws (Declares d) h).early in
    cc

wanted : (wants none : Bool) → (wants && none) ≡ false → wants ≡ true → none ≡ false
wanted true none h w = h
wanted false none h w = absurd (cc)

there : (o : Option (List ℕ)) → is_none o ≡ false → IsSome o
there (Some name) h = refl
there None h = absurd (cc)

neither : (a b : Bool) → (a || b) ≡ false → (a ≡ false) × (b ≡ false)
neither true b h = absurd (cc)
neither false b h = (refl, h)

has_wanted : (r : Reading) (a : Action) (ws : List (List ℕ)) → command_of r ws ≡ Ok (Acts a) → Has r.declared.names a
has_wanted r a ws h =
    let lacks = neither (wants_face a && is_none r.declared.names.face) (wants_edge a && is_none r.declared.names.edge) (command_tells r ws (Acts a) h).has in
    record {
      face = λ w. there r.declared.names.face (wanted (wants_face a) (is_none r.declared.names.face) lacks.0 w);
      edge = λ w. there r.declared.names.edge (wanted (wants_edge a) (is_none r.declared.names.edge) lacks.1 w);
    }

-- a line is passed over, or says what its command says
line_case : (over : Bool) (r : Reading) (m : Result Keyword Reason) (f : Keyword → Result Said Reason) (said : Said) → (if over then Ok (r, None) else (m >>= f)) ≡ Ok said → ((r, None) ≡ said) ⊎ ((k : Keyword) × (m ≡ Ok k) × (f k ≡ Ok said))
line_case true r m f said h = inl (same_value _ said h)
line_case false r m f said h = inr (bound m f said h)

line_says : (r : Reading) (ws : List (List ℕ)) (said : Said) → line_of r ws ≡ Ok said → ((r, None) ≡ said) ⊎ ((k : Keyword) × (command_of r ws ≡ Ok k) × (says r k ws ≡ Ok said))
unfolding line_of
line_says r ws said h = line_case (is_passed_over ws) r (command_of r ws) (λ k. says r k ws) said h

says_within : (r : Reading) (k : Keyword) (ws : List (List ℕ)) (said : Said) → InLimits r.declared → says r k ws ≡ Ok said → InLimits said.0.declared
unfolding says
says_within r (Declares d) ws said old h =
    let a = bound (declares r d ws) _ said h in
    subst (λ (u : Said). InLimits u.0.declared) (same_value _ said a.2) (declares_within r a.0 d ws old a.1)
says_within r (Acts a) ws said old h =
    let c = bound (acts r.declared a ws) _ said h in
    subst (λ (u : Said). InLimits u.0.declared) (same_value _ said c.2) old
says_within r Ends ws said old h = subst (λ (u : Said). InLimits u.0.declared) (same_value _ said h) old

line_within : (r : Reading) (ws : List (List ℕ)) (said : Said) → InLimits r.declared → line_of r ws ≡ Ok said → InLimits said.0.declared
line_within r ws said old h = elim (line_says r ws said h) [ inl e ↦ subst (λ (u : Said). InLimits u.0.declared) e old | inr w ↦ says_within r w.0 ws said old w.2 ]

-- after an action a line leaves the declarations as they are
pub record Keeps (r after : Reading) : Type 0 where
  pub declared : after.declared ≡ r.declared
  pub acting : after.acting ≡ true

says_keeps : (r : Reading) (k : Keyword) (ws : List (List ℕ)) (said : Said) → r.acting ≡ true → command_of r ws ≡ Ok k → says r k ws ≡ Ok said → Keeps r said.0
unfolding says
says_keeps r (Declares d) ws said acting c h = absurd (not_late r d ws acting c)
says_keeps r (Acts a) ws said acting c h =
    let x = bound (acts r.declared a ws) _ said h in
    subst (λ (u : Said). Keeps r u.0) (same_value _ said x.2) (record { declared = refl; acting = refl })
says_keeps r Ends ws said acting c h = subst (λ (u : Said). Keeps r u.0) (same_value _ said h) (record { declared = refl; acting = acting })

line_keeps : (r : Reading) (ws : List (List ℕ)) (said : Said) → r.acting ≡ true → line_of r ws ≡ Ok said → Keeps r said.0
line_keeps r ws said acting h = elim (line_says r ws said h) [ inl e ↦ subst (λ (u : Said). Keeps r u.0) e (record { declared = refl; acting = acting }) | inr w ↦ says_keeps r w.0 ws said acting w.1 w.2 ]

-- a command fits the declarations before it, and is an action
abbrev Fits : Reading → Said → Type 0
Fits r said = IfSome said.1 (λ c. IsCommandOf r.declared c × (said.0.declared ≡ r.declared) × (said.0.acting ≡ true))

says_fits : (r : Reading) (k : Keyword) (ws : List (List ℕ)) (said : Said) → command_of r ws ≡ Ok k → says r k ws ≡ Ok said → Fits r said
unfolding says
says_fits r (Declares d) ws said k h =
    let x = bound (declares r d ws) _ said h in
    subst (Fits r) (same_value _ said x.2) tt
says_fits r (Acts a) ws said k h =
    let x = bound (acts r.declared a ws) _ said h in
    subst (Fits r) (same_value _ said x.2) (acts_fit r.declared a ws x.0 (has_wanted r a ws k) x.1, refl, refl)
says_fits r Ends ws said k h = subst (Fits r) (same_value _ said h) tt

line_fits : (r : Reading) (ws : List (List ℕ)) (said : Said) → line_of r ws ≡ Ok said → Fits r said
line_fits r ws said h = elim (line_says r ws said h) [ inl e ↦ subst (Fits r) e tt | inr w ↦ says_fits r w.0 ws said w.1 w.2 ]

-- SCRIPTS

on_line_says : {A : Type 0} (n : ℕ) (m : Result A Reason) (x : A) → on_line n m ≡ Ok x → m ≡ Ok x
on_line_says n (Ok y) x h = ap Ok (same_value y x h)
on_line_says n (Err e) x h = absurd (cc)

-- what the first of several lines says, and what the others say after it
pub record First (r : Reading) (n : ℕ) (line : List ℕ) (lines : List (List ℕ)) (read : Reading × List Line) : Type 0 where
  pub said : Said
  pub more : List Line
  pub line_says : line_of r (words_of line) ≡ Ok said
  pub lines_say : lines_say said.0 (n + 1) lines ≡ Ok (read.0, more)
  pub lines_are : numbered n said.1 ++ more ≡ read.1

first : (r : Reading) (n : ℕ) (line : List ℕ) (lines : List (List ℕ)) (read : Reading × List Line) → lines_say r n (line ∷ lines) ≡ Ok read → First r n line lines read
first r n line lines read h =
    let a = bound (on_line n (line_of r (words_of line))) _ read h in
    let b = bound (lines_say a.0.0 (n + 1) lines) _ read a.2 in
    let e = same_value _ read b.2 in
    record { said = a.0; more = b.0.1; line_says = on_line_says n (line_of r (words_of line)) a.0 a.1; lines_say = b.1 ∙ ap (λ (u : Reading × List Line). Ok (u.0, b.0.1)) e; lines_are = ap (λ (u : Reading × List Line). u.1) e }

lines_within : (lines : List (List ℕ)) (r : Reading) (n : ℕ) (read : Reading × List Line) → InLimits r.declared → lines_say r n lines ≡ Ok read → InLimits read.0.declared
lines_within [] r n read old h = subst (λ (u : Reading × List Line). InLimits u.0.declared) (same_value _ read h) old
lines_within (line ∷ lines) r n read old h =
    let f = first r n line lines read h in
    lines_within lines f.said.0 (n + 1) (read.0, f.more) (line_within r (words_of line) f.said old f.line_says) f.lines_say

lines_keep : (lines : List (List ℕ)) (r : Reading) (n : ℕ) (read : Reading × List Line) → r.acting ≡ true → lines_say r n lines ≡ Ok read → read.0.declared ≡ r.declared
lines_keep [] r n read acting h = ap (λ (u : Reading × List Line). u.0.declared) (sym (same_value _ read h))
lines_keep (line ∷ lines) r n read acting h =
    let f = first r n line lines read h in
    let k = line_keeps r (words_of line) f.said acting f.line_says in
    lines_keep lines f.said.0 (n + 1) (read.0, f.more) k.acting f.lines_say ∙ k.declared

all_none : {A : Type 0} (P : A → Type 0) → All P []
all_none P k d h = absurd (omega arith)

all_one : {A : Type 0} (P : A → Type 0) (x : A) (xs : List A) → P x → All P xs → All P (x ∷ xs)
all_one P x xs p ps zero d h = p
all_one P x xs p ps (suc k) d h = ps k d (omega arith)

with_numbered : (r last : Reading) (n : ℕ) (said : Said) (more : List Line) → Fits r said → (said.0.acting ≡ true → last.declared ≡ said.0.declared) → All (IsLineOf last.declared) more → All (IsLineOf last.declared) (numbered n said.1 ++ more)
with_numbered r last n (after, None) more fits kept rest = rest
with_numbered r last n (after, Some c) more fits kept rest = all_one (IsLineOf last.declared) (record { number = n; command = c }) more (subst (λ (d : Declared). IsCommandOf d c) (sym (kept fits.2 ∙ fits.1)) fits.0) rest

lines_fit : (lines : List (List ℕ)) (r : Reading) (n : ℕ) (read : Reading × List Line) → lines_say r n lines ≡ Ok read → All (IsLineOf read.0.declared) read.1
lines_fit [] r n read h = subst (λ (u : Reading × List Line). All (IsLineOf u.0.declared) u.1) (same_value _ read h) (all_none _)
lines_fit (line ∷ lines) r n read h =
    let f = first r n line lines read h in
    subst (λ (ls : List Line). All (IsLineOf read.0.declared) ls) f.lines_are (with_numbered r read.0 n f.said f.more (line_fits r (words_of line) f.said f.line_says) (λ acting. lines_keep lines f.said.0 (n + 1) (read.0, f.more) acting f.lines_say) (lines_fit lines f.said.0 (n + 1) (read.0, f.more) f.lines_say))

starts_within : (given : Option Declared) → IfSome given InLimits → InLimits (at_start given).declared
starts_within (Some d) within = within
starts_within None within = record {
  shape = record {
    rx = omega arith;
    ry = omega arith;
    rz = omega arith;
    few_x = omega arith;
    few_y = omega arith;
    few_z = omega arith;
    cells = inr refl;
    guards = inr (inl refl);
    min = omega arith;
    max = omega arith;
    six = refl;
    both = by_axis (replicate 6 Periodic) refl refl refl;
  };
  names = record { few = omega arith; cells = all_none _; face = tt; edge = tt };
  different = record { cells = λ i j d lt within. absurd (omega arith); face = tt; edge = tt; both = tt };
}

-- the lines of an accepted script were read
script_case : (long : Bool) (n : ℕ) (m : Result (Reading × List Line) Fault) (s : PlainScript) (fault : Fault) → (if long then Err fault else (m >>= closed n)) ≡ Ok s → (read : Reading × List Line) × (m ≡ Ok read) × (record { declared = read.0.declared; lines = read.1 } ≡ s)
script_case true n m s fault h = absurd (cc)
script_case false n m s fault h =
    let r = bound m (closed n) s h in
    (r.0, r.1, (passed r.0.0.ended EndMissing (record { declared = r.0.0.declared; lines = r.0.1 }) s (on_line_says n _ s r.2)).1)

read_lines : (given : Option Declared) (bytes : List ℕ) (s : PlainScript) → script_of given bytes ≡ Ok s → (read : Reading × List Line) × (lines_say (at_start given) 1 (lines_of bytes) ≡ Ok read) × (record { declared = read.0.declared; lines = read.1 } ≡ s)
unfolding script_of
read_lines given bytes s h = script_case _ _ (lines_say (at_start given) 1 (lines_of bytes)) s _ h

-- an accepted script's declarations are within the limits
pub script_in_limits : (given : Option Declared) (bytes : List ℕ) (s : PlainScript) → IfSome given InLimits → script_of given bytes ≡ Ok s → InLimits s.declared
script_in_limits given bytes s within h =
    let r = read_lines given bytes s h in
    subst (λ (u : PlainScript). InLimits u.declared) r.2 (lines_within (lines_of bytes) (at_start given) 1 r.0 (starts_within given within) r.1)

-- where the declarations are given, they are these
pub script_keeps : (d : Declared) (bytes : List ℕ) (s : PlainScript) → script_of (Some d) bytes ≡ Ok s → s.declared ≡ d
script_keeps d bytes s h =
    let r = read_lines (Some d) bytes s h in
    ap (λ (u : PlainScript). u.declared) (sym r.2) ∙ lines_keep (lines_of bytes) (at_start (Some d)) 1 r.0 refl r.1

-- its commands fit its declarations
pub script_fits : (given : Option Declared) (bytes : List ℕ) (s : PlainScript) → script_of given bytes ≡ Ok s → All (IsLineOf s.declared) s.lines
script_fits given bytes s h =
    let r = read_lines given bytes s h in
    subst (λ (u : PlainScript). All (IsLineOf u.declared) u.lines) r.2 (lines_fit (lines_of bytes) (at_start given) 1 r.0 r.1)

pub given_within : (given : Option (Bor Declared)) → IfSome given (λ d. InLimits d.now) → IfSome (option_copied given) InLimits
given_within None within = tt
given_within (Some d) within = within

-- FAULTS

same_fault : {A E : Type 0} (x y : E) → ◌≡◌ {A = Result A E} (Err x) (Err y) → x ≡ y
same_fault x y h = cc

-- the first faulty one of some lines
record FirstOf (r : Reading) (n : ℕ) (lines : List (List ℕ)) (f : Fault) : Type 0 where
  k : ℕ
  before : Reading
  commands : List Line
  line : f.line ≡ n + k
  there : k < length lines
  faultless : lines_say r n (take k lines) ≡ Ok (before, commands)
  faulty : line_of before (words_of (get_or lines k [])) ≡ Err f.reason

-- the commands of a line before those of the lines after it
abbrev joined : ℕ → Said → Reading × List Line → Result (Reading × List Line) Fault
joined n said rest = Ok (rest.0, numbered n said.1 ++ rest.1)

on_first : (r : Reading) (n : ℕ) (line : List ℕ) (lines : List (List ℕ)) (f : Fault) (m : Result Said Reason) → line_of r (words_of line) ≡ m → ((said : Said) → m ≡ Ok said → (lines_say said.0 (n + 1) lines ≡ Err f) → FirstOf said.0 (n + 1) lines f) → (on_line n m >>= (λ said. lines_say said.0 (n + 1) lines >>= joined n said)) ≡ Err f → FirstOf r n (line ∷ lines) f
on_first r n line lines f (Err reason) e later h =
    let is : record { line = n; reason = reason } ≡ f = same_fault _ f h in
    record {
      k = 0;
      before = r;
      commands = [];
      line = sym (ap (λ (u : Fault). u.line) is) ∙ omega arith;
      there = omega arith;
      faultless = refl;
      faulty = e ∙ ap (λ (u : Fault). Err u.reason) is;
    }
on_first r n line lines f (Ok said) e later h =
    let l = later said refl (from_rest (lines_say said.0 (n + 1) lines) f h) in
    record {
      k = suc l.k;
      before = l.before;
      commands = numbered n said.1 ++ l.commands;
      line = l.line ∙ omega arith;
      there = omega (arith, l.there);
      faultless = one_on r n line (take l.k lines) said l.before l.commands e l.faultless;
      faulty = l.faulty;
    }
  where
    from_rest : (rest : Result (Reading × List Line) Fault) (f : Fault) → (rest >>= joined n said) ≡ Err f → rest ≡ Err f
    from_rest (Ok x) f h = absurd (cc)
    from_rest (Err g) f h = ap Err (same_fault g f h)

    one_on : (r : Reading) (n : ℕ) (line : List ℕ) (lines : List (List ℕ)) (said : Said) (before : Reading) (commands : List Line) → line_of r (words_of line) ≡ Ok said → lines_say said.0 (n + 1) lines ≡ Ok (before, commands) → lines_say r n (line ∷ lines) ≡ Ok (before, numbered n said.1 ++ commands)
    one_on r n line lines said before commands e g = rw (e, g) refl

first_of : (lines : List (List ℕ)) (r : Reading) (n : ℕ) (f : Fault) → lines_say r n lines ≡ Err f → FirstOf r n lines f
first_of [] r n f h = absurd (cc)
first_of (line ∷ lines) r n f h = on_first r n line lines f (line_of r (words_of line)) refl (λ said e g. first_of lines said.0 (n + 1) f g) h

-- the script of what was read
abbrev made : Reading × List Line → PlainScript
made read = record { declared = read.0.declared; lines = read.1 }

fault_case : (long : Bool) (given : Option Declared) (bytes : List ℕ) (f : Fault) (m : Result (Reading × List Line) Fault) → nat_lt (2 ^ 20) (length bytes) ≡ long → lines_say (at_start given) 1 (lines_of bytes) ≡ m → (if long then Err (record { line = 0; reason = TooLong }) else (m >>= closed (count_by is_line_end bytes + 1))) ≡ Err f → IsFirstFault given bytes f
fault_case true given bytes f m long read h = inl (record { long = grind (arith, nat_tests); fault = sym (same_fault _ f h) })
fault_case false given bytes f (Err g) short read h =
    let l = first_of (lines_of bytes) (at_start given) 1 f (read ∙ ap Err (same_fault g f h)) in
    inr (inl (record { n = l.k; before = l.before; commands = l.commands; line = l.line ∙ omega arith; there = l.there; faultless = l.faultless; faulty = l.faulty }))
fault_case false given bytes f (Ok last) short read h = inr (inr (end_case last.0.ended refl h))
  where
    end_case : (ended : Bool) → last.0.ended ≡ ended → on_line (count_by is_line_end bytes + 1) (check ended EndMissing (made last)) ≡ Err f → IsEndMissing given bytes f
    end_case true is h = absurd (cc)
    end_case false is h = record { last = last.0; commands = last.1; faultless = read; open_ended = is; fault = sym (same_fault _ f h) }

-- no line before the line of a fault is faulty
pub faults_first : (given : Option Declared) (bytes : List ℕ) (f : Fault) → script_of given bytes ≡ Err f → IsFirstFault given bytes f
unfolding script_of
faults_first given bytes f h = fault_case (nat_lt (2 ^ 20) (length bytes)) given bytes f (lines_say (at_start given) 1 (lines_of bytes)) refl refl h
