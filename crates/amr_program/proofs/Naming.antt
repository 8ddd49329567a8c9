-- Names within the limits of the language are those that an image may have.
use Rattle.std.proofs.Common.{◌≡◌, ◌≢◌, ℕ, zero, suc, Bool, true, false, not, List, [], ◌∷◌, ◌++◌, length, get_or, Option, Some, None, IfSome, All, AllPairs, option_to_list, bytes_eq, refl, sym, ap, subst, ◌∙◌, arith, append-nil, length-append}
use Rattle.std.specs.List.{AllByRecursion, list_any}
use Rattle.std.proofs.lemmas.Bool.{and_from, and_parts}
use Rattle.std.proofs.lemmas.List.Elements.{All-from_recursion, recursion_from_All, All-append}
use Rattle.std.proofs.lemmas.List.Folds.{list_any_at, list_any_none}
use Rattle.std.proofs.lemmas.List.Quantifiers.{all_pairs_push}
use Rattle.std.proofs.lemmas.List.{get_or_append_left}
use Rattle.std.proofs.Math.Seq.{get_or-append_seam}
use Rattle.std.proofs.lemmas.Slice.Eq.{bytes_eq-Decides}
use Rattle.mesh_model.specs.Fields.VariableNames.{VariableNames}
use Rattle.mesh_model.specs.Images.Reading.{NamesFit, all_differ}
use Rattle.mesh_model.specs.Language.Commands.{AreDifferent, AreNames}
use Rattle.mesh_model.specs.Language.Words.{is_name}

abbrev Differ : List ℕ → List ℕ → Type 0
Differ a b = a ≢ b

unequal : (a b : List ℕ) → a ≢ b → bytes_eq a b ≡ false
unequal a b differ = by_case (bytes_eq a b) refl
  where
    by_case : (t : Bool) → bytes_eq a b ≡ t → t ≡ false
    by_case true e = absurd (differ ((bytes_eq-Decides a b).0 e))
    by_case false e = refl

-- words that differ pairwise, and the test of it
to_differ : (ws : List (List ℕ)) → AllPairs Differ ws → all_differ ws ≡ true
to_differ [] pairs = refl
to_differ (w ∷ ws) pairs =
    and_from _ _ (ap not (list_any_none (bytes_eq w) ws (λ k d within. unequal w (get_or ws k d) (pairs zero (suc k) d (omega arith) (omega arith)))))
    (to_differ ws (λ i j d lt within. pairs (suc i) (suc j) d (omega arith) (omega arith)))

none_of : (b : Bool) → not b ≡ true → b ≡ false
none_of true h = cc h
none_of false h = refl

from_differ : (ws : List (List ℕ)) → all_differ ws ≡ true → AllPairs Differ ws
from_differ [] h i j d lt within = absurd (omega arith)
from_differ (w ∷ ws) h zero zero d lt within = absurd (omega arith)
from_differ (w ∷ ws) h zero (suc j) d lt within = λ same.
    let none : list_any (bytes_eq w) ws ≡ false = none_of _ (and_parts _ _ h).0 in
    let there = list_any_at (bytes_eq w) ws j d (omega arith) ((bytes_eq-Decides w (get_or ws j d)).1 same) in
    let odd : true ≡ false = sym there ∙ none in cc odd
from_differ (w ∷ ws) h (suc i) zero d lt within = absurd (omega arith)
from_differ (w ∷ ws) h (suc i) (suc j) d lt within = from_differ ws (and_parts _ _ h).1 i j d (omega arith) (omega arith)

-- the first of a list, and one after them
pairs_left : (xs ys : List (List ℕ)) → AllPairs Differ (xs ++ ys) → AllPairs Differ xs
pairs_left xs ys pairs i j d lt within =
    let both = length-append xs ys in
    subst (λ b. get_or xs i d ≢ b) (get_or_append_left xs ys d j within) (subst (λ a. a ≢ get_or (xs ++ ys) j d) (get_or_append_left xs ys d i (omega arith)) (pairs i j d lt (omega arith)))

pairs_seam : (xs : List (List ℕ)) (y : List ℕ) (ys : List (List ℕ)) → AllPairs Differ (xs ++ y ∷ ys) → All (λ x. x ≢ y) xs
pairs_seam xs y ys pairs k d within =
    let both = length-append xs (y ∷ ys) in
    subst (λ b. get_or xs k d ≢ b) (get_or-append_seam xs y ys d) (subst (λ a. a ≢ get_or (xs ++ y ∷ ys) (length xs) d) (get_or_append_left xs (y ∷ ys) d k within) (pairs k (length xs) d within (omega arith)))

pushed : (xs : List (List ℕ)) (y : List ℕ) → AllPairs Differ xs → All (λ x. x ≢ y) xs → AllPairs Differ (xs ++ y ∷ [])
pushed xs y pairs apart = all_pairs_push Differ xs y pairs (λ k d within. apart k d within)

one : (P : List ℕ → Type 0) (w : List ℕ) → P w → All P (w ∷ [])
one P w p zero d within = p
one P w p (suc k) d within = absurd (omega arith)

-- all names, one after another
differ_all : (cells : List (List ℕ)) (face edge : Option (List ℕ)) → AllPairs Differ cells → IfSome face (λ f. All (λ c. c ≢ f) cells) → IfSome edge (λ e. All (λ c. c ≢ e) cells) → IfSome face (λ f. IfSome edge (λ e. f ≢ e)) →
    AllPairs Differ (cells ++ option_to_list face ++ option_to_list edge)
differ_all cells None None pairs on_face on_edge both = subst (AllPairs Differ) (sym (append-nil (cells ++ []) ∙ append-nil cells)) pairs
differ_all cells (Some f) None pairs on_face on_edge both = subst (AllPairs Differ) (sym (append-nil (cells ++ f ∷ []))) (pushed cells f pairs on_face)
differ_all cells None (Some e) pairs on_face on_edge both = subst (λ cs. AllPairs Differ (cs ++ e ∷ [])) (sym (append-nil cells)) (pushed cells e pairs on_edge)
differ_all cells (Some f) (Some e) pairs on_face on_edge both = pushed (cells ++ f ∷ []) e (pushed cells f pairs on_face) (All-append (λ c. c ≢ e) cells (f ∷ []) on_edge (one (λ c. c ≢ e) f both))

apart_all : (cells : List (List ℕ)) (face edge : Option (List ℕ)) → AllPairs Differ (cells ++ option_to_list face ++ option_to_list edge) →
    AllPairs Differ cells × IfSome face (λ f. All (λ c. c ≢ f) cells) × IfSome edge (λ e. All (λ c. c ≢ e) cells) × IfSome face (λ f. IfSome edge (λ e. f ≢ e))
apart_all cells None None pairs = (subst (AllPairs Differ) (append-nil (cells ++ []) ∙ append-nil cells) pairs, tt, tt, tt)
apart_all cells (Some f) None pairs = let faced = subst (AllPairs Differ) (append-nil (cells ++ f ∷ [])) pairs in (pairs_left cells (f ∷ []) faced, pairs_seam cells f [] faced, tt, tt)
apart_all cells None (Some e) pairs = let edged = subst (λ cs. AllPairs Differ (cs ++ e ∷ [])) (append-nil cells) pairs in (pairs_left cells (e ∷ []) edged, tt, pairs_seam cells e [] edged, tt)
apart_all cells (Some f) (Some e) pairs =
    let faced = pairs_left (cells ++ f ∷ []) (e ∷ []) pairs in
    let apart = pairs_seam (cells ++ f ∷ []) e [] pairs in
    let long = length-append cells (f ∷ []) in (
      pairs_left cells (f ∷ []) faced,
      pairs_seam cells f [] faced,
      (λ k d within. subst (λ a. a ≢ e) (get_or_append_left cells (f ∷ []) d k within) (apart k d (omega arith))),
      subst (λ a. a ≢ e) (get_or-append_seam cells f [] f) (apart (length cells) f (omega arith)),
    )

if_named : (o : Option (List ℕ)) → IfSome o (λ w. is_name w ≡ true) → AllByRecursion (λ w. is_name w ≡ true) (option_to_list o)
if_named None h = tt
if_named (Some w) h = (h, tt)

named_if : (o : Option (List ℕ)) → AllByRecursion (λ w. is_name w ≡ true) (option_to_list o) → IfSome o (λ w. is_name w ≡ true)
named_if None h = tt
named_if (Some w) h = h.0

pub names_fit : (v : VariableNames) → AreNames v → AreDifferent v → NamesFit v
names_fit v are different = record {
  few = are.few;
  cells = recursion_from_All (λ w. is_name w ≡ true) v.cells are.cells;
  face = if_named v.face are.face;
  edge = if_named v.edge are.edge;
  differ = to_differ _ (differ_all v.cells v.face v.edge different.cells different.face different.edge different.both);
}

pub are_names : (v : VariableNames) → NamesFit v → AreNames v
are_names v fit = record {
  few = fit.few;
  cells = All-from_recursion (λ w. is_name w ≡ true) v.cells fit.cells;
  face = named_if v.face fit.face;
  edge = named_if v.edge fit.edge;
}

pub are_different : (v : VariableNames) → NamesFit v → AreDifferent v
are_different v fit =
    let apart = apart_all v.cells v.face v.edge (from_differ _ fit.differ) in
    record { cells = apart.0; face = apart.1; edge = apart.2; both = apart.3 }
