-- One printed piece after another.
use Rattle.std.proofs.Common.{◌≡◌, ℕ, zero, suc, ◌+◌, ◌-◌, ◌<◌, ◌≤◌, List, [], ◌∷◌, ◌++◌, Option, Some, None, Result, Ok, Err, length, get_or, take, drop, OnOk, OnErr, refl, sym, ap, ap₂, ◌∙◌, subst, arith, append_assoc, append-nil, length-append, add-zero, zero-add, take-append-drop, take_all}
use Rattle.std.proofs.Math.Seq.{take-suc}
use Rattle.std.proofs.lemmas.Grind.{flat_map-append}
use Rattle.std.proofs.lemmas.List.{take-append-le}
use Rattle.std.specs.Prelude.{flat_map}
use Rattle.std.specs.List.{range_with_len}
use Rattle.outside_io.specs.Moved.{Rose, Takes, TakesPrefix}
use Rattle.outside_io.specs.declared.Failed.{Failed}
use Rattle.outside_io.proofs.Moving.{takes_more}
use Rattle.block_tree.proofs.ByNumber.{flat_next, range_apart}
use Rattle.amr_report.specs.Printing.{Prints}

-- the sink took the text, and no fault
abbrev pub Printed : Option (List ℕ) → List ℕ → Option (List ℕ) → ℕ → ℕ → Type 0
Printed before text after faults new_faults = Takes before text after × (new_faults ≡ faults)

-- the sink failed after the first bytes of the text
abbrev pub Broke : Option (List ℕ) → List ℕ → Option (List ℕ) → ℕ → ℕ → Type 0
Broke before text after faults new_faults = TakesPrefix before text after × Rose faults new_faults

-- what a call that writes a whole piece tells, as one fact
pub printed : (r : Result (Unit {0}) Failed) (before after : Option (List ℕ)) (text : List ℕ) (faults new_faults : ℕ) → OnOk r (Takes before text after) → OnErr r (TakesPrefix before text after) → OnOk r (new_faults ≡ faults) → OnErr r (Rose faults new_faults) → Prints r before text after faults new_faults
printed (Ok done) before after text faults new_faults takes part calm rose = (takes, calm)
printed (Err failed) before after text faults new_faults takes part calm rose = (part, rose)

-- nothing was printed yet
pub none_printed : (a : Option (List ℕ)) (faults : ℕ) → Printed a [] a faults faults
none_printed None faults = (tt, refl)
none_printed (Some xs) faults = (ap Some (sym (append-nil xs)), refl)

-- ---- one piece after what was printed

-- a first part of a piece is one of a text in which the piece stands after what was taken
part_within : (a b c : Option (List ℕ)) (done piece rest whole : List ℕ) → Takes a done b → TakesPrefix b piece c → whole ≡ (done ++ piece) ++ rest → TakesPrefix a whole c
part_within None b c done piece rest whole took part splits = tt
part_within (Some xs) None c done piece rest whole took part splits = cc
part_within (Some xs) (Some ys) c done piece rest whole took part splits =
    let n = part.0 in
    let size : length whole ≡ length done + length piece + length rest = ap length splits ∙ length-append (done ++ piece) rest ∙ ap (λ m. m + length rest) (length-append done piece) in
    let fits : length done + n ≤ length whole = omega (arith, part.1) in
    let same : ys ≡ xs ++ done = cc in
    let front : take (length done + n) whole ≡ done ++ take n piece = ap (take (length done + n)) (splits ∙ append_assoc done piece rest) ∙ front_of done piece rest n part.1 in
    (length done + n, fits, part.2 ∙ ap (λ zs. Some (zs ++ take n piece)) same ∙ ap Some (append_assoc xs done (take n piece) ∙ ap (λ zs. xs ++ zs) (sym front)))
  where
    front_of : (done piece rest : List ℕ) (n : ℕ) → n ≤ length piece → take (length done + n) (done ++ (piece ++ rest)) ≡ done ++ take n piece
    front_of [] piece rest n h = ap (λ m. take m (piece ++ rest)) (zero-add n) ∙ take-append-le n piece rest h
    front_of (x ∷ done) piece rest n h = let e : suc (length done) + n ≡ suc (length done + n) = omega arith in ap (λ m. take m (x ∷ (done ++ (piece ++ rest)))) e ∙ ap (λ t. x ∷ t) (front_of done piece rest n h)

-- both pieces were printed
pub both_printed : (a b c : Option (List ℕ)) (first second : List ℕ) (before now after : ℕ) → Printed a first b before now → Printed b second c now after → Printed a (first ++ second) c before after
both_printed a b c first second before now after one two = (takes_more a b c first second one.0 two.0, two.1 ∙ one.1)

-- the sink failed in a piece after what was printed
pub broke_within : (a b c : Option (List ℕ)) (done piece rest whole : List ℕ) (before now after : ℕ) → Printed a done b before now → Broke b piece c now after → whole ≡ (done ++ piece) ++ rest → Broke a whole c before after
broke_within a b c done piece rest whole before now after one two splits = (part_within a b c done piece rest whole one.0 two.0 splits, subst (λ m. Rose m after) one.1 two.1)

-- a call that prints after another
pub printed_after : (r : Result (Unit {0}) Failed) (a b c : Option (List ℕ)) (first second : List ℕ) (before now after : ℕ) → Printed a first b before now → Prints r b second c now after → Prints r a (first ++ second) c before after
printed_after (Ok done) a b c first second before now after one told = both_printed a b c first second before now after one told
printed_after (Err failed) a b c first second before now after one told = broke_within a b c first second [] (first ++ second) before now after one told (sym (append-nil (first ++ second)))

-- the first of two calls failed
pub first_broke : (a c : Option (List ℕ)) (first second : List ℕ) (before after : ℕ) → Broke a first c before after → Broke a (first ++ second) c before after
first_broke a c first second before after failed = broke_within a a c [] first second (first ++ second) before before after (none_printed a before) failed refl

-- ---- the texts of places one after the other

-- what comes after a place
pub flat_after : {A : Type 0} (f : ℕ → List A) (j n : ℕ) → j < n → (rest : List A) × (flat_map f (range_with_len 0 n) ≡ (flat_map f (range_with_len 0 j) ++ f j) ++ rest)
flat_after f j n h =
    let rest = range_with_len (0 + (j + 1)) (n - (j + 1)) in
    let e : n ≡ j + 1 + (n - (j + 1)) = omega arith in
    (flat_map f rest, ap (λ m. flat_map f (range_with_len 0 m)) e ∙ ap (flat_map f) (range_apart 0 (j + 1) (n - (j + 1))) ∙ flat_map-append f (range_with_len 0 (j + 1)) rest ∙ ap (λ t. t ++ flat_map f rest) (flat_next f j))

-- one more place was printed
pub place_printed : (a b c : Option (List ℕ)) (f : ℕ → List ℕ) (j : ℕ) (before now after : ℕ) → Printed a (flat_map f (range_with_len 0 j)) b before now → Printed b (f j) c now after → Printed a (flat_map f (range_with_len 0 (j + 1))) c before after
place_printed a b c f j before now after one two = subst (λ t. Printed a t c before after) (sym (flat_next f j)) (both_printed a b c (flat_map f (range_with_len 0 j)) (f j) before now after one two)

-- the sink failed at one place
pub place_broke : (a b c : Option (List ℕ)) (f : ℕ → List ℕ) (j n : ℕ) (before now after : ℕ) → j < n → Printed a (flat_map f (range_with_len 0 j)) b before now → Broke b (f j) c now after → Broke a (flat_map f (range_with_len 0 n)) c before after
place_broke a b c f j n before now after h one two = let tail = flat_after f j n h in broke_within a b c (flat_map f (range_with_len 0 j)) (f j) tail.0 (flat_map f (range_with_len 0 n)) before now after one two tail.1

-- all places were printed
pub places_printed : (a b : Option (List ℕ)) (f : ℕ → List ℕ) (j n : ℕ) (before now : ℕ) → j ≡ n → Printed a (flat_map f (range_with_len 0 j)) b before now → Printed a (flat_map f (range_with_len 0 n)) b before now
places_printed a b f j n before now all one = subst (λ m. Printed a (flat_map f (range_with_len 0 m)) b before now) all one

-- ---- the texts of the items of a list one after the other

-- one more item
item_next : {A : Type 0} (f : A → List ℕ) (xs : List A) (d : A) (i : ℕ) → i < length xs → flat_map f (take (i + 1) xs) ≡ flat_map f (take i xs) ++ f (get_or xs i d)
item_next f xs d i h =
    let next : i + 1 ≡ suc i = omega arith in
    ap (λ n. flat_map f (take n xs)) next ∙ ap (flat_map f) (take-suc xs i d h) ∙ flat_map-append f (take i xs) (get_or xs i d ∷ []) ∙ ap (λ t. flat_map f (take i xs) ++ t) (append-nil (f (get_or xs i d)))

-- one more item was printed, of a list that the code has as ys
pub item_printed : {A : Type 0} (a b c : Option (List ℕ)) (f : A → List ℕ) (xs ys : List A) (d : A) (i : ℕ) (before now after : ℕ) → ys ≡ xs → i < length ys → Printed a (flat_map f (take i xs)) b before now → Printed b (f (get_or ys i d)) c now after → Printed a (flat_map f (take (i + 1) xs)) c before after
item_printed a b c f xs ys d i before now after same h one two =
    let inside : i < length xs = subst (λ zs. i < length zs) same h in
    let here = subst (λ zs. Printed b (f (get_or zs i d)) c now after) same two in
    subst (λ t. Printed a t c before after) (sym (item_next f xs d i inside)) (both_printed a b c (flat_map f (take i xs)) (f (get_or xs i d)) before now after one here)

-- the sink failed at one item
pub item_broke : {A : Type 0} (a b c : Option (List ℕ)) (f : A → List ℕ) (xs ys : List A) (d : A) (i : ℕ) (before now after : ℕ) → ys ≡ xs → i < length ys → Printed a (flat_map f (take i xs)) b before now → Broke b (f (get_or ys i d)) c now after → Broke a (flat_map f xs) c before after
item_broke a b c f xs ys d i before now after same h one two =
    let inside : i < length xs = subst (λ zs. i < length zs) same h in
    let here = subst (λ zs. Broke b (f (get_or zs i d)) c now after) same two in
    let splits : flat_map f xs ≡ (flat_map f (take i xs) ++ f (get_or xs i d)) ++ flat_map f (drop (i + 1) xs) =
    ap (flat_map f) (sym (take-append-drop (i + 1) xs)) ∙ flat_map-append f (take (i + 1) xs) (drop (i + 1) xs) ∙ ap (λ t. t ++ flat_map f (drop (i + 1) xs)) (item_next f xs d i inside) in
    broke_within a b c (flat_map f (take i xs)) (f (get_or xs i d)) (flat_map f (drop (i + 1) xs)) (flat_map f xs) before now after one here splits

-- all items were printed
pub items_printed : {A : Type 0} (a b : Option (List ℕ)) (f : A → List ℕ) (xs ys : List A) (i : ℕ) (before now : ℕ) → ys ≡ xs → length ys ≤ i → Printed a (flat_map f (take i xs)) b before now → Printed a (flat_map f xs) b before now
items_printed a b f xs ys i before now same all one =
    let whole : length xs ≤ i = subst (λ zs. length zs ≤ i) same all in
    subst (λ t. Printed a (flat_map f t) b before now) (take_all i xs whole) one
