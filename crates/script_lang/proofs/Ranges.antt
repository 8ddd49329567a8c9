-- What the words of a command give.
use Rattle.std.proofs.lemmas.Bool.{and_parts}
use Rattle.std.proofs.Common.{◌≡◌, ℕ, zero, suc, ◌+◌, ◌<◌, ◌≤◌, Bool, true, false, ◌&&◌, ◌==◌, nat_lt, nat_le, List, [], ◌∷◌, Option, Some, None, Ok, ℤ, pos, negsuc, unsigned_abs, int_le, IsSome, if◌then◌else◌, slice_index, length, bytes_eq, All, refl, subst, arith}
use Rattle.std.proofs.lemmas.Bool.Decides.{nat_tests}
use Rattle.std.proofs.lemmas.List.Quantifiers.{position-Some}
use Rattle.std.specs.List.{list_any}
use Rattle.amr_num.specs.Numbers.{Within}
use Rattle.amr_num.specs.declared.BlockAt.{BlockAt}
use Rattle.amr_num.specs.declared.Axis.{Axis}
use Rattle.amr_num.specs.declared.Axis.TheVariants.{X, Y, Z}
use Rattle.mesh_model.specs.declared.geometry.Shape.{Shape}
use Rattle.mesh_model.specs.declared.fields.values.Group.{Group}
use Rattle.mesh_model.specs.declared.fields.values.Group.TheVariants.{Cell, Face, Edge}
use Rattle.mesh_model.specs.declared.language.script.Reason.TheVariants.{NotNumber, OutOfRange, UnknownVariable}
use Rattle.mesh_model.specs.Language.Actions.{is_between, is_box}
use Rattle.mesh_model.specs.Language.Commands.{AreThree, IsPlace, IsBox, IsGroup}
use Rattle.mesh_model.specs.Geometry.Coordinates.{axis_index, extent}
use Rattle.mesh_model.specs.Language.Forms.{number, numbers, count, one_of, level, block, cell_variable, cell_named, is_named, variable, variable_named, found}
use Rattle.mesh_model.specs.Fields.VariableNames.{VariableNames}
use Rattle.mesh_model.specs.Language.Words.{word, number_of}
use Rattle.script_lang.proofs.Steps.{bound, passed, same_value, found_says}

in_range : (low high : ℕ) (z : ℤ) → (int_le (pos low) z && int_le z (pos high)) ≡ true → (low ≤ unsigned_abs z) × (unsigned_abs z ≤ high)
in_range low high (pos n) h = let b = and_parts (nat_le low n) (nat_le n high) h in (grind (arith, nat_tests), grind (arith, nat_tests))
in_range low high (negsuc n) h = absurd (cc)

pub count_range : (low high : ℕ) (w : List ℕ) (n : ℕ) → count low high w ≡ Ok n → (low ≤ n) × (n ≤ high)
unfolding count
count_range low high w n h =
    let z = bound (found NotNumber (number_of w)) _ n h in
    let t = passed _ OutOfRange _ n z.2 in
    let r = in_range low high z.0 t.0 in
    subst (λ m. (low ≤ m) × (m ≤ high)) t.1 r

pub one_says : (numbers : List ℕ) (w : List ℕ) (n : ℕ) → one_of numbers w ≡ Ok n → list_any (λ m. m == n) numbers ≡ true
unfolding one_of
one_says numbers w n h =
    let x = bound (count 0 8 w) _ n h in
    let t = passed _ OutOfRange x.0 n x.2 in
    subst (λ k. list_any (λ m. m == k) numbers ≡ true) t.1 t.0

pub named_cell : (names : VariableNames) (w : List ℕ) (v : ℕ) → cell_variable names w ≡ Ok v → v < length names.cells
unfolding cell_variable
named_cell names w v h = (position-Some (λ name. bytes_eq name w) names.cells v [] (found_says UnknownVariable _ v h)).0

same_group : (a b : Group) → Some a ≡ Some b → a ≡ b
same_group a b h = cc

named_case : (names : VariableNames) (face edge : Bool) (o : Option ℕ) (g : Group) → ((v : ℕ) → o ≡ Some v → v < length names.cells) → (face ≡ true → IsGroup names Face) → (edge ≡ true → IsGroup names Edge) → (if face then Some Face else if edge then Some Edge else elim o [ Some v ↦ Some (Cell v) | None ↦ None ]) ≡ Some g → IsGroup names g
named_case names true edge o g cell f e h = subst (IsGroup names) (same_group Face g h) (f refl)
named_case names false true o g cell f e h = subst (IsGroup names) (same_group Edge g h) (e refl)
named_case names false false (Some v) g cell f e h = subst (IsGroup names) (same_group (Cell v) g h) (cell v refl)
named_case names false false None g cell f e h = absurd (cc)

named_there : (o : Option (List ℕ)) (w : List ℕ) → is_named o w ≡ true → IsSome o
named_there (Some name) w h = refl
named_there None w h = absurd (cc)

pub named_group : (names : VariableNames) (w : List ℕ) (g : Group) → variable names w ≡ Ok g → IsGroup names g
unfolding variable variable_named
named_group names w g h = named_case names (is_named names.face w) (is_named names.edge w) (cell_named names w) g (λ v e. (position-Some (λ name. bytes_eq name w) names.cells v [] e).0) (named_there names.face w) (named_there names.edge w) (found_says UnknownVariable _ g h)

pub small : (most : ℕ) (w : List ℕ) (z : ℤ) → number most w ≡ Ok z → unsigned_abs z ≤ most
unfolding number
small most w z h =
    let x = bound (found NotNumber (number_of w)) _ z h in
    let t = passed _ OutOfRange x.0 z x.2 in
    subst (λ u. unsigned_abs u ≤ most) t.1 (grind (arith, nat_tests))

three_within : (most : ℕ) (x y z : ℤ) → Within most x → Within most y → Within most z → AreThree most (x ∷ y ∷ z ∷ [])
three_within most x y z a b c = record { three = refl; within = each }
  where
    each : All (Within most) (x ∷ y ∷ z ∷ [])
    each zero d h = a
    each (suc zero) d h = b
    each (suc (suc zero)) d h = c
    each (suc (suc (suc k))) d h = absurd (omega arith)

pub three_says : (most : ℕ) (ws : List (List ℕ)) (i : ℕ) (ns : List ℤ) → numbers most ws i ≡ Ok ns → AreThree most ns
unfolding numbers
three_says most ws i ns h =
    let x = bound (number most (word ws i)) _ ns h in
    let y = bound (number most (word ws (i + 1))) _ ns x.2 in
    let z = bound (number most (word ws (i + 2))) _ ns y.2 in
    subst (AreThree most) (same_value (x.0 ∷ y.0 ∷ z.0 ∷ []) ns z.2) (three_within most x.0 y.0 z.0 (small most (word ws i) x.0 x.1) (small most (word ws (i + 1)) y.0 y.1) (small most (word ws (i + 2)) z.0 z.1))

pub place_says : (ws : List (List ℕ)) (i : ℕ) (b : BlockAt) → block ws i ≡ Ok b → IsPlace b
unfolding block
place_says ws i b h =
    let l = bound (level (word ws i)) _ b h in
    let x = bound (count 0 65536 (word ws (i + 1))) _ b l.2 in
    let y = bound (count 0 65536 (word ws (i + 2))) _ b x.2 in
    let z = bound (count 0 65536 (word ws (i + 3))) _ b y.2 in
    subst IsPlace (same_value (record { level = l.0; x = x.0; y = y.0; z = z.0 }) b z.2) (record { level = (count_range 0 10 (word ws i) l.0 l.1).1; x = (count_range 0 65536 (word ws (i + 1)) x.0 x.1).1; y = (count_range 0 65536 (word ws (i + 2)) y.0 y.1).1; z = (count_range 0 65536 (word ws (i + 3)) z.0 z.1).1 })

between_says : (low high : List ℕ) (i e : ℕ) → is_between low high i e ≡ true → (slice_index low i < slice_index high i) × (slice_index high i ≤ e)
between_says low high i e h = let b = and_parts (nat_lt (slice_index low i) (slice_index high i)) (nat_le (slice_index high i) e) h in (grind (arith, nat_tests), grind (arith, nat_tests))

on_axis : (s : Shape) (l : ℕ) (low high : List ℕ) → is_between low high 0 (extent s X l) ≡ true → is_between low high 1 (extent s Y l) ≡ true → is_between low high 2 (extent s Z l) ≡ true → (a : Axis) → (slice_index low (axis_index a) < slice_index high (axis_index a)) × (slice_index high (axis_index a) ≤ extent s a l)
on_axis s l low high x y z X = between_says low high 0 (extent s X l) x
on_axis s l low high x y z Y = between_says low high 1 (extent s Y l) y
on_axis s l low high x y z Z = between_says low high 2 (extent s Z l) z

pub box_says : (s : Shape) (l : ℕ) (low high : List ℕ) → l ≤ 10 → is_box s l low high ≡ true → IsBox s l low high
unfolding is_box
box_says s l low high level h =
    let xy = and_parts (is_between low high 0 (extent s X l) && is_between low high 1 (extent s Y l)) (is_between low high 2 (extent s Z l)) h in
    let y = and_parts (is_between low high 0 (extent s X l)) (is_between low high 1 (extent s Y l)) xy.0 in
    record { level = level; begins = λ a. (on_axis s l low high y.0 y.1 xy.1 a).0; ends = λ a. (on_axis s l low high y.0 y.1 xy.1 a).1 }
