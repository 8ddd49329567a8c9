-- What declarations leave within the limits.
use Rattle.std.proofs.lemmas.Bool.{and_parts}
use Rattle.std.proofs.Common.{◌≡◌, ◌≢◌, ℕ, zero, suc, ◌<◌, ◌≤◌, ◌⊎◌, Bool, true, false, not, ◌&&◌, ◌||◌, ◌==◌, nat_lt, nat_le, if◌then◌else◌, List, [], ◌∷◌, ◌++◌, Option, Some, None, Result, Ok, Err, IfSome, is_some, get_or, length, bytes_eq, All, refl, sym, subst, arith, length-append}
use Rattle.std.proofs.lemmas.Bool.Decides.{nat_tests}
use Rattle.std.proofs.lemmas.List.Quantifiers.{all_pairs_push}
use Rattle.std.proofs.lemmas.List.Sums.{fails_before_first}
use Rattle.std.proofs.lemmas.Slice.Eq.{bytes_eq-Decides}
use Rattle.std.specs.List.{list_any, position_or_len}
use Rattle.mesh_model.specs.declared.geometry.Shape.{Shape}
use Rattle.mesh_model.specs.declared.language.script.Declaration.{Declaration}
use Rattle.mesh_model.specs.declared.language.script.Declaration.TheVariants as declaration
use Rattle.mesh_model.specs.declared.language.script.Reading.{Reading}
use Rattle.mesh_model.specs.declared.language.script.Reason.{Reason}
use Rattle.mesh_model.specs.declared.language.script.Reason.TheVariants.{OutOfRange, Unpaired, BadName, NameTaken, TooMany}
use Rattle.mesh_model.specs.Language.Commands.{AreNames, AreDifferent, InLimits}
use Rattle.mesh_model.specs.Geometry.Limits.{IsShape}
use Rattle.amr_num.specs.declared.Axis.{Axis}
use Rattle.amr_num.specs.declared.Axis.TheVariants.{X, Y, Z}
use Rattle.amr_num.specs.declared.SideKind.{SideKind}
use Rattle.mesh_model.specs.Geometry.Coordinates.{is_periodic_kind, side_index, side_kind}
use Rattle.mesh_model.specs.Language.Declarations.{domain, cells, bounds, levels, cellvar, facevar, edgevar, are_paired}
use Rattle.mesh_model.specs.Language.Forms.{count, one_of, level, side, cell_named, is_named, is_taken, new_name, ◌>>=◌}
use Rattle.mesh_model.specs.Language.Grammar.{declares}
use Rattle.mesh_model.specs.Fields.VariableNames.{VariableNames}
use Rattle.mesh_model.specs.Language.Words.{word, is_name}
use Rattle.script_lang.proofs.Ranges.{count_range, one_says}
use Rattle.script_lang.proofs.Steps.{bound, passed, same_value}

-- SHAPES

domain_within : (s t : Shape) (ws : List (List ℕ)) → IsShape s → domain s ws ≡ Ok t → IsShape t
unfolding domain
domain_within s t ws old h =
    let x = bound (count 1 8 (word ws 1)) _ t h in
    let y = bound (count 1 8 (word ws 2)) _ t x.2 in
    let z = bound (count 1 8 (word ws 3)) _ t y.2 in
    subst IsShape (same_value (record s { rx = x.0; ry = y.0; rz = z.0 }) t z.2) (record {
      rx = (count_range 1 8 (word ws 1) x.0 x.1).0;
      ry = (count_range 1 8 (word ws 2) y.0 y.1).0;
      rz = (count_range 1 8 (word ws 3) z.0 z.1).0;
      few_x = (count_range 1 8 (word ws 1) x.0 x.1).1;
      few_y = (count_range 1 8 (word ws 2) y.0 y.1).1;
      few_z = (count_range 1 8 (word ws 3) z.0 z.1).1;
      cells = old.cells;
      guards = old.guards;
      min = old.min;
      max = old.max;
      six = old.six;
      both = old.both;
    })

four_or_eight : (n : ℕ) → list_any (λ m. m == n) (4 ∷ 8 ∷ []) ≡ true → (n ≡ 4) ⊎ (n ≡ 8)
four_or_eight n h = grind (arith, nat_tests)

one_two_four : (n : ℕ) → list_any (λ m. m == n) (1 ∷ 2 ∷ 4 ∷ []) ≡ true → (n ≡ 1) ⊎ ((n ≡ 2) ⊎ (n ≡ 4))
one_two_four n h = grind (arith, nat_tests)

cells_within : (s t : Shape) (ws : List (List ℕ)) → IsShape s → cells s ws ≡ Ok t → IsShape t
unfolding cells
cells_within s t ws old h =
    let x = bound (one_of (4 ∷ 8 ∷ []) (word ws 1)) _ t h in
    let y = bound (one_of (1 ∷ 2 ∷ 4 ∷ []) (word ws 2)) _ t x.2 in
    let four : (x.0 ≡ 4) ⊎ (x.0 ≡ 8) = four_or_eight x.0 (one_says (4 ∷ 8 ∷ []) (word ws 1) x.0 x.1) in
    let guard : (y.0 ≡ 1) ⊎ ((y.0 ≡ 2) ⊎ (y.0 ≡ 4)) = one_two_four y.0 (one_says (1 ∷ 2 ∷ 4 ∷ []) (word ws 2) y.0 y.1) in
    subst IsShape (same_value (record s { n = x.0; g = y.0 }) t y.2) (record { rx = old.rx; ry = old.ry; rz = old.rz; few_x = old.few_x; few_y = old.few_y; few_z = old.few_z; cells = four; guards = guard; min = old.min; max = old.max; six = old.six; both = old.both })

same_sides : (a b : Bool) → (if a then b else not b) ≡ true → a ≡ b
same_sides true true h = refl
same_sides true false h = absurd (cc)
same_sides false true h = absurd (cc)
same_sides false false h = refl

pub by_axis : (sides : List SideKind) → is_periodic_kind (side_kind sides 0) ≡ is_periodic_kind (side_kind sides 1) → is_periodic_kind (side_kind sides 2) ≡ is_periodic_kind (side_kind sides 3) →
    is_periodic_kind (side_kind sides 4) ≡ is_periodic_kind (side_kind sides 5) → (a : Axis) → is_periodic_kind (side_kind sides (side_index a)) ≡ is_periodic_kind (side_kind sides (suc (side_index a)))
by_axis sides x y z X = x
by_axis sides x y z Y = y
by_axis sides x y z Z = z

bounds_within : (s t : Shape) (ws : List (List ℕ)) → IsShape s → bounds s ws ≡ Ok t → IsShape t
unfolding bounds
bounds_within s t ws old h =
    let a = bound (side (word ws 1)) _ t h in
    let b = bound (side (word ws 2)) _ t a.2 in
    let c = bound (side (word ws 3)) _ t b.2 in
    let d = bound (side (word ws 4)) _ t c.2 in
    let e = bound (side (word ws 5)) _ t d.2 in
    let f = bound (side (word ws 6)) _ t e.2 in
    let k = passed _ Unpaired (record s { sides = a.0 ∷ b.0 ∷ c.0 ∷ d.0 ∷ e.0 ∷ f.0 ∷ [] }) t f.2 in
    let xy = and_parts (are_paired a.0 b.0 && are_paired c.0 d.0) (are_paired e.0 f.0) k.0 in
    let x = and_parts (are_paired a.0 b.0) (are_paired c.0 d.0) xy.0 in
    subst IsShape k.1 (record {
      rx = old.rx;
      ry = old.ry;
      rz = old.rz;
      few_x = old.few_x;
      few_y = old.few_y;
      few_z = old.few_z;
      cells = old.cells;
      guards = old.guards;
      min = old.min;
      max = old.max;
      six = refl;
      both = by_axis (a.0 ∷ b.0 ∷ c.0 ∷ d.0 ∷ e.0 ∷ f.0 ∷ [])
          (same_sides (is_periodic_kind a.0) (is_periodic_kind b.0) x.0)
          (same_sides (is_periodic_kind c.0) (is_periodic_kind d.0) x.1)
          (same_sides (is_periodic_kind e.0) (is_periodic_kind f.0) xy.1);
    })

below : (a b : ℕ) → nat_le a b ≡ true → a ≤ b
below a b h = grind (arith, nat_tests)

levels_within : (s t : Shape) (ws : List (List ℕ)) → IsShape s → levels s ws ≡ Ok t → IsShape t
unfolding levels
levels_within s t ws old h =
    let a = bound (level (word ws 1)) _ t h in
    let b = bound (level (word ws 2)) _ t a.2 in
    let k = passed _ OutOfRange (record s { min = a.0; max = b.0 }) t b.2 in
    subst IsShape k.1 (record { rx = old.rx; ry = old.ry; rz = old.rz; few_x = old.few_x; few_y = old.few_y; few_z = old.few_z; cells = old.cells; guards = old.guards; min = below a.0 b.0 k.0; max = (count_range 0 10 (word ws 2) b.0 b.1).1; six = old.six; both = old.both })

-- NAMES

different : (x w : List ℕ) → bytes_eq x w ≡ false → x ≢ w
different x w h e = let same = (bytes_eq-Decides x w).1 e in cc

-- what a new name is
record IsNew (names : VariableNames) (full : Bool) (w : List ℕ) : Type 0 where
  is_one : is_name w ≡ true
  free : is_taken names w ≡ false
  room : full ≡ false

new_case : (good taken full : Bool) (w name : List ℕ) → (if not good then Err BadName else if taken then Err NameTaken else if full then Err TooMany else Ok w) ≡ Ok name → (good ≡ true) × (taken ≡ false) × (full ≡ false) × (w ≡ name)
new_case false taken full w name h = absurd (cc)
new_case true true full w name h = absurd (cc)
new_case true false true w name h = absurd (cc)
new_case true false false w name h = (refl, refl, refl, same_value w name h)

new_says : (names : VariableNames) (full : Bool) (w name : List ℕ) → new_name names full w ≡ Ok name → IsNew names full name
unfolding new_name
new_says names full w name h =
    let c = new_case (is_name w) (is_taken names w) full w name h in
    subst (IsNew names full) c.3 (record { is_one = c.0; free = c.1; room = c.2 })

neither : (a b : Bool) → (a || b) ≡ false → (a ≡ false) × (b ≡ false)
neither true b h = absurd (cc)
neither false b h = (refl, h)

-- a free name is none of the names
record IsFree (names : VariableNames) (w : List ℕ) : Type 0 where
  cells : All (λ c. c ≢ w) names.cells
  face : IfSome names.face (λ f. f ≢ w)
  edge : IfSome names.edge (λ e. e ≢ w)

not_named : (o : Option (List ℕ)) (w : List ℕ) → is_named o w ≡ false → IfSome o (λ f. f ≢ w)
not_named None w h = tt
not_named (Some f) w h = different f w h

past : (b : Bool) (n : ℕ) → is_some (if b then Some n else None) ≡ false → b ≡ false
past true n h = absurd (cc)
past false n h = refl

no_cell : (names : VariableNames) (w : List ℕ) → is_some (cell_named names w) ≡ false → All (λ c. c ≢ w) names.cells
no_cell names w h k d lt =
    let len = position_or_len (λ name. bytes_eq name w) names.cells in
    let none : nat_lt len (length names.cells) ≡ false = past (nat_lt len (length names.cells)) len h in
    different (get_or names.cells k d) w (fails_before_first (λ name. bytes_eq name w) names.cells k d (beyond len (length names.cells) k none lt))
  where
    beyond : (len n k : ℕ) → nat_lt len n ≡ false → k < n → k < len
    beyond len n k none lt = grind (arith, nat_tests)

free_says : (names : VariableNames) (w : List ℕ) → is_taken names w ≡ false → IsFree names w
unfolding is_taken
free_says names w h =
    let ab = neither (is_some (cell_named names w) || is_named names.face w) (is_named names.edge w) h in
    let a = neither (is_some (cell_named names w)) (is_named names.face w) ab.0 in
    record { cells = no_cell names w a.0; face = not_named names.face w a.1; edge = not_named names.edge w ab.1 }

all_push : {A : Type 0} (P : A → Type 0) (xs : List A) (x : A) → All P xs → P x → All P (xs ++ x ∷ [])
all_push P [] x ps p zero d h = p
all_push P [] x ps p (suc k) d h = absurd (omega arith)
all_push P (y ∷ ys) x ps p zero d h = ps zero d (omega arith)
all_push P (y ∷ ys) x ps p (suc k) d h = all_push P ys x (λ j e lt. ps (suc j) e (omega arith)) p k d (omega arith)

if_also : {A : Type 0} (P Q R : A → Type 0) (o : Option A) → ((x : A) → P x → Q x → R x) → IfSome o P → IfSome o Q → IfSome o R
if_also P Q R None f p q = tt
if_also P Q R (Some x) f p q = f x p q

cellvar_within : (names more : VariableNames) (ws : List (List ℕ)) → AreNames names → AreDifferent names → cellvar names ws ≡ Ok more → AreNames more × AreDifferent more
unfolding cellvar
cellvar_within names more ws old apart h =
    let x = bound (new_name names (nat_le 4 (length names.cells)) (word ws 1)) _ more h in
    let w = x.0 in
    let new = new_says names (nat_le 4 (length names.cells)) (word ws 1) w x.1 in
    let free = free_says names w new.free in
    subst (λ (u : VariableNames). AreNames u × AreDifferent u) (same_value (record names { cells = names.cells ++ w ∷ [] }) more x.2) (
      record { few = one_more names.cells w new.room; cells = all_push (λ u. is_name u ≡ true) names.cells w old.cells new.is_one; face = old.face; edge = old.edge },
      record {
        cells = all_pairs_push (λ a b. a ≢ b) names.cells w apart.cells free.cells;
        face = if_also (λ f. All (λ c. c ≢ f) names.cells) (λ f. f ≢ w) (λ f. All (λ c. c ≢ f) (names.cells ++ w ∷ [])) names.face (λ f p q. all_push (λ c. c ≢ f) names.cells w p (λ e. q (sym e))) apart.face free.face;
        edge = if_also (λ f. All (λ c. c ≢ f) names.cells) (λ f. f ≢ w) (λ f. All (λ c. c ≢ f) (names.cells ++ w ∷ [])) names.edge (λ f p q. all_push (λ c. c ≢ f) names.cells w p (λ e. q (sym e))) apart.edge free.edge;
        both = apart.both;
      },
    )
  where
    one_more : (xs : List (List ℕ)) (w : List ℕ) → nat_le 4 (length xs) ≡ false → length (xs ++ w ∷ []) ≤ 4
    one_more xs w h = rw length-append (grind (arith, nat_tests))

facevar_within : (names more : VariableNames) (ws : List (List ℕ)) → AreNames names → AreDifferent names → facevar names ws ≡ Ok more → AreNames more × AreDifferent more
unfolding facevar
facevar_within names more ws old apart h =
    let x = bound (new_name names (is_some names.face) (word ws 1)) _ more h in
    let w = x.0 in
    let new = new_says names (is_some names.face) (word ws 1) w x.1 in
    let free = free_says names w new.free in
    subst (λ (u : VariableNames). AreNames u × AreDifferent u) (same_value (record names { face = Some w }) more x.2) (
      record { few = old.few; cells = old.cells; face = new.is_one; edge = old.edge },
      record { cells = apart.cells; face = free.cells; edge = apart.edge; both = if_also (λ e. e ≢ w) (λ e. e ≢ w) (λ e. w ≢ e) names.edge (λ e p q same. q (sym same)) free.edge free.edge },
    )

edgevar_within : (names more : VariableNames) (ws : List (List ℕ)) → AreNames names → AreDifferent names → edgevar names ws ≡ Ok more → AreNames more × AreDifferent more
unfolding edgevar
edgevar_within names more ws old apart h =
    let x = bound (new_name names (is_some names.edge) (word ws 1)) _ more h in
    let w = x.0 in
    let new = new_says names (is_some names.edge) (word ws 1) w x.1 in
    let free = free_says names w new.free in
    subst (λ (u : VariableNames). AreNames u × AreDifferent u) (same_value (record names { edge = Some w }) more x.2) (
      record { few = old.few; cells = old.cells; face = old.face; edge = new.is_one },
      record { cells = apart.cells; face = apart.face; edge = free.cells; both = free.face },
    )

-- DECLARATIONS

shape_within : (r after : Reading) (read : Result Shape Reason) → InLimits r.declared → ((t : Shape) → read ≡ Ok t → IsShape t) → (read >>= (λ t. Ok (record r { declared = record { shape = t; names = r.declared.names } }))) ≡ Ok after → InLimits after.declared
shape_within r after (Ok t) old within h = subst (λ (u : Reading). InLimits u.declared) (same_value _ after h) (record { shape = within t refl; names = old.names; different = old.different })
shape_within r after (Err e) old within h = absurd (cc)

names_within : (r after : Reading) (read : Result VariableNames Reason) → InLimits r.declared → ((more : VariableNames) → read ≡ Ok more → AreNames more × AreDifferent more) → (read >>= (λ more. Ok (record r { declared = record { shape = r.declared.shape; names = more } }))) ≡ Ok after → InLimits after.declared
names_within r after (Ok more) old within h = subst (λ (u : Reading). InLimits u.declared) (same_value _ after h) (record { shape = old.shape; names = (within more refl).0; different = (within more refl).1 })
names_within r after (Err e) old within h = absurd (cc)

pub declares_within : (r after : Reading) (d : Declaration) (ws : List (List ℕ)) → InLimits r.declared → declares r d ws ≡ Ok after → InLimits after.declared
unfolding declares
declares_within r after declaration.Domain ws old h = shape_within (record r { domain = true }) after (domain r.declared.shape ws) old (λ t e. domain_within r.declared.shape t ws old.shape e) h
declares_within r after declaration.Cells ws old h = shape_within (record r { cells = true }) after (cells r.declared.shape ws) old (λ t e. cells_within r.declared.shape t ws old.shape e) h
declares_within r after declaration.Bounds ws old h = shape_within (record r { bounds = true }) after (bounds r.declared.shape ws) old (λ t e. bounds_within r.declared.shape t ws old.shape e) h
declares_within r after declaration.Levels ws old h = shape_within (record r { levels = true }) after (levels r.declared.shape ws) old (λ t e. levels_within r.declared.shape t ws old.shape e) h
declares_within r after declaration.CellVar ws old h = names_within r after (cellvar r.declared.names ws) old (λ more e. cellvar_within r.declared.names more ws old.names old.different e) h
declares_within r after declaration.FaceVar ws old h = names_within r after (facevar r.declared.names ws) old (λ more e. facevar_within r.declared.names more ws old.names old.different e) h
declares_within r after declaration.EdgeVar ws old h = names_within r after (edgevar r.declared.names ws) old (λ more e. edgevar_within r.declared.names more ws old.names old.different e) h
