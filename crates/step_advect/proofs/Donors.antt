-- The donors of a block's faces stand in its array beside them.
use Rattle.std.proofs.Common.{◌≡◌, ℕ, ◌+◌, ◌-◌, ◌*◌, ◌^◌, ◌<◌, ◌≤◌, Bool, true, false, ℤ, pos, negsuc, ◌-ℤ◌, refl, sym, ap, ◌∙◌, arith, inl, inr, mod-eq_of_lt}
use Rattle.std.proofs.Math.Nat.{mul-le-mul_left}
use Rattle.std.proofs.lemmas.Int.{ints}
use Rattle.amr_num.specs.declared.Axis.{Axis}
use Rattle.amr_num.specs.declared.Axis.TheVariants.{X, Y, Z}
use Rattle.amr_num.specs.declared.BlockAt.{BlockAt}
use Rattle.amr_num.specs.declared.CellAt.{CellAt}
use Rattle.mesh_model.specs.declared.geometry.Shape.{Shape}
use Rattle.mesh_model.specs.Geometry.Blocks.{InDomain}
use Rattle.mesh_model.specs.Geometry.Coordinates.{extent, is_periodic, on, roots, step, with}
use Rattle.mesh_model.specs.Geometry.Limits.{IsShape}
use Rattle.mesh_model.specs.Geometry.Outside.{brought_in, cell_in}
use Rattle.mesh_model.specs.Geometry.Places.{guard_index, in_block, longer_on}
use Rattle.mesh_model.specs.Geometry.Touch.{block_on}
use Rattle.mesh_model.specs.Tree.Kinds.{Grid}
use Rattle.mesh_model.specs.Fields.Advect.{blown_from}
use Rattle.mesh_model.specs.Fields.ArrayPlaces.{cell_there}
use Rattle.mesh_model.specs.Fields.Views.{cell_view}
use Rattle.mesh_model.proofs.FieldLemmas.Donors.{donor_inside}
use Rattle.step_advect.specs.Fluxed.{along, donor_at, lower_by}
use Rattle.step_advect.specs.Lifts.{HoldsBeside}

brought_same : (periodic : Bool) (e p : ℕ) → p < e → brought_in periodic e (e - 1) (pos p) ≡ p
brought_same true e p h = mod-eq_of_lt h
brought_same false e p h = omega arith

own_below : (r n l b i : ℕ) → b < r * 2 ^ l → i < n → n * b + i < r * n * 2 ^ l
own_below r n l b i hb hi =
    let next : n * (b + 1) ≤ n * (r * 2 ^ l) = mul-le-mul_left n (omega arith) in
    let all : n * (r * 2 ^ l) ≡ r * n * 2 ^ l = grind arith in
    let one : n * (b + 1) ≡ n * b + n = grind arith in
    omega arith

-- the positions of a block's faces lie in the domain
pub position_inside : (r n l b i : ℕ) → b < r * 2 ^ l → i ≤ n → n * b + i ≤ r * n * 2 ^ l
position_inside r n l b i hb hi =
    let next : n * (b + 1) ≤ n * (r * 2 ^ l) = mul-le-mul_left n (omega arith) in
    let all : n * (r * 2 ^ l) ≡ r * n * 2 ^ l = grind arith in
    let one : n * (b + 1) ≡ n * b + n = grind arith in
    omega arith

-- a block's own cell stands for itself
own_cell : (periodic : Bool) (r n g l b i : ℕ) → b < r * 2 ^ l → i < n → brought_in periodic (r * n * 2 ^ l) (r * n * 2 ^ l - 1) (guard_index n g b (g + i - 0)) ≡ n * b + i
own_cell periodic r n g l b i hb hi =
    let own : guard_index n g b (g + i - 0) ≡ pos (n * b + i) = omega (arith, ints) in
    ap (brought_in periodic (r * n * 2 ^ l) (r * n * 2 ^ l - 1)) own ∙ brought_same periodic (r * n * 2 ^ l) (n * b + i) (own_below r n l b i hb hi)

-- and the place so many lower for the coordinate so many lower
lower_place : (n g b i h : ℕ) → h ≤ g → guard_index n g b (g + i - h) ≡ pos (n * b + i) -ℤ pos h
lower_place n g b i h le = omega (arith, ints)

cell : ℕ → ℕ → ℕ → ℕ → CellAt
cell l x y z = record { level = l; x = x; y = y; z = z }

same_there : (l x y z u v w : ℕ) → x ≡ u → y ≡ v → z ≡ w → cell l x y z ≡ cell l u v w
same_there l x y z u v w hx hy hz = λ t. cell l (hx t) (hy t) (hz t)

pub lower_there : (s : Shape) (a : Axis) (b : BlockAt) (i j k h : ℕ) → InDomain s b → h ≤ s.g → i < longer_on a X s.n → j < longer_on a Y s.n → k < longer_on a Z s.n →
    let c = in_block s.n b i j k in
    cell_there s b (s.g + i - (step a h).x) (s.g + j - (step a h).y) (s.g + k - (step a h).z) ≡ with a (cell_in s a b.level (pos (on a c) -ℤ pos h)) c
unfolding cell
lower_there s X b i j k h inside le hi hj hk =
    same_there b.level _ _ _ _ _ _ (ap (cell_in s X b.level) (lower_place s.n s.g b.x i h le))
    (own_cell (is_periodic s Y) s.ry s.n s.g b.level b.y j inside.y hj) (own_cell (is_periodic s Z) s.rz s.n s.g b.level b.z k inside.z hk)
lower_there s Y b i j k h inside le hi hj hk =
    same_there b.level _ _ _ _ _ _ (own_cell (is_periodic s X) s.rx s.n s.g b.level b.x i inside.x hi)
    (ap (cell_in s Y b.level) (lower_place s.n s.g b.y j h le)) (own_cell (is_periodic s Z) s.rz s.n s.g b.level b.z k inside.z hk)
lower_there s Z b i j k h inside le hi hj hk =
    same_there b.level _ _ _ _ _ _ (own_cell (is_periodic s X) s.rx s.n s.g b.level b.x i inside.x hi)
    (own_cell (is_periodic s Y) s.ry s.n s.g b.level b.y j inside.y hj) (ap (cell_in s Z b.level) (lower_place s.n s.g b.z k h le))

three_same : (f : ℕ → ℕ → ℕ → ℤ) (x y z u v w : ℕ) → x ≡ u → y ≡ v → z ≡ w → f x y z ≡ f u v w
three_same f x y z u v w hx hy hz = λ t. f (hx t) (hy t) (hz t)

none_less : (m : ℕ) → m ≡ m - 0
none_less m = omega arith

none_lower : (a : Axis) (numbers : ℕ → ℕ → ℕ → ℤ) (x y z : ℕ) → numbers x y z ≡ lower_by 0 a numbers x y z
none_lower X numbers x y z = three_same numbers x y z _ _ _ (none_less x) (none_less y) (none_less z)
none_lower Y numbers x y z = three_same numbers x y z _ _ _ (none_less x) (none_less y) (none_less z)
none_lower Z numbers x y z = three_same numbers x y z _ _ _ (none_less x) (none_less y) (none_less z)

-- places beside faces are in the array
pub places_inside : (n e : ℕ) (a : Axis) (i j k h : ℕ) → 1 ≤ e → i < longer_on a X n → j < longer_on a Y n → k < longer_on a Z n →
    (e + i - (step a h).x < n + 2 * e) × (e + j - (step a h).y < n + 2 * e) × (e + k - (step a h).z < n + 2 * e)
places_inside n e X i j k h some hi hj hk = (omega arith, omega arith, omega arith)
places_inside n e Y i j k h some hi hj hk = (omega arith, omega arith, omega arith)
places_inside n e Z i j k h some hi hj hk = (omega arith, omega arith, omega arith)

pub some_guards : {s : Shape} → IsShape s → 1 ≤ s.g
some_guards h = elim h.guards [ inl one ↦ omega arith | inr (inl two) ↦ omega arith | inr (inr four) ↦ omega arith ]

-- the position of a face, and the block's own on its axis
pub position_is : (n : ℕ) (a : Axis) (b : BlockAt) (i j k : ℕ) → n * block_on a b + along a i j k ≡ on a (in_block n b i j k)
position_is n X b i j k = refl
position_is n Y b i j k = refl
position_is n Z b i j k = refl

pub position_within : (n : ℕ) (a : Axis) (i j k : ℕ) → i < longer_on a X n → j < longer_on a Y n → k < longer_on a Z n → along a i j k ≤ n
position_within n X i j k hi hj hk = omega arith
position_within n Y i j k hi hj hk = omega arith
position_within n Z i j k hi hj hk = omega arith

pub block_inside : (s : Shape) (a : Axis) (b : BlockAt) → InDomain s b → block_on a b < roots s a * 2 ^ b.level
block_inside s X b inside = inside.x
block_inside s Y b inside = inside.y
block_inside s Z b inside = inside.z

module _ (g : Grid) (content : CellAt → ℤ) (a : Axis) (b : BlockAt) (numbers : ℕ → ℕ → ℕ → ℤ) (shape : IsShape g.shape) (inside : InDomain g.shape b)
    (beside : HoldsBeside g content a b numbers) (i j k : ℕ) (hi : i < longer_on a X g.shape.n) (hj : j < longer_on a Y g.shape.n) (hk : k < longer_on a Z g.shape.n) where
  abbrev c : CellAt
  c = in_block g.shape.n b i j k

  face_inside : on a c ≤ extent g.shape a c.level
  face_inside =
      let own = position_inside (roots g.shape a) g.shape.n b.level (block_on a b) (along a i j k) (block_inside g.shape a b inside) (position_within g.shape.n a i j k hi hj hk) in
      let same = position_is g.shape.n a b i j k in
      omega arith

  -- the number beside a face so many places lower is the view at the coordinate that stands for it
  lower_is : (h : ℕ) → h ≤ 1 → lower_by h a numbers (g.shape.g + i) (g.shape.g + j) (g.shape.g + k) ≡ cell_view g content (with a (cell_in g.shape a b.level (pos (on a c) -ℤ pos h)) c)
  lower_is h le =
      let some = some_guards shape in
      beside.at i j k h hi hj hk le ∙ ap (cell_view g content) (lower_there g.shape a b i j k h inside (omega arith) hi hj hk)

  pub donor_is : (speed : ℤ) → donor_at a speed numbers (g.shape.g + i) (g.shape.g + j) (g.shape.g + k) ≡ cell_view g content (blown_from g.shape a speed c)
  donor_is (pos m) = lower_is 1 (omega arith) ∙ ap (cell_view g content) (sym (donor_inside g.shape a (pos m) c shape face_inside))
  donor_is (negsuc m) =
      let none : pos (on a c) -ℤ pos 0 ≡ pos (on a c) = omega (arith, ints) in
      none_lower a numbers (g.shape.g + i) (g.shape.g + j) (g.shape.g + k) ∙ lower_is 0 (omega arith)
      ∙ ap (cell_view g content) (ap (λ p. with a (cell_in g.shape a b.level p) c) none ∙ sym (donor_inside g.shape a (negsuc m) c shape face_inside))
