-- The faces of a block, the cells beside them, and the finer faces at a side of it.
use Rattle.std.proofs.Common.{◌≡◌, ℕ, zero, suc, ◌+◌, ◌-◌, ◌*◌, ◌/◌, ◌%◌, ◌^◌, ◌<◌, ◌≤◌, ◌⊎◌, Bool, true, false, not, ◌||◌, Option, Some, None, refl, sym, ap, ap₂, subst, ◌∙◌, arith, inl, inr}
use Rattle.std.specs.Prelude.{option_map, if◌then◌else◌}
use Rattle.std.proofs.lemmas.Bool.{cases_Bool, cases_lt}
use Rattle.amr_num.specs.declared.Axis.{Axis}
use Rattle.amr_num.specs.declared.Axis.TheVariants.{X, Y, Z}
use Rattle.amr_num.specs.declared.BlockAt.{BlockAt}
use Rattle.amr_num.specs.declared.CellAt.{CellAt}
use Rattle.amr_num.specs.declared.FaceAt.{FaceAt}
use Rattle.mesh_model.specs.declared.geometry.Shape.{Shape}
use Rattle.mesh_model.specs.Geometry.Blocks.{InDomain, child_block}
use Rattle.mesh_model.specs.Geometry.Coordinates.{above, below, extent, face_of, high_cell, is_periodic, low_cell, moved, on, roots, sub_face, with, wrapped}
use Rattle.mesh_model.specs.Geometry.Places.{in_block}
use Rattle.mesh_model.specs.Geometry.Touch.{block_on, high_end, low_end}
use Rattle.mesh_model.specs.Tree.Kinds.{Grid, holds, is_leaf_block, is_split, is_split_block, is_split_face}
use Rattle.mesh_model.specs.Tree.ValidGrid.{Valid}
use Rattle.mesh_model.proofs.FieldLemmas.Beside.{three}
use Rattle.mesh_model.proofs.FieldLemmas.BlockOctants.{block_of_cell}
use Rattle.mesh_model.proofs.GeometryLemmas.Halves.{by_size}
use Rattle.mesh_model.proofs.GeometryLemmas.OnAxes.{on_with, with_level, with_with}
use Rattle.mesh_model.proofs.TreeLemmas.Levels.{calm_block, is_child, split_level}
use Rattle.mesh_model.proofs.TreeLemmas.Tiling.{IsChild, child_of_split, child_of_whole, double}
use Rattle.mesh_model.proofs.TreeLemmas.Touching.{Meet, Touch}
use Rattle.block_tree.specs.Beside.{beside_on, block_beside, block_moved, block_with, finer_beside, if_split}
use Rattle.block_tree.specs.SideFaces.{IsCalm, child_beside, face_name, octant_on, quarter_at, side_half, side_position, spot}
use Rattle.block_tree.proofs.SideAxes.{Neighbours, above_high, above_own, back, below_low, below_own, ends_meet, halves_meet, neighbours, seam}
use Rattle.block_tree.proofs.BlocksBeside.{whole_beside}

-- ---- cells of blocks by the places along an axis and across it

abbrev pub cell : ℕ → Axis → BlockAt → ℕ → ℕ → ℕ → CellAt
cell n a b p s t = in_block n b (spot a p s t).x (spot a p s t).y (spot a p s t).z

on_cell : (n : ℕ) (a : Axis) (b : BlockAt) (p s t : ℕ) → on a (cell n a b p s t) ≡ n * block_on a b + p
on_cell n X b p s t = refl
on_cell n Y b p s t = refl
on_cell n Z b p s t = refl

with_cell : (n : ℕ) (a : Axis) (b : BlockAt) (d p q s t : ℕ) → with a (n * d + q) (cell n a b p s t) ≡ cell n a (block_with a d b) q s t
with_cell n X b d p q s t = refl
with_cell n Y b d p q s t = refl
with_cell n Z b d p q s t = refl

own_cell : (n : ℕ) (a : Axis) (b : BlockAt) (p q s t : ℕ) → with a (n * block_on a b + q) (cell n a b p s t) ≡ cell n a b q s t
own_cell n X b p q s t = refl
own_cell n Y b p q s t = refl
own_cell n Z b p q s t = refl

-- it lies in the block
block_of_spot : (g : Grid) (a : Axis) (b : BlockAt) (p s t : ℕ) → p < g.shape.n → s < g.shape.n → t < g.shape.n → is_split g (cell g.shape.n a b p s t) ≡ is_split_block g b
block_of_spot g X b p s t hp hs ht = ap (is_split_block g) (block_of_cell g.shape.n b p s t hp hs ht)
block_of_spot g Y b p s t hp hs ht = ap (is_split_block g) (block_of_cell g.shape.n b s p t hs hp ht)
block_of_spot g Z b p s t hp hs ht = ap (is_split_block g) (block_of_cell g.shape.n b s t p hs ht hp)

-- ---- the cells beside a face

moved_again : (a : Axis) (o : Option ℕ) (p : ℕ) (c : CellAt) → moved a o (with a p c) ≡ moved a o c
moved_again a None p c = refl
moved_again a (Some r) p c = ap Some (with_with a r p c)

-- blocks side by side on an axis, and their cells
pub many : Shape → Axis → BlockAt → ℕ
many s a b = roots s a * 2 ^ b.level

extent_is : (s : Shape) (a : Axis) (l : ℕ) → extent s a l ≡ roots s a * 2 ^ l * s.n
extent_is s a l = grind arith

module _ (s : Shape) (a : Axis) (b : BlockAt) (p q r : ℕ) where
  abbrev position : ℕ
  position = wrapped (is_periodic s a) (roots s a * 2 ^ b.level * s.n) (s.n * block_on a b + p)

  name_is : face_name s a b p q r ≡ face_of a (with a position (cell s.n a b p q r))
  unfolding face_name
  name_is = ap₂ (λ e x. face_of a (with a (wrapped (is_periodic s a) e x) (cell s.n a b p q r))) (extent_is s a b.level) (on_cell s.n a b p q r)

  -- what lies beside the face by its position lies there by the position of the block's cell
  by_position : (beside : Bool → ℕ → ℕ → Option ℕ) → let c = with a position (cell s.n a b p q r) in
      moved a (beside (is_periodic s a) (extent s a c.level) (on a c)) c ≡ moved a (beside (is_periodic s a) (roots s a * 2 ^ b.level * s.n) position) (cell s.n a b p q r)
  by_position beside =
      let c = cell s.n a b p q r in
      ap₂ (λ l x. moved a (beside (is_periodic s a) (extent s a l) x) (with a position c)) (with_level a position c) (on_with a position c)
      ∙ ap (λ e. moved a (beside (is_periodic s a) e position) (with a position c)) (extent_is s a b.level)
      ∙ moved_again a (beside (is_periodic s a) (roots s a * 2 ^ b.level * s.n) position) position c

  low_is : low_cell s (face_name s a b p q r) ≡ moved a (below (is_periodic s a) (roots s a * 2 ^ b.level * s.n) position) (cell s.n a b p q r)
  low_is = ap (low_cell s) name_is ∙ by_position below

  high_is : high_cell s (face_name s a b p q r) ≡ moved a (above (is_periodic s a) (roots s a * 2 ^ b.level * s.n) position) (cell s.n a b p q r)
  high_is = ap (high_cell s) name_is ∙ by_position above

block_on_inside : (s : Shape) (a : Axis) (b : BlockAt) → InDomain s b → block_on a b < roots s a * 2 ^ b.level
block_on_inside s X b inside = inside.x
block_on_inside s Y b inside = inside.y
block_on_inside s Z b inside = inside.z

-- a cell of the block beside
cell_beside : (n : ℕ) (a : Axis) (b : BlockAt) (o : Option ℕ) (p x q r : ℕ) → moved a (option_map (λ d. n * d + x) o) (cell n a b p q r) ≡ option_map (λ d. cell n a d x q r) (block_moved a o b)
cell_beside n a b None p x q r = refl
cell_beside n a b (Some d) p x q r = ap Some (with_cell n a b d p x q r)

module _ (s : Shape) (a : Axis) (b : BlockAt) (q r : ℕ) (some : 0 < s.n) (inside : InDomain s b) where
  here : block_on a b < roots s a * 2 ^ b.level
  here = block_on_inside s a b inside

  pub low_outside : low_cell s (face_name s a b 0 q r) ≡ option_map (λ d. cell s.n a d (s.n - 1) q r) (block_beside s a false b)
  unfolding block_beside
  low_outside =
      low_is s a b 0 q r ∙ ap (λ o. moved a o (cell s.n a b 0 q r)) (below_low (is_periodic s a) (roots s a * 2 ^ b.level) s.n (block_on a b) some here)
      ∙ cell_beside s.n a b (below (is_periodic s a) (roots s a * 2 ^ b.level) (block_on a b)) 0 (s.n - 1) q r

  pub high_outside : high_cell s (face_name s a b s.n q r) ≡ option_map (λ d. cell s.n a d 0 q r) (block_beside s a true b)
  unfolding block_beside
  high_outside =
      high_is s a b s.n q r ∙ ap (λ o. moved a o (cell s.n a b s.n q r)) (above_high (is_periodic s a) (roots s a * 2 ^ b.level) s.n (block_on a b) some here)
      ∙ cell_beside s.n a b (above (is_periodic s a) (roots s a * 2 ^ b.level) (suc (block_on a b))) s.n 0 q r

  pub low_inside : (p : ℕ) → p < s.n → low_cell s (face_name s a b (suc p) q r) ≡ Some (cell s.n a b p q r)
  low_inside p h =
      low_is s a b (suc p) q r ∙ ap (λ o. moved a o (cell s.n a b (suc p) q r)) (below_own (is_periodic s a) (roots s a * 2 ^ b.level) s.n (block_on a b) some here p h)
      ∙ ap Some (own_cell s.n a b (suc p) p q r)

  pub high_inside : (p : ℕ) → p < s.n → high_cell s (face_name s a b p q r) ≡ Some (cell s.n a b p q r)
  high_inside p h =
      high_is s a b p q r ∙ ap (λ o. moved a o (cell s.n a b p q r)) (above_own (is_periodic s a) (roots s a * 2 ^ b.level) s.n (block_on a b) some here p h)
      ∙ ap Some (own_cell s.n a b p p q r)

-- ---- which faces of a block have a split side

calm_holds : (g : Grid) (o : Option BlockAt) (at : BlockAt → CellAt) → ((d : BlockAt) → is_split g (at d) ≡ is_split_block g d) → if_split g o ≡ None → holds (is_split g) (option_map at o) ≡ false
calm_holds g None at same none = refl
calm_holds g (Some d) at same none = elim (cases_Bool (is_split_block g d)) [
  | inl t ↦ (let there = ap (λ (u : Bool). if u then Some d else None) (sym t) ∙ none in cc)
  | inr f ↦ same d ∙ f
]

split_holds : (g : Grid) (o : Option BlockAt) (d : BlockAt) (at : BlockAt → CellAt) → ((d : BlockAt) → is_split g (at d) ≡ is_split_block g d) → if_split g o ≡ Some d → holds (is_split g) (option_map at o) ≡ true
split_holds g None d at same some = cc
split_holds g (Some e) d at same some = elim (cases_Bool (is_split_block g e)) [
  | inl t ↦ same e ∙ t
  | inr f ↦ (let there = ap (λ (u : Bool). if u then Some e else None) (sym f) ∙ some in cc)
]

or_nothing : (u : Bool) → (u || false) ≡ u
or_nothing true = refl
or_nothing false = refl

-- the place along the axis of the cells of the block beside
outer_place : ℕ → Bool → ℕ
outer_place n false = n - 1
outer_place n true = 0

module _ (g : Grid) (a : Axis) (b : BlockAt) (some : 0 < g.shape.n) (inside : InDomain g.shape b) (whole : is_split_block g b ≡ false) (s t : ℕ) (hs : s < g.shape.n) (ht : t < g.shape.n) where
  own_whole : (o : Option CellAt) (p : ℕ) → p < g.shape.n → o ≡ Some (cell g.shape.n a b p s t) → holds (is_split g) o ≡ false
  own_whole o p h is = ap (holds (is_split g)) is ∙ block_of_spot g a b p s t h hs ht ∙ whole

  side_split : (high : Bool) → is_split_face g (face_name g.shape a b (side_position g.shape.n high) s t)
      ≡ holds (is_split g) (option_map (λ d. cell g.shape.n a d (outer_place g.shape.n high) s t) (block_beside g.shape a high b))
  unfolding is_split_face outer_place
  side_split false =
      ap₂ (λ u v. u || v) (ap (holds (is_split g)) (low_outside g.shape a b s t some inside)) (own_whole _ 0 some (high_inside g.shape a b s t some inside 0 some)) ∙ or_nothing _
  side_split true =
      let top : suc (g.shape.n - 1) ≡ g.shape.n = omega arith in
      let below_top : g.shape.n - 1 < g.shape.n = omega arith in
      ap₂ (λ u v. u || v) (own_whole _ (g.shape.n - 1) below_top (ap (λ m. low_cell g.shape (face_name g.shape a b m s t)) (sym top) ∙ low_inside g.shape a b s t some inside (g.shape.n - 1) below_top))
      (ap (holds (is_split g)) (high_outside g.shape a b s t some inside))

  inner_split : (p : ℕ) → suc p < g.shape.n → is_split_face g (face_name g.shape a b (suc p) s t) ≡ false
  unfolding is_split_face
  inner_split p h =
      let less : p < g.shape.n = omega arith in
      ap₂ (λ u v. u || v) (own_whole _ p less (low_inside g.shape a b s t some inside p less)) (own_whole _ (suc p) h (high_inside g.shape a b s t some inside (suc p) h))

  outer_lies : (high : Bool) (d : BlockAt) → is_split g (cell g.shape.n a d (outer_place g.shape.n high) s t) ≡ is_split_block g d
  unfolding outer_place
  outer_lies false d = block_of_spot g a d (g.shape.n - 1) s t (omega arith) hs ht
  outer_lies true d = block_of_spot g a d 0 s t some hs ht

  pub calm_side : (high : Bool) → finer_beside g a high b ≡ None → is_split_face g (face_name g.shape a b (side_position g.shape.n high) s t) ≡ false
  unfolding finer_beside
  calm_side high none = side_split high ∙ calm_holds g (block_beside g.shape a high b) (λ d. cell g.shape.n a d (outer_place g.shape.n high) s t) (outer_lies high) none

  -- a face beside a split block is split, and one that is not beside one is not
  pub split_face : (high : Bool) (d : BlockAt) → finer_beside g a high b ≡ Some d → is_split_face g (face_name g.shape a b (side_position g.shape.n high) s t) ≡ true
  unfolding finer_beside
  split_face high d is = side_split high ∙ split_holds g (block_beside g.shape a high b) d (λ e. cell g.shape.n a e (outer_place g.shape.n high) s t) (outer_lies high) is

  pub calm_face : (p : ℕ) → p ≤ g.shape.n → IsCalm g a b p → is_split_face g (face_name g.shape a b p s t) ≡ false
  calm_face zero h calm = calm_side false (calm false refl)
  calm_face (suc p) h calm = elim (cases_lt (suc p) g.shape.n) [
    | inl less ↦ inner_split p less
    | inr more ↦ (let top : suc p ≡ g.shape.n = omega arith in ap (λ m. is_split_face g (face_name g.shape a b m s t)) top ∙ calm_side true (calm true top))
  ]

-- ---- children of the block beside

-- the half of a block at p on an axis, in its quarter q across it
pub half_block : Axis → BlockAt → ℕ → ℕ → BlockAt
half_block X b p q = record { level = suc b.level; x = p; y = 2 * b.y + q % 2; z = 2 * b.z + q / 2 % 2 }
half_block Y b p q = record { level = suc b.level; x = 2 * b.x + q % 2; y = p; z = 2 * b.z + q / 2 % 2 }
half_block Z b p q = record { level = suc b.level; x = 2 * b.x + q % 2; y = 2 * b.y + q / 2 % 2; z = p }

same_block : (b c : BlockAt) → b.level ≡ c.level → b.x ≡ c.x → b.y ≡ c.y → b.z ≡ c.z → b ≡ c
same_block b c l x y z = λ i. record { level = l i; x = x i; y = y i; z = z i }

child_half : (a : Axis) (b : BlockAt) (x h q : ℕ) → h < 2 → child_block (block_with a x b) (octant_on a h q) ≡ half_block a b (2 * x + h) q
unfolding half_block
child_half X b x h q l = same_block _ _ refl (omega arith) (omega arith) (omega arith)
child_half Y b x h q l = same_block _ _ refl (omega arith) (omega arith) (omega arith)
child_half Z b x h q l = same_block _ _ refl (omega arith) (omega arith) (omega arith)

block_again : (a : Axis) (b : BlockAt) → block_with a (block_on a b) b ≡ b
block_again X b = refl
block_again Y b = refl
block_again Z b = refl

with_level_of : (a : Axis) (x : ℕ) (b : BlockAt) → (block_with a x b).level ≡ b.level
with_level_of X x b = refl
with_level_of Y x b = refl
with_level_of Z x b = refl

half_less : (high : Bool) → side_half high < 2
half_less false = omega arith
half_less true = omega arith

own_half : (a : Axis) (b : BlockAt) (high : Bool) (q : ℕ) → half_block a b (2 * block_on a b + side_half high) q ≡ child_block b (octant_on a (side_half high) q)
own_half a b high q = sym (child_half a b (block_on a b) (side_half high) q (half_less high)) ∙ ap (λ d. child_block d (octant_on a (side_half high) q)) (block_again a b)

with_half : (a : Axis) (b : BlockAt) (p r q : ℕ) → block_with a r (half_block a b p q) ≡ half_block a b r q
unfolding half_block
with_half X b p r q = refl
with_half Y b p r q = refl
with_half Z b p r q = refl

moved_half : (a : Axis) (b : BlockAt) (p q : ℕ) (o : Option ℕ) → block_moved a o (half_block a b p q) ≡ option_map (λ r. half_block a b r q) o
moved_half a b p q None = refl
moved_half a b p q (Some r) = ap Some (with_half a b p r q)

half_level : (a : Axis) (b : BlockAt) (p q : ℕ) → (half_block a b p q).level ≡ suc b.level
unfolding half_block
half_level X b p q = refl
half_level Y b p q = refl
half_level Z b p q = refl

half_on : (a : Axis) (b : BlockAt) (p q : ℕ) → block_on a (half_block a b p q) ≡ p
unfolding half_block
half_on X b p q = refl
half_on Y b p q = refl
half_on Z b p q = refl

-- the half beside a half
beside_half : (s : Shape) (a : Axis) (high : Bool) (b : BlockAt) (p q : ℕ) (o : Option ℕ) → beside_on (is_periodic s a) high (2 * (roots s a * 2 ^ b.level)) p ≡ o →
    block_beside s a high (half_block a b p q) ≡ option_map (λ r. half_block a b r q) o
unfolding block_beside
beside_half s a high b p q o is =
    ap₂ (λ l x. block_moved a (beside_on (is_periodic s a) high (roots s a * 2 ^ l) x) (half_block a b p q)) (half_level a b p q) (half_on a b p q)
    ∙ ap (λ e. block_moved a (beside_on (is_periodic s a) high e p) (half_block a b p q)) (double (roots s a) b.level)
    ∙ ap (λ u. block_moved a u (half_block a b p q)) is ∙ moved_half a b p q o

-- halves that meet on their axis touch
close_same : (p : Bool) (r l u : ℕ) → l ≤ 10 → Meet p (r * 2 ^ 10) (low_end l u) (high_end l u) (low_end l u) (high_end l u)
close_same p r l u h = ends_meet p r l u u h (inl (omega arith, omega arith))

close_double : (s : Shape) (a : Axis) (l u w : ℕ) → suc l ≤ 10 → Meet (is_periodic s a) (2 * (roots s a * 2 ^ l)) u (suc u) w (suc w) →
    Meet (is_periodic s a) (roots s a * 2 ^ 10) (low_end (suc l) u) (high_end (suc l) u) (low_end (suc l) w) (high_end (suc l) w)
close_double s a l u w h meet = ends_meet (is_periodic s a) (roots s a) (suc l) u w h (subst (λ e. Meet (is_periodic s a) e u (suc u) w (suc w)) (sym (double (roots s a) l)) meet)

halves_touch : (s : Shape) (a : Axis) (b : BlockAt) (q u w : ℕ) → suc b.level ≤ 10 → Meet (is_periodic s a) (2 * (roots s a * 2 ^ b.level)) u (suc u) w (suc w) → Touch s (half_block a b u q) (half_block a b w q)
unfolding half_block
halves_touch s X b q u w h meet = record { on = three _ (close_double s X b.level u w h meet) (close_same _ _ _ _ h) (close_same _ _ _ _ h) }
halves_touch s Y b q u w h meet = record { on = three _ (close_same _ _ _ _ h) (close_double s Y b.level u w h meet) (close_same _ _ _ _ h) }
halves_touch s Z b q u w h meet = record { on = three _ (close_same _ _ _ _ h) (close_same _ _ _ _ h) (close_double s Z b.level u w h meet) }

-- ---- what stands beside a leaf

record IsSplitThere (g : Grid) (a : Axis) (high : Bool) (b d : BlockAt) : Type 0 where
  at : ℕ
  beside : beside_on (is_periodic g.shape a) high (roots g.shape a * 2 ^ b.level) (block_on a b) ≡ Some at
  block : block_with a at b ≡ d
  split : is_split_block g d ≡ true

if_split_says : (g : Grid) (o : Option BlockAt) (d : BlockAt) → if_split g o ≡ Some d → (o ≡ Some d) × (is_split_block g d ≡ true)
if_split_says g None d is = cc
if_split_says g (Some e) d is = elim (cases_Bool (is_split_block g e)) [
  | inl t ↦ (
      let there : Some e ≡ Some d = ap (λ (u : Bool). if u then Some e else None) (sym t) ∙ is in
      let same : e ≡ d = cc in
      (there, ap (is_split_block g) (sym same) ∙ t))
  | inr f ↦ (let there = ap (λ (u : Bool). if u then Some e else None) (sym f) ∙ is in cc)
]

moved_says : (g : Grid) (a : Axis) (high : Bool) (b d : BlockAt) (o : Option ℕ) → beside_on (is_periodic g.shape a) high (roots g.shape a * 2 ^ b.level) (block_on a b) ≡ o →
    block_moved a o b ≡ Some d → is_split_block g d ≡ true → IsSplitThere g a high b d
moved_says g a high b d None is there split = cc
moved_says g a high b d (Some x) is there split = record { at = x; beside = is; block = cc; split = split }

split_there : (g : Grid) (a : Axis) (high : Bool) (b d : BlockAt) → finer_beside g a high b ≡ Some d → IsSplitThere g a high b d
unfolding finer_beside block_beside
split_there g a high b d is = let both = if_split_says g (block_beside g.shape a high b) d is in moved_says g a high b d _ refl both.0 both.1

module _ (g : Grid) (valid : Valid g) (a : Axis) (high : Bool) (b d : BlockAt) (inside : InDomain g.shape b) (whole : is_split_block g b ≡ false) (finer : finer_beside g a high b ≡ Some d) (q : ℕ) where
  there : IsSplitThere g a high b d
  there = split_there g a high b d finer

  side_by_side : Neighbours (is_periodic g.shape a) (roots g.shape a * 2 ^ b.level) high (block_on a b) there.at
  side_by_side = neighbours (is_periodic g.shape a) high (roots g.shape a * 2 ^ b.level) (block_on a b) there.at (block_on_inside g.shape a b inside) there.beside

  child_is : child_beside a high q d ≡ half_block a b (2 * there.at + side_half (not high)) q
  child_is = ap (λ e. child_block e (octant_on a (side_half (not high)) q)) (sym there.block) ∙ child_half a b there.at (side_half (not high)) q (half_less (not high))

  -- beyond the child stands a child of the leaf
  pub back_again : block_beside g.shape a (not high) (child_beside a high q d) ≡ Some (child_block b (octant_on a (side_half high) q))
  back_again =
      ap (block_beside g.shape a (not high)) child_is
      ∙ beside_half g.shape a (not high) b (2 * there.at + side_half (not high)) q (Some (2 * block_on a b + side_half high))
      (back (is_periodic g.shape a) high (roots g.shape a * 2 ^ b.level) (block_on a b) there.at (block_on_inside g.shape a b inside) side_by_side)
      ∙ ap Some (own_half a b high q)

  -- which is not split
  pub calm_child : finer_beside g a (not high) (child_beside a high q d) ≡ None
  calm_child =
      let c = child_block b (octant_on a (side_half high) q) in
      whole_beside g a (not high) (child_beside a high q d) c back_again (child_of_whole g c b (is_child b (octant_on a (side_half high) q)) whole)

  deep : suc b.level ≤ 10
  deep = let lower = split_level g valid.tiles valid.shape.max d there.split in let same = ap (λ (e : BlockAt). e.level) there.block in let level = with_level_of a there.at b in let top = valid.shape.max in omega arith

  child_whole : is_split_block g (child_beside a high q d) ≡ false
  child_whole =
      let u = 2 * block_on a b + side_half high in
      let w = 2 * there.at + side_half (not high) in
      ap (is_split_block g) child_is
      ∙ calm_block g valid.tiles valid.shape.max valid.rule (half_block a b u q) (half_block a b w q) b (subst (λ e. IsChild e b) (sym (own_half a b high q)) (is_child b (octant_on a (side_half high) q)))
      whole inside (half_level a b w q ∙ sym (half_level a b u q))
      (λ h. halves_touch g.shape a b q u w deep (halves_meet (is_periodic g.shape a) high (roots g.shape a * 2 ^ b.level) (block_on a b) there.at side_by_side))

  -- the child is a leaf, by the level rule
  pub child_leaf : is_leaf_block g (child_beside a high q d) ≡ true
  child_leaf = child_of_split g valid.tiles (child_beside a high q d) d (is_child d (octant_on a (side_half (not high)) q)) there.split child_whole

-- ---- the finer faces at a face

same_face : (f h : FaceAt) → f.axis ≡ h.axis → f.level ≡ h.level → f.x ≡ h.x → f.y ≡ h.y → f.z ≡ h.z → f ≡ h
same_face f h a l x y z = λ i. record { axis = a i; level = l i; x = x i; y = y i; z = z i }

first_across : (n y s t r : ℕ) → (n ≡ 4) ⊎ (n ≡ 8) → s < n → n * (2 * y + quarter_at n s t % 2) + (2 * (s % (n / 2)) + r) ≡ 2 * (n * y + s) + r
first_across n y s t r size = by_size (λ m. s < m → m * (2 * y + quarter_at m s t % 2) + (2 * (s % (m / 2)) + r) ≡ 2 * (m * y + s) + r) n size (λ h. omega arith) (λ h. omega arith)

second_across : (n y s t r : ℕ) → (n ≡ 4) ⊎ (n ≡ 8) → s < n → t < n → n * (2 * y + quarter_at n s t / 2 % 2) + (2 * (t % (n / 2)) + r) ≡ 2 * (n * y + t) + r
second_across n y s t r size = by_size (λ m. s < m → t < m → m * (2 * y + quarter_at m s t / 2 % 2) + (2 * (t % (m / 2)) + r) ≡ 2 * (m * y + t) + r) n size (λ h l. omega arith) (λ h l. omega arith)

finer_named : (s : Shape) (a : Axis) (b : BlockAt) (p k x y z i j r : ℕ) → (s.n ≡ 4) ⊎ (s.n ≡ 8) → i < s.n → j < s.n →
    position s a (half_block a b p (quarter_at s.n i j)) k x y ≡ 2 * position s a b z i j + 0 → x ≡ 2 * (i % (s.n / 2)) + r % 2 → y ≡ 2 * (j % (s.n / 2)) + r / 2 % 2 →
    face_of a (with a (position s a (half_block a b p (quarter_at s.n i j)) k x y) (cell s.n a (half_block a b p (quarter_at s.n i j)) k x y)) ≡ sub_face (face_of a (with a (position s a b z i j) (cell s.n a b z i j))) r
unfolding half_block
finer_named s X b p k x y z i j r size hi hj at ex ey =
    let q = quarter_at s.n i j in
    same_face _ _ refl refl at (ap (λ u. s.n * (2 * b.y + q % 2) + u) ex ∙ first_across s.n b.y i j (r % 2) size hi) (ap (λ u. s.n * (2 * b.z + q / 2 % 2) + u) ey ∙ second_across s.n b.z i j (r / 2 % 2) size hi hj)
finer_named s Y b p k x y z i j r size hi hj at ex ey =
    let q = quarter_at s.n i j in
    same_face _ _ refl refl (ap (λ u. s.n * (2 * b.x + q % 2) + u) ex ∙ first_across s.n b.x i j (r % 2) size hi) at (ap (λ u. s.n * (2 * b.z + q / 2 % 2) + u) ey ∙ second_across s.n b.z i j (r / 2 % 2) size hi hj)
finer_named s Z b p k x y z i j r size hi hj at ex ey =
    let q = quarter_at s.n i j in
    same_face _ _ refl refl (ap (λ u. s.n * (2 * b.x + q % 2) + u) ex ∙ first_across s.n b.x i j (r % 2) size hi) (ap (λ u. s.n * (2 * b.y + q / 2 % 2) + u) ey ∙ second_across s.n b.y i j (r / 2 % 2) size hi hj) at

twice_as_many : (r l n : ℕ) → r * 2 ^ suc l * n ≡ 2 * (r * 2 ^ l * n)
twice_as_many r l n = grind arith

-- the faces of the child beside a leaf are the finer faces of the leaf's
module _ (g : Grid) (a : Axis) (high : Bool) (b d : BlockAt) (size : (g.shape.n ≡ 4) ⊎ (g.shape.n ≡ 8)) (some : 0 < g.shape.n) (inside : InDomain g.shape b) (finer : finer_beside g a high b ≡ Some d) (i j r : ℕ) (hi : i < g.shape.n) (hj : j < g.shape.n) where
  pub finer_name : face_name g.shape a (child_beside a high (quarter_at g.shape.n i j) d) (side_position g.shape.n (not high)) (2 * (i % (g.shape.n / 2)) + r % 2) (2 * (j % (g.shape.n / 2)) + r / 2 % 2)
      ≡ sub_face (face_name g.shape a b (side_position g.shape.n high) i j) r
  finer_name =
      let s = g.shape in
      let n = s.n in
      let is = split_there g a high b d finer in
      let e = roots s a * 2 ^ b.level in
      let q = quarter_at n i j in
      let h = side_half (not high) in
      let p = 2 * is.at + h in
      let k = side_position n (not high) in
      let x = 2 * (i % (n / 2)) + r % 2 in
      let y = 2 * (j % (n / 2)) + r / 2 % 2 in
      let side_by_side = neighbours (is_periodic s a) high e (block_on a b) is.at (block_on_inside s a b inside) is.beside in
      let child : child_beside a high q d ≡ half_block a b p q = ap (λ u. child_block u (octant_on a h q)) (sym is.block) ∙ child_half a b is.at h q (half_less (not high)) in
      let at : position s a (half_block a b p q) k x y ≡ 2 * position s a b (side_position n high) i j + 0 =
      ap₂ (λ l u. wrapped (is_periodic s a) (roots s a * 2 ^ l * n) (n * u + k)) (half_level a b p q) (half_on a b p q)
      ∙ ap (λ u. wrapped (is_periodic s a) u (n * p + k)) (twice_as_many (roots s a) b.level n)
      ∙ seam (is_periodic s a) e n (block_on a b) is.at some (block_on_inside s a b inside) high side_by_side ∙ omega arith in
      ap (λ c. face_name s a c k x y) child ∙ name_is s a (half_block a b p q) k x y
      ∙ finer_named s a b p k x y (side_position n high) i j r size hi hj at refl refl
      ∙ ap (λ f. sub_face f r) (sym (name_is s a b (side_position n high) i j))
