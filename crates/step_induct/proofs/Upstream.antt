-- The faces upstream of a block's edges stand in its arrays beside them, and both names of an edge have them.
use Rattle.std.proofs.Common.{◌≡◌, ℕ, zero, suc, ◌+◌, ◌-◌, ◌*◌, ◌%◌, ◌^◌, ◌<◌, ◌≤◌, Bool, true, false, ◌&&◌, ◌||◌, ◌==◌, ℤ, pos, negsuc, refl, sym, ap, subst, ◌∙◌, arith, inl, inr, eqb-true, lt-ltb, le-ltb, mod-eq_of_lt}
use Rattle.std.specs.Prelude.{if◌then◌else◌}
use Rattle.std.proofs.Math.Nat.{mod_self}
use Rattle.std.proofs.lemmas.Bool.{and_parts, cases_Bool, cases_lt}
use Rattle.std.proofs.lemmas.Int.{ints}
use Rattle.amr_num.specs.declared.Axis.{Axis}
use Rattle.amr_num.specs.declared.Axis.TheVariants.{X, Y, Z}
use Rattle.amr_num.specs.declared.BlockAt.{BlockAt}
use Rattle.amr_num.specs.declared.CellAt.{CellAt}
use Rattle.amr_num.specs.declared.FaceAt.{FaceAt}
use Rattle.amr_num.specs.declared.SideKind.{SideKind}
use Rattle.amr_num.specs.declared.SideKind.TheVariants.{Periodic, Outflow, Closed}
use Rattle.mesh_model.specs.declared.geometry.Shape.{Shape}
use Rattle.mesh_model.specs.Fields.Advect.{above_or, below_or, blown_from, is_closed_at, is_closed_kind}
use Rattle.mesh_model.specs.Fields.ArrayPlaces.{face_extents, face_there}
use Rattle.mesh_model.specs.Fields.Laws.{upstream}
use Rattle.mesh_model.specs.Geometry.Blocks.{InDomain}
use Rattle.mesh_model.specs.Geometry.Canonical.{canonical_on}
use Rattle.mesh_model.specs.Geometry.Coordinates.{extent, face_of, is_periodic, is_periodic_kind, next, on, side_index, side_kind, step, with, wrapped}
use Rattle.mesh_model.specs.Geometry.Limits.{IsShape}
use Rattle.mesh_model.specs.Geometry.Outside.{brought_in, cell_in}
use Rattle.mesh_model.specs.Geometry.Places.{guard_index, in_block, longer_across}
use Rattle.mesh_model.proofs.FieldLemmas.Donors.{donor_inside}
use Rattle.mesh_model.proofs.FieldLemmas.Sums.{wrapped_inside}
use Rattle.mesh_model.proofs.GeometryLemmas.OnAxes.{on_with}
use Rattle.mesh_model.proofs.GeometryLemmas.ShapeLimits.{extent_some}
use Rattle.step_induct.specs.Forces.{places_back}
use Rattle.step_induct.proofs.Left.{position_inside, wrapped_last}

-- ---- both names of a position

-- the coordinate beside a position that a speed comes from
beside : ℤ → Bool → ℕ → ℕ → ℕ
beside (pos n) periodic e p = below_or periodic e p
beside (negsuc n) periodic e p = above_or periodic e p

blown_is : (s : Shape) (a : Axis) (m : ℤ) (c : CellAt) → blown_from s a m c ≡ with a (beside m (is_periodic s a) (extent s a c.level) (on a c)) c
unfolding beside
blown_is s a (pos n) c = refl
blown_is s a (negsuc n) c = refl

-- it is the same at both ends of a periodic axis
beside_seam : (m : ℤ) (e : ℕ) → 0 < e → beside m true e e ≡ beside m true e 0
unfolding beside
beside_seam (pos n) zero h = absurd (omega arith)
beside_seam (pos n) (suc q) h = omega arith
beside_seam (negsuc n) e h = rw (le-ltb e e (omega arith), lt-ltb 0 e h) refl

-- what both ends of a periodic axis have alike, a position and its name have
named_same : {A : Type 0} (f : ℕ → A) (periodic : Bool) (e p : ℕ) → (periodic ≡ true → f e ≡ f 0) → f p ≡ f (wrapped periodic e p)
unfolding wrapped
named_same f periodic e p seam = elim (cases_Bool (periodic && (p == e))) [
  | inl t ↦
      (let both = and_parts periodic (p == e) t in
      ap f (eqb-true p e both.1) ∙ seam both.0 ∙ ap (λ u. f (if u then 0 else p)) (sym t))
  | inr n ↦ ap (λ u. f (if u then 0 else p)) (sym n)
]

beside_named : (m : ℤ) (periodic : Bool) (e p : ℕ) → 0 < e → beside m periodic e p ≡ beside m periodic e (wrapped periodic e p)
beside_named m periodic e p some = named_same (beside m periodic e) periodic e p (λ is. subst (λ t. beside m t e e ≡ beside m t e 0) (sym is) (beside_seam m e some))

-- ---- places of a block

wrapped_plain : (e p : ℕ) → wrapped false e p ≡ p
unfolding wrapped
wrapped_plain e p = refl

-- a position of a block stands for its name
position_named : (periodic : Bool) (e p : ℕ) → p ≤ e → brought_in periodic e e (pos p) ≡ wrapped periodic e p
position_named true e p le = elim (cases_lt p e) [
  | inl inside ↦ mod-eq_of_lt inside ∙ sym (wrapped_inside e p inside)
  | inr end ↦
      (let last : p ≡ e = omega arith in
      ap (λ q. q % e) last ∙ mod_self e ∙ sym (wrapped_last e) ∙ ap (wrapped true e) (sym last))
]
position_named false e p le = let low : brought_in false e e (pos p) ≡ p = omega arith in low ∙ sym (wrapped_plain e p)

-- a block's own place stands where it is
place_is : (n g b i : ℕ) → guard_index n g b (g + i - 0) ≡ pos (n * b + i)
place_is n g b i = omega (arith, ints)

own_position : (periodic : Bool) (e n g b i : ℕ) → n * b + i ≤ e → brought_in periodic e e (guard_index n g b (g + i - 0)) ≡ wrapped periodic e (n * b + i)
own_position periodic e n g b i le = ap (brought_in periodic e e) (place_is n g b i) ∙ position_named periodic e (n * b + i) le

brought_same : (periodic : Bool) (e p : ℕ) → p < e → brought_in periodic e (e - 1) (pos p) ≡ p
brought_same true e p h = mod-eq_of_lt h
brought_same false e p h = omega arith

own_cell : (periodic : Bool) (e n g b i : ℕ) → n * b + i < e → brought_in periodic e (e - 1) (guard_index n g b (g + i - 0)) ≡ n * b + i
own_cell periodic e n g b i h = ap (brought_in periodic e (e - 1)) (place_is n g b i) ∙ brought_same periodic e (n * b + i) h

-- and the place that a speed comes from stands upstream
place_back : (m : ℤ) (n g b i : ℕ) → 1 ≤ g → guard_index n g b (g + i - places_back m) ≡ upstream m (n * b + i)
place_back (pos q) n g b i some = omega (arith, ints)
place_back (negsuc q) n g b i some = omega (arith, ints)

upstream_is : (s : Shape) (a : Axis) (m : ℤ) (c : CellAt) → IsShape s → on a c ≤ extent s a c.level →
    cell_in s a c.level (upstream m (on a c)) ≡ beside m (is_periodic s a) (extent s a c.level) (wrapped (is_periodic s a) (extent s a c.level) (on a c))
upstream_is s a m c shape le =
    sym (on_with a (cell_in s a c.level (upstream m (on a c))) c) ∙ ap (on a) (sym (donor_inside s a m c shape le) ∙ blown_is s a m c)
    ∙ on_with a (beside m (is_periodic s a) (extent s a c.level) (on a c)) c
    ∙ beside_named m (is_periodic s a) (extent s a c.level) (on a c) (extent_some shape a c.level)

cell_below : (r n l b i : ℕ) → b < r * 2 ^ l → i < n → n * b + i < r * n * 2 ^ l
cell_below r n l b i hb hi =
    let next_one = position_inside r n l b (i + 1) hb (omega arith) in
    omega arith

face : Axis → ℕ → ℕ → ℕ → ℕ → FaceAt
face a l x y z = record { axis = a; level = l; x = x; y = y; z = z }

same_face : (a : Axis) (l x y z u v w : ℕ) → x ≡ u → y ≡ v → z ≡ w → face a l x y z ≡ face a l u v w
same_face a l x y z u v w hx hy hz = λ t. face a l (hx t) (hy t) (hz t)

module _ (s : Shape) (b : BlockAt) (i j k : ℕ) (shape : IsShape s) (inside : InDomain s b) (guards : 1 ≤ s.g) (m : ℤ) where
  abbrev c : CellAt
  c = in_block s.n b i j k

  -- the canonical name of the edge along an axis there, by its numbers
  abbrev name : Axis → CellAt
  name a = canonical_on s (next a) (canonical_on s (next (next a)) c)

  cell_x : i < s.n → cell_in s X b.level (guard_index s.n s.g b.x (s.g + i - 0)) ≡ s.n * b.x + i
  cell_x h = own_cell (is_periodic s X) (extent s X b.level) s.n s.g b.x i (cell_below s.rx s.n b.level b.x i inside.x h)

  cell_y : j < s.n → cell_in s Y b.level (guard_index s.n s.g b.y (s.g + j - 0)) ≡ s.n * b.y + j
  cell_y h = own_cell (is_periodic s Y) (extent s Y b.level) s.n s.g b.y j (cell_below s.ry s.n b.level b.y j inside.y h)

  cell_z : k < s.n → cell_in s Z b.level (guard_index s.n s.g b.z (s.g + k - 0)) ≡ s.n * b.z + k
  cell_z h = own_cell (is_periodic s Z) (extent s Z b.level) s.n s.g b.z k (cell_below s.rz s.n b.level b.z k inside.z h)

  pos_x : i ≤ s.n → brought_in (is_periodic s X) (extent s X b.level) (extent s X b.level) (guard_index s.n s.g b.x (s.g + i - 0)) ≡ wrapped (is_periodic s X) (extent s X b.level) (s.n * b.x + i)
  pos_x h = own_position (is_periodic s X) (extent s X b.level) s.n s.g b.x i (position_inside s.rx s.n b.level b.x i inside.x h)

  pos_y : j ≤ s.n → brought_in (is_periodic s Y) (extent s Y b.level) (extent s Y b.level) (guard_index s.n s.g b.y (s.g + j - 0)) ≡ wrapped (is_periodic s Y) (extent s Y b.level) (s.n * b.y + j)
  pos_y h = own_position (is_periodic s Y) (extent s Y b.level) s.n s.g b.y j (position_inside s.ry s.n b.level b.y j inside.y h)

  pos_z : k ≤ s.n → brought_in (is_periodic s Z) (extent s Z b.level) (extent s Z b.level) (guard_index s.n s.g b.z (s.g + k - 0)) ≡ wrapped (is_periodic s Z) (extent s Z b.level) (s.n * b.z + k)
  pos_z h = own_position (is_periodic s Z) (extent s Z b.level) s.n s.g b.z k (position_inside s.rz s.n b.level b.z k inside.z h)

  up_x : i ≤ s.n → cell_in s X b.level (guard_index s.n s.g b.x (s.g + i - places_back m)) ≡ beside m (is_periodic s X) (extent s X b.level) (wrapped (is_periodic s X) (extent s X b.level) (s.n * b.x + i))
  up_x h = ap (cell_in s X b.level) (place_back m s.n s.g b.x i guards) ∙ upstream_is s X m c shape (position_inside s.rx s.n b.level b.x i inside.x h)

  up_y : j ≤ s.n → cell_in s Y b.level (guard_index s.n s.g b.y (s.g + j - places_back m)) ≡ beside m (is_periodic s Y) (extent s Y b.level) (wrapped (is_periodic s Y) (extent s Y b.level) (s.n * b.y + j))
  up_y h = ap (cell_in s Y b.level) (place_back m s.n s.g b.y j guards) ∙ upstream_is s Y m c shape (position_inside s.ry s.n b.level b.y j inside.y h)

  up_z : k ≤ s.n → cell_in s Z b.level (guard_index s.n s.g b.z (s.g + k - places_back m)) ≡ beside m (is_periodic s Z) (extent s Z b.level) (wrapped (is_periodic s Z) (extent s Z b.level) (s.n * b.z + k))
  up_z h = ap (cell_in s Z b.level) (place_back m s.n s.g b.z k guards) ∙ upstream_is s Z m c shape (position_inside s.rz s.n b.level b.z k inside.z h)

  -- the place upstream on an axis of the face normal to another
  abbrev there : Axis → Axis → FaceAt
  there p q = let h = step q (places_back m) in face_there s p b (s.g + i - h.x) (s.g + j - h.y) (s.g + k - h.z)

  abbrev blown : Axis → Axis → CellAt → FaceAt
  blown p q d = face_of p (blown_from s q m d)

  abbrev beside_of : Axis → Axis → CellAt → FaceAt
  beside_of p q d = face_of p (with q (beside m (is_periodic s q) (extent s q d.level) (on q d)) d)

  to_blown : (p q : Axis) (d : CellAt) → beside_of p q d ≡ blown p q d
  to_blown p q d = ap (face_of p) (sym (blown_is s q m d))

  -- of an edge along an axis: the face normal to the next axis upstream on the one after
  pub first_there : (a : Axis) → i < longer_across a X s.n → j < longer_across a Y s.n → k < longer_across a Z s.n → there (next a) (next (next a)) ≡ blown (next a) (next (next a)) (name a)
  unfolding face
  first_there X hi hj hk = same_face Y b.level _ _ _ _ _ _ (cell_x hi) (pos_y (omega arith)) (up_z (omega arith)) ∙ to_blown Y Z (name X)
  first_there Y hi hj hk = same_face Z b.level _ _ _ _ _ _ (up_x (omega arith)) (cell_y hj) (pos_z (omega arith)) ∙ to_blown Z X (name Y)
  first_there Z hi hj hk = same_face X b.level _ _ _ _ _ _ (pos_x (omega arith)) (up_y (omega arith)) (cell_z hk) ∙ to_blown X Y (name Z)

  -- and the face normal to the one after upstream on the next
  pub second_there : (a : Axis) → i < longer_across a X s.n → j < longer_across a Y s.n → k < longer_across a Z s.n → there (next (next a)) (next a) ≡ blown (next (next a)) (next a) (name a)
  unfolding face
  second_there X hi hj hk = same_face Z b.level _ _ _ _ _ _ (cell_x hi) (up_y (omega arith)) (pos_z (omega arith)) ∙ to_blown Z Y (name X)
  second_there Y hi hj hk = same_face X b.level _ _ _ _ _ _ (pos_x (omega arith)) (cell_y hj) (up_z (omega arith)) ∙ to_blown X Z (name Y)
  second_there Z hi hj hk = same_face Y b.level _ _ _ _ _ _ (up_x (omega arith)) (pos_y (omega arith)) (cell_z hk) ∙ to_blown Y X (name Z)

-- places upstream are places of the arrays
pub upstream_places : (n g : ℕ) (a : Axis) (i j k u v w : ℕ) → 1 ≤ g → i ≤ n → j ≤ n → k ≤ n → let e = face_extents n g a in (g + i - u < e.x) × (g + j - v < e.y) × (g + k - w < e.z)
upstream_places n g X i j k u v w some hi hj hk = (omega arith, omega arith, omega arith)
upstream_places n g Y i j k u v w some hi hj hk = (omega arith, omega arith, omega arith)
upstream_places n g Z i j k u v w some hi hj hk = (omega arith, omega arith, omega arith)

-- ---- closed sides

open_kind : (k : SideKind) → is_periodic_kind k ≡ true → is_closed_kind k ≡ false
open_kind Periodic h = refl
open_kind Outflow h = cc
open_kind Closed h = cc

no_closed : (a b c d : Bool) → b ≡ false → d ≡ false → ((a && b) || (c && d)) ≡ false
no_closed true b true d hb hd = rw (hb, hd) refl
no_closed true b false d hb hd = rw hb refl
no_closed false b true d hb hd = hd
no_closed false b false d hb hd = refl

-- no position of a periodic axis is a closed side
seam_open : (s : Shape) (a : Axis) (l p : ℕ) → IsShape s → is_periodic s a ≡ true → is_closed_at s a l p ≡ false
seam_open s a l p shape periodic =
    no_closed (p == 0) _ (p == extent s a l) _ (open_kind (side_kind s.sides (side_index a)) periodic) (open_kind (side_kind s.sides (suc (side_index a))) (sym (shape.both a) ∙ periodic))

-- so a position is closed where its name is
pub closed_named : (s : Shape) (a : Axis) (l p : ℕ) → IsShape s → is_closed_at s a l p ≡ is_closed_at s a l (wrapped (is_periodic s a) (extent s a l) p)
closed_named s a l p shape = named_same (is_closed_at s a l) (is_periodic s a) (extent s a l) p (λ is. seam_open s a l (extent s a l) shape is ∙ sym (seam_open s a l 0 shape is))
