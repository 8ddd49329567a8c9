-- Cells side by side lie in blocks that touch, and so no side of a cell that is not split is split beyond its subfaces.
use Rattle.std.proofs.Common.{◌≡◌, ℕ, zero, suc, ◌+◌, ◌-◌, ◌*◌, ◌/◌, ◌^◌, ◌<◌, ◌≤◌, ◌⊎◌, Bool, true, false, ◌||◌, refl, sym, ap, ◌∙◌, arith, inl, inr, subst, Option, Some, None, eq-eqb, ne_eqb}
use Rattle.std.proofs.Math.Nat.{div-lt_iff_lt-mul, lt-div-mul-add, div-mul-le_self, mul_assoc}
use Rattle.std.proofs.Math.Pow.{pow-add}
use Rattle.std.proofs.lemmas.Bool.{cases_lt, lt-ltb, le-ltb}
use Rattle.std.specs.Prelude.{option_map}
use Rattle.amr_num.specs.declared.Axis.{Axis}
use Rattle.amr_num.specs.declared.Axis.TheVariants.{X, Y, Z}
use Rattle.amr_num.specs.declared.CellAt.{CellAt}
use Rattle.mesh_model.proofs.GeometryLemmas.OnAxes.{with_own, with_level}
use Rattle.mesh_model.proofs.GeometryLemmas.ShapeLimits.{cells_some}
use Rattle.mesh_model.specs.declared.geometry.Shape.{Shape}
use Rattle.mesh_model.specs.Geometry.Coordinates.{sub_cell, sub_face, face_of, after, below, above, wrapped, moved, with, on, extent, roots, is_periodic, low_cell, high_cell, Inside}
use Rattle.mesh_model.specs.Tree.Kinds.{Grid, block_of, is_split, holds, is_split_face}
use Rattle.mesh_model.specs.Geometry.Touch.{low_end, high_end, block_on}
use Rattle.mesh_model.specs.Tree.ValidGrid.{Valid}
use Rattle.mesh_model.specs.Geometry.Blocks.{InDomain}
use Rattle.mesh_model.proofs.TreeLemmas.Tests.{refuted}
use Rattle.mesh_model.proofs.TreeLemmas.Tiling.{IsChild, child_of_whole}
use Rattle.mesh_model.proofs.TreeLemmas.Touching.{Meet, Touch, meet_wider, meet_times, meet_over}
use Rattle.mesh_model.proofs.TreeLemmas.Levels.{calm_block, split_level}
use Rattle.mesh_model.proofs.FieldLemmas.CellTree.{child_block}
use Rattle.mesh_model.proofs.FieldLemmas.Slots.{low_cell_sub, high_cell_sub, extent_double, octant_beside}

-- the cells of a level side by side on an axis, or the same
abbrev pub Close : Shape → Axis → ℕ → ℕ → ℕ → Type 0
Close s a l p q = Meet (is_periodic s a) (extent s a l) p (suc p) q (suc q)

pub record Near (s : Shape) (u w : CellAt) : Type 0 where
  pub level : w.level ≡ u.level
  pub on : (a : Axis) → Close s a u.level (on a u) (on a w)

in_own_block : (p n : ℕ) → 0 < n → (p / n * n ≤ p) × (suc p ≤ suc (p / n) * n)
in_own_block p n h =
    let lt = lt-div-mul-add {a = p} h in
    let row : suc (p / n) * n ≡ p / n * n + n = grind arith in
    (div-mul-le_self p n, omega arith)

turn_over : (r n l : ℕ) → r * n * 2 ^ l ≡ r * 2 ^ l * n
turn_over r n l = grind arith

whole_turn : (r l : ℕ) → l ≤ 10 → r * 2 ^ l * 2 ^ (10 - l) ≡ r * 2 ^ 10
whole_turn r l h =
    let sum : l + (10 - l) ≡ 10 = omega arith in
    mul_assoc r (2 ^ l) (2 ^ (10 - l)) ∙ ap (λ n. r * n) (sym (pow-add 2 l (10 - l)) ∙ ap (λ d. 2 ^ d) sum)

blocks_meet : (p : Bool) (r n l u w : ℕ) → 0 < n → l ≤ 10 → Meet p (r * n * 2 ^ l) u (suc u) w (suc w) → Meet p (r * 2 ^ 10) (low_end l (u / n)) (high_end l (u / n)) (low_end l (w / n)) (high_end l (w / n))
unfolding low_end high_end
blocks_meet p r n l u w pos h t =
    let bu = in_own_block u n pos in
    let bw = in_own_block w n pos in
    let wide : Meet p (r * 2 ^ l * n) (u / n * n) (suc (u / n) * n) (w / n * n) (suc (w / n) * n) = meet_wider _ _ _ _ _ _ _ _ _ _ bu.0 bu.1 bw.0 bw.1 (subst (λ e. Meet p e u (suc u) w (suc w)) (turn_over r n l) t) in
    let blocks : Meet p (r * 2 ^ l) (u / n) (suc (u / n)) (w / n) (suc (w / n)) = meet_over p (r * 2 ^ l) _ _ _ _ n pos wide in
    subst (λ e. Meet p e (u / n * 2 ^ (10 - l)) (suc (u / n) * 2 ^ (10 - l)) (w / n * 2 ^ (10 - l)) (suc (w / n) * 2 ^ (10 - l))) (whole_turn r l h) (meet_times p (r * 2 ^ l) _ _ _ _ (2 ^ (10 - l)) blocks)

near_on : (s : Shape) (u w : CellAt) → 0 < s.n → u.level ≤ 10 → Near s u w → (a : Axis) → Meet (is_periodic s a) (roots s a * 2 ^ 10) (low_end u.level (block_on a (block_of s.n u))) (high_end u.level (block_on a (block_of s.n u))) (low_end u.level (block_on a (block_of s.n w))) (high_end u.level (block_on a (block_of s.n w)))
near_on s u w pos h t X = blocks_meet _ s.rx s.n u.level u.x w.x pos h (t.on X)
near_on s u w pos h t Y = blocks_meet _ s.ry s.n u.level u.y w.y pos h (t.on Y)
near_on s u w pos h t Z = blocks_meet _ s.rz s.n u.level u.z w.z pos h (t.on Z)

pub near_touch : (s : Shape) (u w : CellAt) → 0 < s.n → u.level ≤ 10 → Near s u w → Touch s (block_of s.n u) (block_of s.n w)
near_touch s u w pos h t = record {
  on = λ a. subst (λ l. Meet (is_periodic s a) (roots s a * 2 ^ 10) (low_end u.level (block_on a (block_of s.n u))) (high_end u.level (block_on a (block_of s.n u))) (low_end l (block_on a (block_of s.n w))) (high_end l (block_on a (block_of s.n w)))) (sym t.level) (near_on s u w pos h t a);
}

block_below : (r n l p : ℕ) → 0 < n → p < r * n * 2 ^ l → p / n < r * 2 ^ l
block_below r n l p pos h = (div-lt_iff_lt-mul pos).1 (subst (λ e. p < e) (turn_over r n l) h)

pub block_in_domain : (s : Shape) (c : CellAt) → 0 < s.n → c.level ≤ s.max → Inside s c → InDomain s (block_of s.n c)
block_in_domain s c pos le i = record {
  level = le;
  x = block_below s.rx s.n c.level c.x pos (i X);
  y = block_below s.ry s.n c.level c.y pos (i Y);
  z = block_below s.rz s.n c.level c.z pos (i Z);
}

module _ (g : Grid) (valid : Valid g) where
  -- a cell beside a child of a cell that is not split is not split
  pub calm_cell : (u w c : CellAt) → IsChild (block_of g.shape.n u) (block_of g.shape.n c) → Inside g.shape c → is_split g c ≡ false → Near g.shape u w → is_split g w ≡ false
  calm_cell u w c child i whole t = refuted _ (λ split.
      let deep = split_level g valid.tiles valid.shape.max (block_of g.shape.n w) split in
      let up = child.level in
      let same = t.level in
      let room = valid.shape.max in
      let calm = calm_block g valid.tiles valid.shape.max valid.rule (block_of g.shape.n u) (block_of g.shape.n w) (block_of g.shape.n c) child whole (block_in_domain g.shape c (cells_some valid.shape) (omega arith) i) t.level (λ h. near_touch g.shape u w (cells_some valid.shape) (omega arith) t) in
      cc)

-- ---- one step on an axis

-- position q is the one after r
abbrev pub Follows : Bool → ℕ → ℕ → ℕ → Type 0
Follows p e r q = (suc r ≡ q) ⊎ ((p ≡ true) × (q ≡ 0) × (suc r ≡ e))

pub below_follows : (p : Bool) (e q r : ℕ) → 0 < e → below p e q ≡ Some r → Follows p e r q
below_follows true e zero r h eq = let same : e - 1 ≡ r = cc in inr (refl, refl, omega arith)
below_follows false e zero r h eq = cc
below_follows p e (suc q) r h eq = let same : q ≡ r = cc in inl (omega arith)

abbrev pub one_on : Bool → ℕ → ℕ → Option ℕ
one_on p e q = above p e (wrapped p e (suc q))

pub wrapped_end : (e q : ℕ) → suc q ≡ e → wrapped true e (suc q) ≡ 0
unfolding wrapped
wrapped_end e q h = rw (eq-eqb (suc q) e h) refl

pub wrapped_open : (e q : ℕ) → wrapped false e (suc q) ≡ suc q
unfolding wrapped
wrapped_open e q = refl

pub wrapped_before : (p : Bool) (e q : ℕ) → suc q < e → wrapped p e (suc q) ≡ suc q
unfolding wrapped
wrapped_before true e q h = rw (ne_eqb (suc q) e (λ same. absurd (omega arith))) refl
wrapped_before false e q h = refl

pub above_in : (p : Bool) (e q : ℕ) → q < e → above p e q ≡ Some q
above_in p e q h = rw (lt-ltb q e h) refl

pub above_out : (e q : ℕ) → e ≤ q → above false e q ≡ None
above_out e q h = rw (le-ltb q e h) refl

-- what lies before and after the position after q
pub before_after : (p : Bool) (e q : ℕ) → q < e → below p e (wrapped p e (suc q)) ≡ Some q
before_after false e q h = ap (below false e) (wrapped_open e q)
before_after true e q h = elim (cases_lt (suc q) e) [
  | inl lt ↦ ap (below true e) (wrapped_before true e q lt)
  | inr le ↦
      let one : e - 1 ≡ q = omega arith in
      ap (below true e) (wrapped_end e q (omega arith)) ∙ ap Some one
]

last_follows : (p : Bool) (e q r : ℕ) → q < e → e ≤ suc q → above p e (wrapped p e (suc q)) ≡ Some r → Follows p e q r
last_follows true e q r h le eq =
    let there : Some r ≡ Some 0 = sym eq ∙ ap (above true e) (wrapped_end e q (omega arith)) ∙ above_in true e 0 (omega arith) in
    inr (refl, cc, omega arith)
last_follows false e q r h le eq =
    let there : Some r ≡ None = sym eq ∙ ap (above false e) (wrapped_open e q) ∙ above_out e (suc q) le in
    cc

pub after_follows : (p : Bool) (e q r : ℕ) → q < e → above p e (wrapped p e (suc q)) ≡ Some r → Follows p e q r
after_follows p e q r h eq = elim (cases_lt (suc q) e) [
  | inl lt ↦
      let there : Some r ≡ Some (suc q) = sym eq ∙ ap (above p e) (wrapped_before p e q lt) ∙ above_in p e (suc q) lt in
      inl (cc)
  | inr le ↦ last_follows p e q r h le eq
]

-- ---- sub-cells on both sides of a face

pub three : (P : Axis → Type 0) → P X → P Y → P Z → (a : Axis) → P a
three P x y z X = x
three P x y z Y = y
three P x y z Z = z

close_step : (p : Bool) (e r q u w : ℕ) → Follows p e r q → u ≡ 2 * q → w ≡ 2 * r + 1 → Meet p (2 * e) u (suc u) w (suc w)
close_step p e r q u w (inl h) eu ew = inl (omega arith, omega arith)
close_step p e r q u w (inr (t, z, h)) eu ew = inr (t, inl (omega arith))

close_back : (p : Bool) (e r q u w : ℕ) → Follows p e r q → u ≡ 2 * r + 1 → w ≡ 2 * q → Meet p (2 * e) u (suc u) w (suc w)
close_back p e r q u w (inl h) eu ew = inl (omega arith, omega arith)
close_back p e r q u w (inr (t, z, h)) eu ew = inr (t, inr (omega arith))

pub close_same : (p : Bool) (e u w : ℕ) → u ≡ w → Meet p e u (suc u) w (suc w)
close_same p e u w h = inl (omega arith, omega arith)

doubled : (s : Shape) (a : Axis) (l u w : ℕ) → Meet (is_periodic s a) (2 * extent s a l) u (suc u) w (suc w) → Close s a (suc l) u w
doubled s a l u w t = subst (λ e. Meet (is_periodic s a) e u (suc u) w (suc w)) (sym (extent_double s a l)) t

low_near : (s : Shape) (a : Axis) (c : CellAt) (r q : ℕ) → Follows (is_periodic s a) (extent s a c.level) r (on a c) → Near s (sub_cell c (octant_beside a 0 q)) (sub_cell (with a r c) (octant_beside a 1 q))
low_near s X c r q h = record { level = refl; on = three _ (doubled s X c.level _ _ (close_step _ _ r c.x _ _ h (omega arith) (omega arith))) (close_same _ _ _ _ (omega arith)) (close_same _ _ _ _ (omega arith)) }
low_near s Y c r q h = record { level = refl; on = three _ (close_same _ _ _ _ (omega arith)) (doubled s Y c.level _ _ (close_step _ _ r c.y _ _ h (omega arith) (omega arith))) (close_same _ _ _ _ (omega arith)) }
low_near s Z c r q h = record { level = refl; on = three _ (close_same _ _ _ _ (omega arith)) (close_same _ _ _ _ (omega arith)) (doubled s Z c.level _ _ (close_step _ _ r c.z _ _ h (omega arith) (omega arith))) }

high_near : (s : Shape) (a : Axis) (c : CellAt) (r q : ℕ) → Follows (is_periodic s a) (extent s a c.level) (on a c) r → Near s (sub_cell c (octant_beside a 1 q)) (sub_cell (with a r c) (octant_beside a 0 q))
high_near s X c r q h = record { level = refl; on = three _ (doubled s X c.level _ _ (close_back _ _ c.x r _ _ h (omega arith) (omega arith))) (close_same _ _ _ _ (omega arith)) (close_same _ _ _ _ (omega arith)) }
high_near s Y c r q h = record { level = refl; on = three _ (close_same _ _ _ _ (omega arith)) (doubled s Y c.level _ _ (close_back _ _ c.y r _ _ h (omega arith) (omega arith))) (close_same _ _ _ _ (omega arith)) }
high_near s Z c r q h = record { level = refl; on = three _ (close_same _ _ _ _ (omega arith)) (close_same _ _ _ _ (omega arith)) (doubled s Z c.level _ _ (close_back _ _ c.z r _ _ h (omega arith) (omega arith))) }

with_twice : (a : Axis) (p r : ℕ) (c : CellAt) → with a r (with a p c) ≡ with a r c
with_twice X p r c = refl
with_twice Y p r c = refl
with_twice Z p r c = refl

moved_with : (a : Axis) (o : Option ℕ) (p : ℕ) (c : CellAt) → moved a o (with a p c) ≡ moved a o c
moved_with a None p c = refl
moved_with a (Some r) p c = ap Some (with_twice a p r c)

-- the cells beside the high face of a cell
pub high_face_low : (s : Shape) (a : Axis) (c : CellAt) → low_cell s (face_of a (after s a c)) ≡ moved a (below (is_periodic s a) (extent s a c.level) (wrapped (is_periodic s a) (extent s a c.level) (suc (on a c)))) c
high_face_low s X c = moved_with X _ _ c
high_face_low s Y c = moved_with Y _ _ c
high_face_low s Z c = moved_with Z _ _ c

high_face_high : (s : Shape) (a : Axis) (c : CellAt) → high_cell s (face_of a (after s a c)) ≡ moved a (above (is_periodic s a) (extent s a c.level) (wrapped (is_periodic s a) (extent s a c.level) (suc (on a c)))) c
high_face_high s X c = moved_with X _ _ c
high_face_high s Y c = moved_with Y _ _ c
high_face_high s Z c = moved_with Z _ _ c

pub own : (a : Axis) (c : CellAt) (o : Option ℕ) → o ≡ Some (on a c) → moved a o c ≡ Some c
own a c o e = ap (λ u. moved a u c) e ∙ ap Some (with_own a c)

module _ (g : Grid) (valid : Valid g) (wide : (a : Axis) (l : ℕ) → 0 < extent g.shape a l) (c : CellAt) (i : Inside g.shape c) (whole : is_split g c ≡ false) where
  beyond_low : (a : Axis) (q : ℕ) (o : Option ℕ) → below (is_periodic g.shape a) (extent g.shape a c.level) (on a c) ≡ o → holds (is_split g) (option_map (λ d. sub_cell d (octant_beside a 1 q)) (moved a o c)) ≡ false
  beyond_low a q None e = refl
  beyond_low a q (Some r) e = calm_cell g valid _ _ c (child_block g.shape.n c (octant_beside a 0 q)) i whole (low_near g.shape a c r q (below_follows _ _ _ _ (wide a c.level) e))

  beyond_high : (a : Axis) (q : ℕ) (o : Option ℕ) → above (is_periodic g.shape a) (extent g.shape a c.level) (wrapped (is_periodic g.shape a) (extent g.shape a c.level) (suc (on a c))) ≡ o → holds (is_split g) (option_map (λ d. sub_cell d (octant_beside a 0 q)) (moved a o c)) ≡ false
  beyond_high a q None e = refl
  beyond_high a q (Some r) e = calm_cell g valid _ _ c (child_block g.shape.n c (octant_beside a 1 q)) i whole (high_near g.shape a c r q (after_follows _ _ _ _ (i a) e))

  within : (q : ℕ) (o : Option CellAt) → o ≡ Some c → holds (is_split g) (option_map (λ d. sub_cell d q) o) ≡ false
  within q o e = ap (λ u. holds (is_split g) (option_map (λ d. sub_cell d q) u)) e ∙ child_of_whole g _ _ (child_block g.shape.n c q) whole

  neither : (a b : Bool) → a ≡ false → b ≡ false → (a || b) ≡ false
  neither a b p q = rw (p, q) refl

  -- no subface on a side of a cell that is not split has a split cell beside it
  pub calm : (a : Axis) (r : ℕ) → (is_split_face g (sub_face (face_of a c) r) ≡ false) × (is_split_face g (sub_face (face_of a (after g.shape a c)) r) ≡ false)
  unfolding is_split_face
  calm a r = (
    neither _ _
        (ap (holds (is_split g)) (low_cell_sub g.shape (face_of a c) r (wide a c.level)) ∙ beyond_low a r _ refl)
        (ap (holds (is_split g)) (high_cell_sub g.shape (face_of a c) r) ∙ within (octant_beside a 0 r) _ (own a c _ (above_in _ _ _ (i a)))),
    neither _ _
        (ap (holds (is_split g)) (low_cell_sub g.shape (face_of a (after g.shape a c)) r (wide a _) ∙ ap (option_map (λ d. sub_cell d (octant_beside a 1 r))) (high_face_low g.shape a c)) ∙ within (octant_beside a 1 r) _ (own a c _ (before_after _ _ _ (i a))))
        (ap (holds (is_split g)) (high_cell_sub g.shape (face_of a (after g.shape a c)) r ∙ ap (option_map (λ d. sub_cell d (octant_beside a 0 r))) (high_face_high g.shape a c)) ∙ beyond_high a r _ refl),
  )
