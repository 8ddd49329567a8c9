-- Faces at the sides of a block, where leaves of its level stand beside it, and where none do.
use Rattle.std.proofs.Common.{◌≡◌, ℕ, zero, suc, ◌+◌, ◌-◌, ◌*◌, ◌^◌, ◌<◌, ◌≤◌, Bool, true, false, not, ◌||◌, ◌&&◌, Option, Some, None, refl, sym, ap, ap₂, subst, ◌∙◌, arith, inl, inr}
use Rattle.std.specs.Prelude.{option_map}
use Rattle.std.proofs.lemmas.Bool.{cases_lt}
use Rattle.amr_num.specs.declared.Axis.{Axis}
use Rattle.amr_num.specs.declared.Axis.TheVariants.{X, Y, Z}
use Rattle.amr_num.specs.declared.BlockAt.{BlockAt}
use Rattle.amr_num.specs.declared.CellAt.{CellAt}
use Rattle.amr_num.specs.declared.FaceAt.{FaceAt}
use Rattle.mesh_model.specs.declared.geometry.Shape.{Shape}
use Rattle.mesh_model.specs.Geometry.Blocks.{InDomain}
use Rattle.mesh_model.specs.Geometry.Canonical.{canonical_on}
use Rattle.mesh_model.specs.Geometry.Coordinates.{extent, face_of, high_cell, is_periodic, low_cell, roots, wrapped}
use Rattle.mesh_model.specs.Geometry.Places.{in_block, longer_on}
use Rattle.mesh_model.specs.Geometry.Touch.{block_on, high_end, low_end}
use Rattle.mesh_model.specs.Tree.Kinds.{Grid, holds, is_leaf, is_leaf_block, is_leaf_face, is_split_block, is_split_face}
use Rattle.mesh_model.specs.Tree.ValidGrid.{Valid}
use Rattle.mesh_model.specs.Fields.FaceSplits.{position}
use Rattle.mesh_model.proofs.FieldLemmas.Beside.{three}
use Rattle.mesh_model.proofs.FieldLemmas.BlockOctants.{block_of_cell}
use Rattle.mesh_model.proofs.FieldLemmas.LeafFaces.{Seen}
use Rattle.mesh_model.proofs.TreeLemmas.Levels.{calm_block}
use Rattle.mesh_model.proofs.TreeLemmas.Tiling.{IsChild}
use Rattle.mesh_model.proofs.TreeLemmas.Touching.{Meet, Touch}
use Rattle.block_tree.specs.Beside.{beside_on, block_beside, block_moved, block_with, finer_beside}
use Rattle.block_tree.specs.SideFaces.{face_name, side_position}
use Rattle.block_tree.proofs.BlocksBeside.{beside_is, none_beside, whole_beside}
use Rattle.block_tree.proofs.SideAxes.{Neighbours, ends_meet, in_row, inside_stays, neighbours}
use Rattle.block_tree.proofs.SideFaces.{cell, high_inside, high_outside, low_inside, low_outside}
use Rattle.mesh_model.proofs.FieldLemmas.Sums.{wrapped_end}
use Rattle.rank_world.proofs.FaceBlocks.{leaf_face_seen}
use Rattle.leaf_split.specs.FaceKeeps.{NoLeafBeside}

-- ---- blocks beside

inside_on : (s : Shape) (a : Axis) (b : BlockAt) → InDomain s b → block_on a b < roots s a * 2 ^ b.level
inside_on s X b inside = inside.x
inside_on s Y b inside = inside.y
inside_on s Z b inside = inside.z

same_level : (a : Axis) (p : ℕ) (b : BlockAt) → (block_with a p b).level ≡ b.level
same_level X p b = refl
same_level Y p b = refl
same_level Z p b = refl

pub side_by_side : (p high : Bool) (e b d : ℕ) → Neighbours p e high b d → Meet p e b (suc b) d (suc d)
side_by_side p false e b d (inl is) = inl (omega arith, omega arith)
side_by_side p false e b d (inr (t, first, end)) = inr (t, inl (omega arith))
side_by_side p true e b d (inl is, within) = inl (omega arith, omega arith)
side_by_side p true e b d (inr (t, first, end), within) = inr (t, inr (omega arith))

same_ends : (p : Bool) (r l u : ℕ) → l ≤ 10 → Meet p (r * 2 ^ 10) (low_end l u) (high_end l u) (low_end l u) (high_end l u)
same_ends p r l u h = ends_meet p r l u u h (inl (omega arith, omega arith))

touch_with : (s : Shape) (a : Axis) (b : BlockAt) (w : ℕ) → b.level ≤ 10 → Meet (is_periodic s a) (roots s a * 2 ^ b.level) (block_on a b) (suc (block_on a b)) w (suc w) → Touch s b (block_with a w b)
touch_with s X b w h meet = record { on = three _ (ends_meet _ s.rx b.level b.x w h meet) (same_ends _ _ _ _ h) (same_ends _ _ _ _ h) }
touch_with s Y b w h meet = record { on = three _ (same_ends _ _ _ _ h) (ends_meet _ s.ry b.level b.y w h meet) (same_ends _ _ _ _ h) }
touch_with s Z b w h meet = record { on = three _ (same_ends _ _ _ _ h) (same_ends _ _ _ _ h) (ends_meet _ s.rz b.level b.z w h meet) }

-- beside a child of a block that is not split no finer leaves stand
module _ (g : Grid) (valid : Valid g) (b c : BlockAt) (child : IsChild c b) (whole : is_split_block g b ≡ false) (domain : InDomain g.shape b) (inside : InDomain g.shape c) where
  calm_on : (a : Axis) (high : Bool) (o : Option ℕ) → beside_on (is_periodic g.shape a) high (roots g.shape a * 2 ^ c.level) (block_on a c) ≡ o → finer_beside g a high c ≡ None
  calm_on a high None is = none_beside g a high c (sym (beside_is g.shape a high c None is))
  calm_on a high (Some w) is =
      let level = same_level a w c in
      let near = side_by_side (is_periodic g.shape a) high (roots g.shape a * 2 ^ c.level) (block_on a c) w
      (neighbours (is_periodic g.shape a) high (roots g.shape a * 2 ^ c.level) (block_on a c) w (inside_on g.shape a c inside) is) in
      whole_beside g a high c (block_with a w c) (sym (beside_is g.shape a high c (Some w) is))
      (calm_block g valid.tiles valid.shape.max valid.rule c (block_with a w c) b child whole domain level (λ h. touch_with g.shape a c w (omega arith) near))

  pub calm_beside : (a : Axis) (high : Bool) → finer_beside g a high c ≡ None
  calm_beside a high = calm_on a high _ refl

-- ---- places of faces

pub by_spot : (s : Shape) (P : ℕ → FaceAt → Type 0) (b : BlockAt) (a : Axis) → ((p x y : ℕ) → p ≤ s.n → x < s.n → y < s.n → P p (face_name s a b p x y)) →
    (i j k : ℕ) → i < longer_on a X s.n → j < longer_on a Y s.n → k < longer_on a Z s.n → P (position a i j k) (face_of a (canonical_on s a (in_block s.n b i j k)))
unfolding face_name
by_spot s P b X f i j k hi hj hk = f i j k (omega (arith, hi)) hj hk
by_spot s P b Y f i j k hi hj hk = f j i k (omega (arith, hj)) hi hk
by_spot s P b Z f i j k hi hj hk = f k i j (omega (arith, hk)) hi hj

seen_spot : (g : Grid) (valid : Valid g) (a : Axis) (b : BlockAt) → is_leaf_block g b ≡ true → (p x y : ℕ) → p ≤ g.shape.n → x < g.shape.n → y < g.shape.n → Seen g (face_name g.shape a b p x y)
unfolding face_name
seen_spot g valid X b leaf p x y hp hx hy = leaf_face_seen g valid X b leaf p x y (omega (arith, hp)) hx hy
seen_spot g valid Y b leaf p x y hp hx hy = leaf_face_seen g valid Y b leaf x p y hx (omega (arith, hp)) hy
seen_spot g valid Z b leaf p x y hp hx hy = leaf_face_seen g valid Z b leaf x y p hx hy (omega (arith, hp))

-- ---- no leaf beside a face

leaf_of_spot : (g : Grid) (a : Axis) (b : BlockAt) (p s t : ℕ) → p < g.shape.n → s < g.shape.n → t < g.shape.n → is_leaf g (cell g.shape.n a b p s t) ≡ is_leaf_block g b
leaf_of_spot g X b p s t hp hs ht = ap (is_leaf_block g) (block_of_cell g.shape.n b p s t hp hs ht)
leaf_of_spot g Y b p s t hp hs ht = ap (is_leaf_block g) (block_of_cell g.shape.n b s p t hs hp ht)
leaf_of_spot g Z b p s t hp hs ht = ap (is_leaf_block g) (block_of_cell g.shape.n b s t p hs ht hp)

no_leaf_there : (g : Grid) (o : Option BlockAt) (at : BlockAt → CellAt) → ((d : BlockAt) → is_leaf g (at d) ≡ is_leaf_block g d) → ((d : BlockAt) → o ≡ Some d → is_leaf_block g d ≡ false) → holds (is_leaf g) (option_map at o) ≡ false
no_leaf_there g None at same none = refl
no_leaf_there g (Some d) at same none = same d ∙ none d refl

module _ (g : Grid) (a : Axis) (b : BlockAt) (some : 0 < g.shape.n) (inside : InDomain g.shape b) (no_leaf : is_leaf_block g b ≡ false) (s t : ℕ) (hs : s < g.shape.n) (ht : t < g.shape.n) where
  own_no_leaf : (o : Option CellAt) (p : ℕ) → p < g.shape.n → o ≡ Some (cell g.shape.n a b p s t) → holds (is_leaf g) o ≡ false
  own_no_leaf o p h is = ap (holds (is_leaf g)) is ∙ leaf_of_spot g a b p s t h hs ht ∙ no_leaf

  low_no_leaf : (p : ℕ) → p ≤ g.shape.n → (p ≡ 0 → NoLeafBeside g a false b) → holds (is_leaf g) (low_cell g.shape (face_name g.shape a b p s t)) ≡ false
  low_no_leaf zero h none =
      ap (holds (is_leaf g)) (low_outside g.shape a b s t some inside)
      ∙ no_leaf_there g (block_beside g.shape a false b) (λ d. cell g.shape.n a d (g.shape.n - 1) s t) (λ d. leaf_of_spot g a d (g.shape.n - 1) s t (omega arith) hs ht) (none refl)
  low_no_leaf (suc p) h none = own_no_leaf _ p (omega arith) (low_inside g.shape a b s t some inside p (omega arith))

  high_no_leaf : (p : ℕ) → p ≤ g.shape.n → (p ≡ g.shape.n → NoLeafBeside g a true b) → holds (is_leaf g) (high_cell g.shape (face_name g.shape a b p s t)) ≡ false
  high_no_leaf p h none = elim (cases_lt p g.shape.n) [
    | inl less ↦ own_no_leaf _ p less (high_inside g.shape a b s t some inside p less)
    | inr more ↦
        let end : p ≡ g.shape.n = omega arith in
        ap (λ m. holds (is_leaf g) (high_cell g.shape (face_name g.shape a b m s t))) end
        ∙ ap (holds (is_leaf g)) (high_outside g.shape a b s t some inside)
        ∙ no_leaf_there g (block_beside g.shape a true b) (λ d. cell g.shape.n a d 0 s t) (λ d. leaf_of_spot g a d 0 s t some hs ht) (none end)
  ]

  -- a face of a block that is no leaf is no leaf face, where no leaf stands beside it
  pub no_leaf_face : (p : ℕ) → p ≤ g.shape.n → ((high : Bool) → p ≡ side_position g.shape.n high → NoLeafBeside g a high b) → is_leaf_face g (face_name g.shape a b p s t) ≡ false
  unfolding is_leaf_face
  no_leaf_face p h none = ap₂ (λ u v. (u || v) && not (is_split_face g (face_name g.shape a b p s t))) (low_no_leaf p h (none false)) (high_no_leaf p h (none true))

-- ---- one face, by its names in two blocks

-- the position where blocks side by side meet
pub seam_position : (p high : Bool) (e n b d : ℕ) → 0 < n → b < e → Neighbours p e high b d → wrapped p (e * n) (n * d + side_position n (not high)) ≡ wrapped p (e * n) (n * b + side_position n high)
seam_position p false e n b d some inside (inl is) = let times = ap (λ m. n * m) is in let at : n * d + n ≡ n * b + 0 = omega arith in ap (wrapped p (e * n)) at
seam_position p false e n b d some inside (inr (t, first, end)) =
    let row = in_row n b e 0 inside some in
    let far : n * d + n ≡ e * n = (let times = ap (λ m. n * m) end in omega arith) in
    let none : 0 ≡ n * b + 0 = (let times = ap (λ m. n * m) first in omega arith) in
    ap₂ (λ (u : Bool) q. wrapped u (e * n) q) t far ∙ wrapped_end (e * n) ∙ none ∙ sym (inside_stays p (e * n) (n * b + 0) row)
seam_position p true e n b d some inside (inl is, within) = let times = ap (λ m. n * m) is in let at : n * d + 0 ≡ n * b + n = omega arith in ap (wrapped p (e * n)) at
seam_position p true e n b d some inside (inr (t, first, end), within) =
    let row = in_row n d e 0 within some in
    let far : e * n ≡ n * b + n = (let times = ap (λ m. n * m) end in omega arith) in
    let none : n * d + 0 ≡ 0 = (let times = ap (λ m. n * m) first in omega arith) in
    inside_stays p (e * n) (n * d + 0) row ∙ none ∙ sym (wrapped_end (e * n)) ∙ ap₂ (λ (u : Bool) q. wrapped u (e * n) q) (sym t) far

pub extent_is : (r n l : ℕ) → r * 2 ^ l * n ≡ r * n * 2 ^ l
extent_is r n l = grind arith

named_with : (s : Shape) (a : Axis) (b : BlockAt) (w p q x y : ℕ) → wrapped (is_periodic s a) (extent s a b.level) (s.n * w + q) ≡ wrapped (is_periodic s a) (extent s a b.level) (s.n * block_on a b + p) →
    face_name s a (block_with a w b) q x y ≡ face_name s a b p x y
unfolding face_name
named_with s X b w p q x y is = λ t. record { axis = X; level = b.level; x = is t; y = s.n * b.y + x; z = s.n * b.z + y }
named_with s Y b w p q x y is = λ t. record { axis = Y; level = b.level; x = s.n * b.x + x; y = is t; z = s.n * b.z + y }
named_with s Z b w p q x y is = λ t. record { axis = Z; level = b.level; x = s.n * b.x + x; y = s.n * b.y + y; z = is t }

module _ (s : Shape) (a : Axis) (high : Bool) (b : BlockAt) (some : 0 < s.n) (inside : InDomain s b) (x y : ℕ) where
  across_on : (d : BlockAt) (o : Option ℕ) → beside_on (is_periodic s a) high (roots s a * 2 ^ b.level) (block_on a b) ≡ o → block_moved a o b ≡ Some d →
      face_name s a d (side_position s.n (not high)) x y ≡ face_name s a b (side_position s.n high) x y
  across_on d None is there = cc
  across_on d (Some w) is there =
      let same : block_with a w b ≡ d = cc in
      let e = roots s a * 2 ^ b.level in
      let here = inside_on s a b inside in
      ap (λ c. face_name s a c (side_position s.n (not high)) x y) (sym same)
      ∙ named_with s a b w (side_position s.n high) (side_position s.n (not high)) x y
      (subst (λ m. wrapped (is_periodic s a) m (s.n * w + side_position s.n (not high)) ≡ wrapped (is_periodic s a) m (s.n * block_on a b + side_position s.n high)) (extent_is (roots s a) s.n b.level)
      (seam_position (is_periodic s a) high e s.n (block_on a b) w some here (neighbours (is_periodic s a) high e (block_on a b) w here is)))

  -- a face on a side is one on the other side of the block beside it
  pub across : (d : BlockAt) → block_beside s a high b ≡ Some d → face_name s a d (side_position s.n (not high)) x y ≡ face_name s a b (side_position s.n high) x y
  across d is = across_on d _ refl (beside_is s a high b _ refl ∙ is)

side_least : (n : ℕ) (high : Bool) → side_position n high ≤ n
side_least n false = omega arith
side_least n true = omega arith

-- a face at a leaf beside a block is seen
pub seen_beside : (g : Grid) → Valid g → (a : Axis) (high : Bool) (b d : BlockAt) → 0 < g.shape.n → InDomain g.shape b → block_beside g.shape a high b ≡ Some d → is_leaf_block g d ≡ true →
    (x y : ℕ) → x < g.shape.n → y < g.shape.n → Seen g (face_name g.shape a b (side_position g.shape.n high) x y)
seen_beside g valid a high b d some inside beside leaf x y hx hy =
    subst (Seen g) (across g.shape a high b some inside x y d beside) (seen_spot g valid a d leaf (side_position g.shape.n (not high)) x y (side_least g.shape.n (not high)) hx hy)
