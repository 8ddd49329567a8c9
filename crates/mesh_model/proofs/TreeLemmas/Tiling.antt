-- Leaves that tile the domain make a tree.
use Rattle.std.proofs.Common.{◌≡◌, ℕ, suc, ◌+◌, ◌-◌, ◌*◌, ◌/◌, ◌^◌, ◌<◌, ◌≤◌, Bool, true, false, ◌&&◌, refl, sym, ap, ◌∙◌, arith, inl, inr, subst, eq-eqb, eqb-true, le-leb, leb-true, lt-ltb, ltb-true}
use Rattle.std.proofs.Math.Nat.{div-div-eq-div-mul, mul-div_cancel, div-lt_iff_lt-mul, mul_assoc, mul-lt-mul_of_pos_right}
use Rattle.std.proofs.Math.Pow.{pow-add}
use Rattle.std.proofs.lemmas.Nat.{pow_pos}
use Rattle.std.proofs.lemmas.Bool.{cases_Bool, cases_lt, and_parts}
use Rattle.amr_num.specs.declared.BlockAt.{BlockAt}
use Rattle.mesh_model.specs.declared.geometry.Shape.{Shape}
use Rattle.mesh_model.specs.Tree.Kinds.{Grid, is_leaf_block, is_split_block}
use Rattle.mesh_model.specs.Geometry.Blocks.{lies_in, LiesIn, InDomain}
use Rattle.mesh_model.specs.Tree.Order.{IsIn}
use Rattle.mesh_model.specs.Tree.ValidGrid.{Tiles}
use Rattle.mesh_model.proofs.TreeLemmas.Tests.{all_four, found, there}

-- ---- tests and what they say

pub lies_says : (b a : BlockAt) → lies_in b a ≡ true → LiesIn b a
lies_says b a h =
    let four = all_four _ _ _ _ h in
    record { level = leb-true _ _ four.0; x = eqb-true _ _ four.1; y = eqb-true _ _ four.2; z = eqb-true _ _ four.3 }

pub lies_shows : (b a : BlockAt) → LiesIn b a → lies_in b a ≡ true
lies_shows b a h = rw (le-leb _ _ h.level, eq-eqb _ _ h.x, eq-eqb _ _ h.y, eq-eqb _ _ h.z) refl

-- ---- blocks in blocks

shrink : (x d e : ℕ) → x / 2 ^ (d + e) ≡ x / 2 ^ d / 2 ^ e
shrink x d e = ap (λ p. x / p) (pow-add 2 d e) ∙ sym (div-div-eq-div-mul x (2 ^ d) (2 ^ e))

-- of two blocks round one, the finer lies in the coarser
pub nested : (p b a : BlockAt) → LiesIn p b → LiesIn p a → a.level ≤ b.level → LiesIn b a
nested p b a pb pa h =
    let le1 = pb.level in
    let le2 = pa.level in
    let sum : p.level - a.level ≡ (p.level - b.level) + (b.level - a.level) = omega arith in
    record {
      level = h;
      x = ap (λ u. u / 2 ^ (b.level - a.level)) (sym pb.x) ∙ sym (shrink p.x (p.level - b.level) (b.level - a.level)) ∙ ap (λ d. p.x / 2 ^ d) (sym sum) ∙ pa.x;
      y = ap (λ u. u / 2 ^ (b.level - a.level)) (sym pb.y) ∙ sym (shrink p.y (p.level - b.level) (b.level - a.level)) ∙ ap (λ d. p.y / 2 ^ d) (sym sum) ∙ pa.y;
      z = ap (λ u. u / 2 ^ (b.level - a.level)) (sym pb.z) ∙ sym (shrink p.z (p.level - b.level) (b.level - a.level)) ∙ ap (λ d. p.z / 2 ^ d) (sym sum) ∙ pa.z;
    }

pub lies_trans : (c b a : BlockAt) → LiesIn c b → LiesIn b a → LiesIn c a
lies_trans c b a cb ba =
    let le1 = cb.level in
    let le2 = ba.level in
    let sum : c.level - a.level ≡ (c.level - b.level) + (b.level - a.level) = omega arith in
    record {
      level = omega arith;
      x = ap (λ d. c.x / 2 ^ d) sum ∙ shrink c.x (c.level - b.level) (b.level - a.level) ∙ ap (λ u. u / 2 ^ (b.level - a.level)) cb.x ∙ ba.x;
      y = ap (λ d. c.y / 2 ^ d) sum ∙ shrink c.y (c.level - b.level) (b.level - a.level) ∙ ap (λ u. u / 2 ^ (b.level - a.level)) cb.y ∙ ba.y;
      z = ap (λ d. c.z / 2 ^ d) sum ∙ shrink c.z (c.level - b.level) (b.level - a.level) ∙ ap (λ u. u / 2 ^ (b.level - a.level)) cb.z ∙ ba.z;
    }

-- a block of one level is the block that it lies in
pub same_level : (b a : BlockAt) → LiesIn b a → b.level ≡ a.level → b ≡ a
same_level b a h e =
    let none : b.level - a.level ≡ 0 = omega arith in
    let whole : (u : ℕ) → u / 2 ^ (b.level - a.level) ≡ u = λ u. ap (λ d. u / 2 ^ d) none ∙ omega arith in
    λ i. record { level = e i; x = (sym (whole b.x) ∙ h.x) i; y = (sym (whole b.y) ∙ h.y) i; z = (sym (whole b.z) ∙ h.z) i }

pub lies_refl : (b : BlockAt) → LiesIn b b
lies_refl b =
    let none : b.level - b.level ≡ 0 = omega arith in
    let whole : (u : ℕ) → u / 2 ^ (b.level - b.level) ≡ u = λ u. ap (λ d. u / 2 ^ d) none ∙ omega arith in
    record { level = omega arith; x = whole b.x; y = whole b.y; z = whole b.z }

-- the first of the finest blocks in a block
unfoldable pub finest : ℕ → BlockAt → BlockAt
finest top b = record { level = top; x = b.x * 2 ^ (top - b.level); y = b.y * 2 ^ (top - b.level); z = b.z * 2 ^ (top - b.level) }

div_of_product : (x d : ℕ) → x * 2 ^ d / 2 ^ d ≡ x
div_of_product x d = mul-div_cancel x (pow_pos d)

pub finest_in : (top : ℕ) (b : BlockAt) → b.level ≤ top → LiesIn (finest top b) b
unfolding finest
finest_in top b h = record { level = h; x = div_of_product b.x _; y = div_of_product b.y _; z = div_of_product b.z _ }

-- ---- the tree

-- b is a child of a
pub record IsChild (b a : BlockAt) : Type 0 where
  pub level : b.level ≡ suc a.level
  pub x : b.x / 2 ≡ a.x
  pub y : b.y / 2 ≡ a.y
  pub z : b.z / 2 ≡ a.z

pub child_in : (b a : BlockAt) → IsChild b a → LiesIn b a
child_in b a h =
    let e = h.level in
    let one : b.level - a.level ≡ 1 = omega arith in
    record {
      level = omega arith;
      x = ap (λ d. b.x / 2 ^ d) one ∙ h.x;
      y = ap (λ d. b.y / 2 ^ d) one ∙ h.y;
      z = ap (λ d. b.z / 2 ^ d) one ∙ h.z;
    }

pub double : (r l : ℕ) → r * 2 ^ suc l ≡ 2 * (r * 2 ^ l)
double r l = grind arith

up_below : (r l x d : ℕ) → x < r * 2 ^ (l + d) → x / 2 ^ d < r * 2 ^ l
up_below r l x d h = (div-lt_iff_lt-mul (pow_pos d)).1 (subst (λ n. x < n) (ap (λ n. r * n) (pow-add 2 l d) ∙ sym (mul_assoc r (2 ^ l) (2 ^ d))) h)

finest_below : (r l x d : ℕ) → x < r * 2 ^ l → x * 2 ^ d < r * 2 ^ (l + d)
finest_below r l x d h = subst (λ n. x * 2 ^ d < n) (mul_assoc r (2 ^ l) (2 ^ d) ∙ sym (ap (λ n. r * n) (pow-add 2 l d))) (mul-lt-mul_of_pos_right h (pow_pos d))

child_below : (r l x : ℕ) → x / 2 < r * 2 ^ l → x < r * 2 ^ suc l
child_below r l x h = subst (λ n. x < n) (sym (double r l)) (omega arith)

pub domain_up : (s : Shape) (c a : BlockAt) → LiesIn c a → InDomain s c → InDomain s a
domain_up s c a h i =
    let le = h.level in
    let room = i.level in
    let sum : c.level ≡ a.level + (c.level - a.level) = omega arith in
    record {
      level = omega arith;
      x = subst (λ n. n < s.rx * 2 ^ a.level) h.x (up_below s.rx a.level c.x _ (subst (λ n. c.x < s.rx * 2 ^ n) sum i.x));
      y = subst (λ n. n < s.ry * 2 ^ a.level) h.y (up_below s.ry a.level c.y _ (subst (λ n. c.y < s.ry * 2 ^ n) sum i.y));
      z = subst (λ n. n < s.rz * 2 ^ a.level) h.z (up_below s.rz a.level c.z _ (subst (λ n. c.z < s.rz * 2 ^ n) sum i.z));
    }

pub domain_child : (s : Shape) (b a : BlockAt) → IsChild b a → InDomain s a → b.level ≤ s.max → InDomain s b
domain_child s b a h i le =
    record {
      level = le;
      x = subst (λ n. b.x < s.rx * 2 ^ n) (sym h.level) (child_below s.rx a.level b.x (subst (λ n. n < s.rx * 2 ^ a.level) (sym h.x) i.x));
      y = subst (λ n. b.y < s.ry * 2 ^ n) (sym h.level) (child_below s.ry a.level b.y (subst (λ n. n < s.ry * 2 ^ a.level) (sym h.y) i.y));
      z = subst (λ n. b.z < s.rz * 2 ^ n) (sym h.level) (child_below s.rz a.level b.z (subst (λ n. n < s.rz * 2 ^ a.level) (sym h.z) i.z));
    }

pub domain_finest : (s : Shape) (b : BlockAt) → InDomain s b → InDomain s (finest s.max b)
unfolding finest
domain_finest s b i =
    let room = i.level in
    let sum : b.level + (s.max - b.level) ≡ s.max = omega arith in
    record {
      level = omega arith;
      x = subst (λ n. b.x * 2 ^ (s.max - b.level) < s.rx * 2 ^ n) sum (finest_below s.rx b.level b.x _ i.x);
      y = subst (λ n. b.y * 2 ^ (s.max - b.level) < s.ry * 2 ^ n) sum (finest_below s.ry b.level b.y _ i.y);
      z = subst (λ n. b.z * 2 ^ (s.max - b.level) < s.rz * 2 ^ n) sum (finest_below s.rz b.level b.z _ i.z);
    }

module _ (g : Grid) where
  -- what the tests say
  pub leaf_says : (b : BlockAt) → is_leaf_block g b ≡ true → IsIn b g.leaves
  unfolding is_leaf_block
  leaf_says b h =
      let l = found _ g.leaves h in
      let both = and_parts _ _ l.2 in
      let e = eqb-true _ _ both.0 in
      subst (λ c. IsIn c g.leaves) (same_level l.0 b (lies_says l.0 b both.1) e) l.1

  pub leaf_shows : (b : BlockAt) → IsIn b g.leaves → is_leaf_block g b ≡ true
  unfolding is_leaf_block
  leaf_shows b h = there _ b g.leaves h (rw (eq-eqb b.level b.level refl, lies_shows b b (lies_refl b)) refl)

  pub split_says : (b : BlockAt) → is_split_block g b ≡ true → (leaf : BlockAt) × IsIn leaf g.leaves × (b.level < leaf.level) × LiesIn leaf b
  unfolding is_split_block
  split_says b h =
      let l = found _ g.leaves h in
      let both = and_parts _ _ l.2 in
      (l.0, l.1, ltb-true _ _ both.0, lies_says l.0 b both.1)

  pub split_shows : (b leaf : BlockAt) → IsIn leaf g.leaves → b.level < leaf.level → LiesIn leaf b → is_split_block g b ≡ true
  unfolding is_split_block
  split_shows b leaf i lt h = there _ leaf g.leaves i (rw (lt-ltb _ _ lt, lies_shows leaf b h) refl)

  pub child_of_whole : (b a : BlockAt) → IsChild b a → is_split_block g a ≡ false → is_split_block g b ≡ false
  child_of_whole b a child whole = elim (cases_Bool (is_split_block g b)) [
    | inl s ↦
        let l = split_says b s in
        let e = child.level in
        let lt = l.2 in
        let split = split_shows a l.0 l.1 (omega arith) (lies_trans l.0 b a l.3 (child_in b a child)) in
        cc
    | inr n ↦ n
  ]

  pub child_is_no_leaf : (b a : BlockAt) → IsChild b a → is_split_block g a ≡ false → is_leaf_block g b ≡ false
  child_is_no_leaf b a child whole = elim (cases_Bool (is_leaf_block g b)) [
    | inl s ↦
        let e = child.level in
        let split = split_shows a b (leaf_says b s) (omega arith) (child_in b a child) in
        cc
    | inr n ↦ n
  ]

  module _ (tiles : Tiles g) where
    pub child_of_split : (b a : BlockAt) → IsChild b a → is_split_block g a ≡ true → is_split_block g b ≡ false → is_leaf_block g b ≡ true
    unfolding finest
    child_of_split b a child split whole =
        let l = split_says a split in
        let top = g.shape.max in
        let e = child.level in
        let here = tiles.inside l.0 l.1 in
        let room = here.level in
        let lt = l.2 in
        let p = finest top b in
        let pb : LiesIn p b = finest_in top b (omega arith) in
        let pa : LiesIn p a = lies_trans p b a pb (child_in b a child) in
        let cover = tiles.covered p (domain_finest g.shape b (domain_child g.shape b a child (domain_up g.shape l.0 a l.3 here) (omega arith))) refl in
        elim (cases_lt cover.0.level b.level) [
          | inl coarse ↦
              let around : LiesIn a cover.0 = nested p a cover.0 pa cover.2 (omega arith) in
              let r = finest top l.0 in
              let rl : LiesIn r l.0 = finest_in top l.0 room in
              let same = ap (λ (x : BlockAt). x.level) (tiles.once r l.0 cover.0 refl l.1 cover.1 rl (lies_trans r l.0 cover.0 rl (lies_trans l.0 a cover.0 l.3 around))) in
              absurd (omega arith)
          | inr fine ↦
              let within : LiesIn cover.0 b = nested p cover.0 b cover.2 pb fine in
              elim (cases_lt b.level cover.0.level) [
                | inl finer ↦ let s = split_shows b cover.0 cover.1 finer within in cc
                | inr same ↦ leaf_shows b (subst (λ c. IsIn c g.leaves) (same_level cover.0 b within (omega arith)) cover.1)
              ]
        ]
