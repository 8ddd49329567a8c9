-- What the level rule says of blocks that touch.
use Rattle.std.proofs.Common.{◌≡◌, ℕ, zero, suc, ◌+◌, ◌-◌, ◌*◌, ◌/◌, ◌^◌, ◌<◌, ◌≤◌, true, false, refl, sym, ap, ◌∙◌, arith, inl, inr, subst}
use Rattle.std.proofs.Math.Nat.{div-lt_iff_lt-mul, mul_assoc}
use Rattle.std.proofs.Math.Pow.{pow-add}
use Rattle.std.proofs.lemmas.Nat.{pow_pos}
use Rattle.std.proofs.lemmas.Bool.{cases_lt}
use Rattle.amr_num.specs.declared.BlockAt.{BlockAt}
use Rattle.mesh_model.specs.declared.geometry.Shape.{Shape}
use Rattle.mesh_model.specs.Tree.Kinds.{Grid, is_split_block}
use Rattle.mesh_model.specs.Geometry.Blocks.{child_block, LiesIn, InDomain}
use Rattle.mesh_model.specs.Tree.Order.{IsIn}
use Rattle.mesh_model.specs.Tree.ValidGrid.{Tiles, LevelRule}
use Rattle.mesh_model.proofs.TreeLemmas.Tests.{refuted}
use Rattle.mesh_model.proofs.TreeLemmas.Tiling.{IsChild, nested, lies_trans, lies_refl, finest, finest_in, child_in, domain_up, domain_finest, split_says, split_shows}
use Rattle.mesh_model.proofs.TreeLemmas.Touching.{Touch, touch_shows, touch_swap, touch_up, touch_child}

pub is_child : (b : BlockAt) (q : ℕ) → IsChild (child_block b q) b
is_child b q = record { level = refl; x = omega arith; y = omega arith; z = omega arith }

-- what touches a block touches one of its finest blocks
pub descend : (s : Shape) (top d : ℕ) (a b : BlockAt) → b.level + d ≡ top → top ≤ 10 → Touch s a b → (p : BlockAt) × (p.level ≡ top) × LiesIn p b × Touch s a p
descend s top zero a b e h t = (b, omega arith, lies_refl b, t)
descend s top (suc d) a b e h t =
    let child = touch_child s a b (omega arith) t in
    let c = child_block b child.0 in
    let below = descend s top d a c (omega arith) h child.2 in
    (below.0, below.1, lies_trans below.0 c b below.2 (child_in c b (is_child b child.0)), below.3)

down_below : (r l x d : ℕ) → x / 2 ^ d < r * 2 ^ l → x < r * 2 ^ (l + d)
down_below r l x d h = subst (λ n. x < n) (mul_assoc r (2 ^ l) (2 ^ d) ∙ ap (λ n. r * n) (sym (pow-add 2 l d))) ((div-lt_iff_lt-mul (pow_pos d)).0 h)

pub domain_down : (s : Shape) (c a : BlockAt) → LiesIn c a → c.level ≤ s.max → InDomain s a → InDomain s c
domain_down s c a h le i =
    let fine = h.level in
    let sum : a.level + (c.level - a.level) ≡ c.level = omega arith in
    record {
      level = le;
      x = subst (λ n. c.x < s.rx * 2 ^ n) sum (down_below s.rx a.level c.x _ (subst (λ n. n < s.rx * 2 ^ a.level) (sym h.x) i.x));
      y = subst (λ n. c.y < s.ry * 2 ^ n) sum (down_below s.ry a.level c.y _ (subst (λ n. n < s.ry * 2 ^ a.level) (sym h.y) i.y));
      z = subst (λ n. c.z < s.rz * 2 ^ n) sum (down_below s.rz a.level c.z _ (subst (λ n. n < s.rz * 2 ^ a.level) (sym h.z) i.z));
    }

module _ (g : Grid) (tiles : Tiles g) (small : g.shape.max ≤ 10) where
  -- of leaves one does not lie in another
  pub apart : (leaf other : BlockAt) → IsIn leaf g.leaves → IsIn other g.leaves → LiesIn leaf other → leaf ≡ other
  unfolding finest
  apart leaf other i j h =
      let p = finest g.shape.max leaf in
      let in_leaf = finest_in g.shape.max leaf (tiles.inside leaf i).level in
      tiles.once p leaf other refl i j in_leaf (lies_trans p leaf other in_leaf h)

  -- a leaf round a finest block of a split block is finer than that
  pub split_finer : (p b leaf : BlockAt) → LiesIn p b → IsIn leaf g.leaves → LiesIn p leaf → is_split_block g b ≡ true → b.level < leaf.level
  split_finer p b leaf pb i pl split = elim (cases_lt b.level leaf.level) [
    | inl finer ↦ finer
    | inr coarse ↦
        let l = split_says g b split in
        let lt = l.2 in
        let same = ap (λ (x : BlockAt). x.level) (apart l.0 leaf l.1 i (lies_trans l.0 b leaf l.3 (nested p b leaf pb pl coarse))) in
        absurd (omega arith)
  ]

  -- what touches a block of the domain touches a leaf that meets it
  pub touching_leaf : (a b : BlockAt) → InDomain g.shape b → Touch g.shape a b → (leaf : BlockAt) × IsIn leaf g.leaves × Touch g.shape a leaf × ((is_split_block g b ≡ true) → b.level < leaf.level)
  touching_leaf a b i t =
      let room = i.level in
      let top = g.shape.max in
      let p = descend g.shape top (top - b.level) a b (omega arith) small t in
      let level = p.1 in
      let cover = tiles.covered p.0 (domain_down g.shape p.0 b p.2 (omega arith) i) p.1 in
      (cover.0, cover.1, touch_up g.shape a p.0 cover.0 p.3 cover.2 (omega arith), λ s. split_finer p.0 b cover.0 p.2 cover.1 cover.2 s)

  -- a block that is not split lies in a leaf
  pub home : (b : BlockAt) → InDomain g.shape b → is_split_block g b ≡ false → (leaf : BlockAt) × IsIn leaf g.leaves × LiesIn b leaf
  unfolding finest
  home b i whole =
      let top = g.shape.max in
      let p = finest top b in
      let pb = finest_in top b i.level in
      let cover = tiles.covered p (domain_finest g.shape b i) refl in
      elim (cases_lt b.level cover.0.level) [
        | inl finer ↦
            let split = split_shows g b cover.0 cover.1 finer (nested p cover.0 b cover.2 pb (omega arith)) in
            cc
        | inr coarse ↦ (cover.0, cover.1, nested p b cover.0 pb cover.2 coarse)
      ]

  -- a block beside a child of a block that is not split is not split
  pub calm_block : LevelRule g → (a b c : BlockAt) → IsChild a c → is_split_block g c ≡ false → InDomain g.shape c → b.level ≡ a.level → (b.level ≤ 10 → Touch g.shape a b) → is_split_block g b ≡ false
  calm_block rule a b c child whole ic level near = refuted _ (λ split.
      let finer = split_says g b split in
      let ib = domain_up g.shape finer.0 b finer.3 (tiles.inside finer.0 finer.1) in
      let up = child.level in
      let room = ib.level in
      let leaf = touching_leaf a b ib (near (omega arith)) in
      let lt = leaf.3 split in
      let around = home c ic whole in
      let le = around.2.level in
      let touch = touch_up g.shape leaf.0 a around.0 (touch_swap g.shape a leaf.0 leaf.2) (lies_trans a c around.0 (child_in a c child) around.2) (omega arith) in
      let close = rule.near leaf.0 around.0 leaf.1 around.1 (touch_shows g.shape leaf.0 around.0 touch) in
      absurd (omega arith))

  pub split_level : (b : BlockAt) → is_split_block g b ≡ true → b.level < g.shape.max
  split_level b split =
      let finer = split_says g b split in
      let lt = finer.2 in
      let room = (tiles.inside finer.0 finer.1).level in
      omega arith
