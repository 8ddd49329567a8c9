-- A cell is a leaf, split or inside a coarser leaf, and at level 0 of the domain a leaf or split.
use Rattle.std.proofs.Common.{◌≡◌, ℕ, ◌*◌, ◌/◌, ◌^◌, ◌<◌, ◌≤◌, true, false, refl, sym, ap, arith, inl, inr, subst}
use Rattle.std.proofs.Math.Nat.{div-lt_iff_lt-mul, mul-pos}
use Rattle.std.proofs.lemmas.Nat.{pow_pos}
use Rattle.std.proofs.lemmas.Bool.{cases_Bool, cases_lt}
use Rattle.amr_num.specs.declared.Axis.{Axis}
use Rattle.amr_num.specs.declared.Axis.TheVariants.{X, Y, Z}
use Rattle.amr_num.specs.declared.BlockAt.{BlockAt}
use Rattle.amr_num.specs.declared.CellAt.{CellAt}
use Rattle.mesh_model.proofs.GeometryLemmas.ShapeLimits.{cells_some}
use Rattle.mesh_model.specs.declared.geometry.Shape.{Shape}
use Rattle.mesh_model.specs.Geometry.Coordinates.{roots, extent, on, Inside}
use Rattle.mesh_model.specs.Tree.Kinds.{Grid, is_leaf, is_split, block_of, is_leaf_block, is_split_block}
use Rattle.mesh_model.specs.Tree.Order.{IsIn}
use Rattle.mesh_model.specs.Tree.ValidGrid.{Tiles}
use Rattle.mesh_model.specs.Geometry.Blocks.{LiesIn, InDomain}
use Rattle.mesh_model.specs.Geometry.Limits.{IsShape}
use Rattle.mesh_model.proofs.FieldLemmas.CellSums.{TreeLike}
use Rattle.mesh_model.proofs.FieldLemmas.CellTree.{tree_of_tiles}
use Rattle.mesh_model.proofs.TreeLemmas.Tiling.{leaf_says, leaf_shows, split_says, split_shows, finest, finest_in, domain_finest, lies_trans, nested, same_level}

-- what sums over leaf cells need of the leaves
pub record Kinds (g : Grid) : Type 0 where
  pub tree : TreeLike g
  pub one : (c : CellAt) → is_split g c ≡ true → is_leaf g c ≡ false
  pub top : (c : CellAt) → is_split g c ≡ true → c.level < g.shape.max
  pub leaf_top : (c : CellAt) → is_leaf g c ≡ true → c.level ≤ g.shape.max
  pub leaf_range : (c : CellAt) → is_leaf g c ≡ true → Inside g.shape c
  pub root : (c : CellAt) → c.level ≡ 0 → Inside g.shape c → is_split g c ≡ false → is_leaf g c ≡ true

pub roots_pos : (s : Shape) → IsShape s → (a : Axis) → 0 < roots s a
roots_pos s h X = h.rx
roots_pos s h Y = h.ry
roots_pos s h Z = h.rz

pub wide_of : (s : Shape) → IsShape s → (a : Axis) (l : ℕ) → 0 < extent s a l
wide_of s h a l = mul-pos (mul-pos (roots_pos s h a) (cells_some h)) (pow_pos l)

module _ (g : Grid) (tiles : Tiles g) where
  block_one : (b : BlockAt) → is_split_block g b ≡ true → is_leaf_block g b ≡ false
  unfolding finest
  block_one b s = elim (cases_Bool (is_leaf_block g b)) [
    | inl t ↦
        let l = split_says g b s in
        let lt = l.2 in
        let room = (tiles.inside l.0 l.1).level in
        let p = finest g.shape.max l.0 in
        let pl : LiesIn p l.0 = finest_in g.shape.max l.0 room in
        let same = ap (λ (x : BlockAt). x.level) (tiles.once p l.0 b refl l.1 (leaf_says g b t) pl (lies_trans p l.0 b pl l.3)) in
        absurd (omega arith)
    | inr n ↦ n
  ]

  block_root : (b : BlockAt) → b.level ≡ 0 → InDomain g.shape b → is_split_block g b ≡ false → is_leaf_block g b ≡ true
  unfolding finest
  block_root b l i n =
      let room = i.level in
      let p = finest g.shape.max b in
      let pb : LiesIn p b = finest_in g.shape.max b room in
      let cover = tiles.covered p (domain_finest g.shape b i) refl in
      let within : LiesIn cover.0 b = nested p cover.0 b cover.2 pb (omega arith) in
      elim (cases_lt b.level cover.0.level) [
        | inl finer ↦ let s = split_shows g b cover.0 cover.1 finer within in cc
        | inr same ↦ leaf_shows g b (subst (λ c. IsIn c g.leaves) (same_level cover.0 b within (omega arith)) cover.1)
      ]

  block_below : (r n x : ℕ) → 0 < n → x < r * n * 2 ^ 0 → x / n < r * 2 ^ 0
  block_below r n x h lt = (div-lt_iff_lt-mul h).1 (omega arith)

  cell_below : (r n l x : ℕ) → 0 < n → x / n < r * 2 ^ l → x < r * n * 2 ^ l
  cell_below r n l x h lt = subst (λ k. x < k) (grind arith) ((div-lt_iff_lt-mul h).0 lt)

  range_on : IsShape g.shape → (c : CellAt) → InDomain g.shape (block_of g.shape.n c) → (a : Axis) → on a c < extent g.shape a c.level
  range_on sh c d X = cell_below g.shape.rx g.shape.n c.level c.x (cells_some sh) d.x
  range_on sh c d Y = cell_below g.shape.ry g.shape.n c.level c.y (cells_some sh) d.y
  range_on sh c d Z = cell_below g.shape.rz g.shape.n c.level c.z (cells_some sh) d.z

  domain_of : IsShape g.shape → (c : CellAt) → c.level ≡ 0 → Inside g.shape c → InDomain g.shape (block_of g.shape.n c)
  domain_of sh c l i = record {
    level = omega arith;
    x = subst (λ k. c.x / g.shape.n < g.shape.rx * 2 ^ k) (sym l) (block_below g.shape.rx g.shape.n c.x (cells_some sh) (subst (λ k. c.x < g.shape.rx * g.shape.n * 2 ^ k) l (i X)));
    y = subst (λ k. c.y / g.shape.n < g.shape.ry * 2 ^ k) (sym l) (block_below g.shape.ry g.shape.n c.y (cells_some sh) (subst (λ k. c.y < g.shape.ry * g.shape.n * 2 ^ k) l (i Y)));
    z = subst (λ k. c.z / g.shape.n < g.shape.rz * 2 ^ k) (sym l) (block_below g.shape.rz g.shape.n c.z (cells_some sh) (subst (λ k. c.z < g.shape.rz * g.shape.n * 2 ^ k) l (i Z)));
  }

  pub kinds_of_tiles : IsShape g.shape → Kinds g
  kinds_of_tiles sh = record {
    tree = tree_of_tiles g sh.max tiles;
    one = λ c s. block_one (block_of g.shape.n c) s;
    top = λ c s.
        let l = split_says g (block_of g.shape.n c) s in
        let lt = l.2 in
        let room = (tiles.inside l.0 l.1).level in
        omega arith;
    leaf_top = λ c t. (tiles.inside (block_of g.shape.n c) (leaf_says g (block_of g.shape.n c) t)).level;
    leaf_range = λ c t. (range_on sh c (tiles.inside (block_of g.shape.n c) (leaf_says g (block_of g.shape.n c) t)));
    root = λ c l i n. block_root (block_of g.shape.n c) l (domain_of sh c l i) n;
  }
