-- The leaf round a cell.
use Rattle.std.proofs.Common.{◌≡◌, ℕ, ◌-◌, ◌/◌, ◌^◌, ◌<◌, ◌≤◌, true, false, refl, sym, ap, ◌∙◌, subst, inl, inr, arith, ◌⊎◌, ◌+◌, ◌*◌, Option, Some, None, MatchOption, OnSome}
use Rattle.std.proofs.Math.Nat.{div-lt_iff_lt-mul}
use Rattle.std.proofs.Math.Pow.{pow-add}
use Rattle.std.proofs.lemmas.Bool.{cases_Bool, cases_lt}
use Rattle.std.proofs.lemmas.Nat.{pow_pos}
use Rattle.amr_num.specs.declared.Axis.{Axis}
use Rattle.amr_num.specs.declared.Axis.TheVariants.{X, Y, Z}
use Rattle.amr_num.specs.declared.BlockAt.{BlockAt}
use Rattle.amr_num.specs.declared.CellAt.{CellAt}
use Rattle.mesh_model.specs.declared.geometry.Shape.{Shape}
use Rattle.mesh_model.specs.Geometry.Coordinates.{Inside, on, extent}
use Rattle.mesh_model.specs.Tree.Order.{IsIn}
use Rattle.mesh_model.specs.Tree.Kinds.{Grid, block_of, is_leaf_block, is_split, is_split_block}
use Rattle.mesh_model.specs.Tree.ValidGrid.{Valid}
use Rattle.mesh_model.specs.Geometry.Blocks.{LiesIn, InDomain}
use Rattle.mesh_model.proofs.FieldLemmas.Beside.{block_in_domain}
use Rattle.mesh_model.proofs.TreeLemmas.Levels.{home}
use Rattle.mesh_model.proofs.GeometryLemmas.ShapeLimits.{cells_some}
use Rattle.mesh_model.proofs.TreeLemmas.Tests.{refuted}
use Rattle.mesh_model.proofs.TreeLemmas.Tiling.{lies_trans, domain_up, leaf_says, leaf_shows, split_says}
use Rattle.block_tree.proofs.Leaves.{leaf_alone}
use Rattle.block_tree.specs.Numbered.{IsNumberOf}

-- the block of level l in which a cell lies
unfoldable pub over : ℕ → CellAt → ℕ → BlockAt
over n c l = record { level = l; x = c.x / n / 2 ^ (c.level - l); y = c.y / n / 2 ^ (c.level - l); z = c.z / n / 2 ^ (c.level - l) }

pub over_in : (n : ℕ) (c : CellAt) (l : ℕ) → l ≤ c.level → LiesIn (block_of n c) (over n c l)
unfolding over
over_in n c l h = record { level = h; x = refl; y = refl; z = refl }

-- a block in which the cell lies is that of its level
pub over_is : (n : ℕ) (c : CellAt) (b : BlockAt) → LiesIn (block_of n c) b → over n c b.level ≡ b
unfolding over
over_is n c b h = λ i. record { level = b.level; x = h.x i; y = h.y i; z = h.z i }

-- the same shape with more levels
deeper : Shape → ℕ → Shape
deeper s l = record { rx = s.rx; ry = s.ry; rz = s.rz; n = s.n; g = s.g; min = s.min; max = l; sides = s.sides }

deep_domain : (s : Shape) (c : CellAt) (b : BlockAt) → 0 < s.n → s.max ≤ c.level → Inside s c → LiesIn (block_of s.n c) b → b.level ≤ s.max → InDomain s b
unfolding deeper
deep_domain s c b some deep i h le =
    let d = domain_up (deeper s c.level) (block_of s.n c) b h (block_in_domain (deeper s c.level) c some (omega arith) i) in
    record { level = le; x = d.x; y = d.y; z = d.z }

turn : (r n a b : ℕ) → r * a * b * n ≡ r * n * (a * b)
turn r n a b = grind arith

cell_below : (r n k l x y : ℕ) → 0 < n → k ≤ l → x / n / 2 ^ (l - k) ≡ y → y < r * 2 ^ k → x < r * n * 2 ^ l
cell_below r n k l x y some le e lt =
    let d = l - k in
    let block = (div-lt_iff_lt-mul (pow_pos d)).0 (subst (λ u. u < r * 2 ^ k) (sym e) lt) in
    let cell = (div-lt_iff_lt-mul some).0 block in
    let sum : k + d ≡ l = omega arith in
    subst (λ u. x < u) (turn r n (2 ^ k) (2 ^ d) ∙ ap (λ u. r * n * u) (sym (pow-add 2 k d) ∙ ap (λ u. 2 ^ u) sum)) cell

module _ (g : Grid) (valid : Valid g) where
  pub no_split : (b : BlockAt) → g.shape.max ≤ b.level → is_split_block g b ≡ false
  no_split b h = refuted _ (λ t.
      let under = split_says g b t in
      let finer = under.2 in
      let room = (valid.tiles.inside under.0 under.1).level in
      omega arith)

  -- a cell of the domain that is not split lies in a leaf
  pub around : (c : CellAt) → Inside g.shape c → is_split g c ≡ false → (leaf : BlockAt) × IsIn leaf g.leaves × LiesIn (block_of g.shape.n c) leaf
  unfolding over
  around c i whole =
      let n = g.shape.n in
      elim (cases_lt g.shape.max c.level) [
        | inl deep ↦
            let b = over n c g.shape.max in
            let inside = over_in n c g.shape.max (omega arith) in
            let domain = deep_domain g.shape c b (cells_some valid.shape) (omega arith) i inside (omega arith) in
            let leaf = home g valid.tiles valid.shape.max b domain (no_split b (omega arith)) in
            (leaf.0, leaf.1, lies_trans (block_of n c) b leaf.0 inside leaf.2)
        | inr high ↦ home g valid.tiles valid.shape.max (block_of n c) (block_in_domain g.shape c (cells_some valid.shape) high i) whole
      ]

  -- where no block round the cell is a leaf, the cell lies in no leaf
  pub nowhere : (c : CellAt) (most : ℕ) → ((l : ℕ) → l < most → is_leaf_block g (over g.shape.n c l) ≡ false) → ((leaf : BlockAt) → IsIn leaf g.leaves → leaf.level ≤ c.level → leaf.level < most) → (leaf : BlockAt) → IsIn leaf g.leaves → LiesIn (block_of g.shape.n c) leaf → ⊥
  nowhere c most none few leaf i h =
      let yes = ap (is_leaf_block g) (over_is g.shape.n c leaf h) ∙ leaf_shows g leaf i in
      let no = none leaf.level (few leaf i h.level) in
      cc

  pub split_or_outside : (c : CellAt) → ((leaf : BlockAt) → IsIn leaf g.leaves → LiesIn (block_of g.shape.n c) leaf → ⊥) → (is_split g c ≡ true) ⊎ (Inside g.shape c → ⊥)
  split_or_outside c none = elim (cases_Bool (is_split g c)) [
    | inl t ↦ inl t
    | inr f ↦ inr (λ i. let leaf = around c i f in none leaf.0 leaf.1 leaf.2)
  ]

  -- a cell that lies in a leaf is not split, and lies in the domain
  pub covered_whole : (c : CellAt) (leaf : BlockAt) → IsIn leaf g.leaves → LiesIn (block_of g.shape.n c) leaf → is_split g c ≡ false
  covered_whole c leaf i h = refuted _ (λ t.
      let finer = split_says g (block_of g.shape.n c) t in
      let same = ap (λ (u : BlockAt). u.level) (leaf_alone g valid finer.0 leaf finer.1 i (lies_trans finer.0 (block_of g.shape.n c) leaf finer.3 h)) in
      let up = h.level in
      let down = finer.2 in
      omega arith)

  pub covered_inside : (c : CellAt) (leaf : BlockAt) → IsIn leaf g.leaves → LiesIn (block_of g.shape.n c) leaf → Inside g.shape c
  covered_inside c leaf i h a = in_extent a (valid.tiles.inside leaf i)
    where
      some : 0 < g.shape.n
      some = cells_some valid.shape

      in_extent : (a : Axis) → InDomain g.shape leaf → on a c < extent g.shape a c.level
      in_extent X d = cell_below g.shape.rx g.shape.n leaf.level c.level c.x leaf.x some h.level h.x d.x
      in_extent Y d = cell_below g.shape.ry g.shape.n leaf.level c.level c.y leaf.y some h.level h.y d.y
      in_extent Z d = cell_below g.shape.rz g.shape.n leaf.level c.level c.z leaf.z some h.level h.z d.z

-- where a search for the leaf round a cell finds one
pub on_leaf : (g : Grid) (b : BlockAt) (r : Option ℕ) (P : Type 0) → MatchOption r (is_leaf_block g b ≡ false) (λ i. (is_leaf_block g b ≡ true) × IsNumberOf g b i) → (IsIn b g.leaves → P) → OnSome r P
on_leaf g b None P h f = tt
on_leaf g b (Some i) P h f = f (leaf_says g b h.0)
