-- Kinds of cells, by leaf cells.
use Rattle.std.proofs.Common.{◌≡◌, ℕ, ◌+◌, ◌-◌, ◌*◌, ◌/◌, ◌^◌, ◌<◌, ◌≤◌, true, false, refl, sym, ap, ◌∙◌, arith, inl, inr, subst, mul_comm}
use Rattle.std.proofs.Math.Nat.{div-div-eq-div-mul, mul-div_cancel}
use Rattle.std.proofs.Math.Pow.{pow-add}
use Rattle.std.proofs.lemmas.Nat.{pow_pos}
use Rattle.std.proofs.lemmas.Bool.{cases_lt}
use Rattle.amr_num.specs.declared.BlockAt.{BlockAt}
use Rattle.amr_num.specs.declared.CellAt.{CellAt}
use Rattle.mesh_model.proofs.GeometryLemmas.ShapeLimits.{cells_some}
use Rattle.mesh_model.specs.Tree.Kinds.{Grid, block_of, is_leaf, is_split, is_leaf_block}
use Rattle.mesh_model.specs.Geometry.Coordinates.{Inside}
use Rattle.mesh_model.specs.Fields.Laws.{CellIn}
use Rattle.mesh_model.specs.Tree.Order.{IsIn}
use Rattle.mesh_model.specs.Tree.ValidGrid.{Valid}
use Rattle.mesh_model.specs.Geometry.Blocks.{LiesIn}
use Rattle.mesh_model.proofs.TreeLemmas.Tiling.{leaf_says, leaf_shows, split_says, split_shows, same_level, domain_up}
use Rattle.mesh_model.proofs.TreeLemmas.Levels.{domain_down, split_finer, home}
use Rattle.mesh_model.proofs.FieldLemmas.Beside.{block_in_domain}

turned : (x n k : ℕ) → x / 2 ^ k / n ≡ x / n / 2 ^ k
turned x n k = div-div-eq-div-mul x (2 ^ k) n ∙ ap (λ p. x / p) (mul_comm (2 ^ k) n) ∙ sym (div-div-eq-div-mul x n (2 ^ k))

-- the blocks of cells lie as the cells do
pub blocks_lie : (n : ℕ) (d c : CellAt) → CellIn d c → LiesIn (block_of n d) (block_of n c)
blocks_lie n d c h = record {
  level = h.level;
  x = sym (turned d.x n (d.level - c.level)) ∙ ap (λ u. u / n) h.x;
  y = sym (turned d.y n (d.level - c.level)) ∙ ap (λ u. u / n) h.y;
  z = sym (turned d.z n (d.level - c.level)) ∙ ap (λ u. u / n) h.z;
}

-- the cell of level l round d
unfoldable up_to : ℕ → CellAt → CellAt
up_to l d = record { level = l; x = d.x / 2 ^ (d.level - l); y = d.y / 2 ^ (d.level - l); z = d.z / 2 ^ (d.level - l) }

up_in : (l : ℕ) (d : CellAt) → l ≤ d.level → CellIn d (up_to l d)
unfolding up_to
up_in l d h = record { level = h; x = refl; y = refl; z = refl }

-- the first finest cell in c
unfoldable first_cell : ℕ → CellAt → CellAt
first_cell top c = record { level = top; x = c.x * 2 ^ (top - c.level); y = c.y * 2 ^ (top - c.level); z = c.z * 2 ^ (top - c.level) }

first_in : (top : ℕ) (c : CellAt) → c.level ≤ top → CellIn (first_cell top c) c
unfolding first_cell
first_in top c h = record { level = h; x = mul-div_cancel c.x (pow_pos (top - c.level)); y = mul-div_cancel c.y (pow_pos (top - c.level)); z = mul-div_cancel c.z (pow_pos (top - c.level)) }

shrink : (x d e : ℕ) → x / 2 ^ d / 2 ^ e ≡ x / 2 ^ (d + e)
shrink x d e = div-div-eq-div-mul x (2 ^ d) (2 ^ e) ∙ ap (λ p. x / p) (sym (pow-add 2 d e))

-- of two cells round one, the finer lies in the coarser
between : (l : ℕ) (d c : CellAt) → l ≤ d.level → c.level ≤ l → CellIn d c → CellIn (up_to l d) c
unfolding up_to
between l d c h k i =
    let sum : (d.level - l) + (l - c.level) ≡ d.level - c.level = omega arith in
    record {
      level = k;
      x = shrink d.x (d.level - l) (l - c.level) ∙ ap (λ m. d.x / 2 ^ m) sum ∙ i.x;
      y = shrink d.y (d.level - l) (l - c.level) ∙ ap (λ m. d.y / 2 ^ m) sum ∙ i.y;
      z = shrink d.z (d.level - l) (l - c.level) ∙ ap (λ m. d.z / 2 ^ m) sum ∙ i.z;
    }

-- a leaf round the block of d is the block of the cell of its level round d
leaf_block : (n : ℕ) (d : CellAt) (leaf : BlockAt) → LiesIn (block_of n d) leaf → block_of n (up_to leaf.level d) ≡ leaf
unfolding up_to
leaf_block n d leaf h = λ i. record { level = leaf.level; x = (turned d.x n (d.level - leaf.level) ∙ h.x) i; y = (turned d.y n (d.level - leaf.level) ∙ h.y) i; z = (turned d.z n (d.level - leaf.level) ∙ h.z) i }

module _ (g : Grid) (valid : Valid g) where
  cell_of_leaf : (d : CellAt) (leaf : BlockAt) → IsIn leaf g.leaves → LiesIn (block_of g.shape.n d) leaf → is_leaf g (up_to leaf.level d) ≡ true
  cell_of_leaf d leaf i h = ap (is_leaf_block g) (leaf_block g.shape.n d leaf h) ∙ leaf_shows g leaf i

  pub finer_cell : (c : CellAt) → is_split g c ≡ true → (d : CellAt) × (is_leaf g d ≡ true) × (c.level < d.level) × CellIn d c
  unfolding first_cell up_to
  finer_cell c split =
      let n = g.shape.n in
      let finer = split_says g (block_of n c) split in
      let lt = finer.2 in
      let low = (valid.tiles.inside finer.0 finer.1).level in
      let p = first_cell g.shape.max c in
      let pc = first_in g.shape.max c (omega arith) in
      let in_block = blocks_lie n p c pc in
      let domain = domain_down g.shape (block_of n p) (block_of n c) in_block (omega arith) (domain_up g.shape finer.0 (block_of n c) finer.3 (valid.tiles.inside finer.0 finer.1)) in
      let cover = valid.tiles.covered (block_of n p) domain refl in
      let deeper = split_finer g valid.tiles valid.shape.max (block_of n p) (block_of n c) cover.0 in_block cover.1 cover.2 split in
      let room = cover.2.level in
      (up_to cover.0.level p, cell_of_leaf p cover.0 cover.1 cover.2, deeper, between cover.0.level p c room (omega arith) pc)

  pub split_of_cell : (c d : CellAt) → is_leaf g d ≡ true → c.level < d.level → CellIn d c → is_split g c ≡ true
  split_of_cell c d leaf lt i = split_shows g (block_of g.shape.n c) (block_of g.shape.n d) (leaf_says g (block_of g.shape.n d) leaf) lt (blocks_lie g.shape.n d c i)

  pub coarser_cell : (c : CellAt) → Inside g.shape c → c.level ≤ g.shape.max → is_leaf g c ≡ false → is_split g c ≡ false → (d : CellAt) × (is_leaf g d ≡ true) × (d.level < c.level) × CellIn c d
  unfolding up_to
  coarser_cell c i room no_leaf whole =
      let n = g.shape.n in
      let around = home g valid.tiles valid.shape.max (block_of n c) (block_in_domain g.shape c (cells_some valid.shape) room i) whole in
      let le = around.2.level in
      elim (cases_lt around.0.level c.level) [
        | inl lt ↦ (up_to around.0.level c, cell_of_leaf c around.0 around.1 around.2, lt, up_in around.0.level c le)
        | inr ge ↦
            let same = same_level (block_of n c) around.0 around.2 (omega arith) in
            let leaf = leaf_shows g (block_of n c) (subst (λ u. IsIn u g.leaves) (sym same) around.1) in
            cc
      ]
