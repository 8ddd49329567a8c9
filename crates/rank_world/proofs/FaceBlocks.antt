-- The faces of a block lie beside its cells.
use Rattle.std.proofs.Common.{◌≡◌, ℕ, suc, ◌+◌, ◌-◌, ◌*◌, ◌/◌, ◌^◌, ◌<◌, ◌⊎◌, true, sym, ap, subst, ◌∙◌, arith, inl, inr}
use Rattle.std.proofs.Math.Nat.{div-lt_iff_lt-mul}
use Rattle.std.proofs.lemmas.Bool.{cases_lt}
use Rattle.amr_num.specs.declared.Axis.{Axis}
use Rattle.amr_num.specs.declared.Axis.TheVariants.{X, Y, Z}
use Rattle.amr_num.specs.declared.BlockAt.{BlockAt}
use Rattle.amr_num.specs.declared.CellAt.{CellAt}
use Rattle.amr_num.specs.declared.FaceAt.{FaceAt}
use Rattle.mesh_model.specs.declared.geometry.Shape.{Shape}
use Rattle.mesh_model.specs.Geometry.Blocks.{InDomain}
use Rattle.mesh_model.specs.Geometry.Canonical.{canonical_on}
use Rattle.mesh_model.specs.Geometry.Coordinates.{Inside, after, face_of, on, with}
use Rattle.mesh_model.specs.Geometry.Places.{in_block, longer_on}
use Rattle.mesh_model.specs.Tree.Kinds.{Grid, block_of, holds, is_leaf, is_leaf_block, is_split, is_split_block, is_split_face}
use Rattle.mesh_model.specs.Tree.ValidGrid.{Valid}
use Rattle.mesh_model.proofs.FieldLemmas.BlockOctants.{block_of_cell}
use Rattle.mesh_model.proofs.FieldLemmas.LeafFaces.{Seen, high_here, low_here, seen_high, seen_low}
use Rattle.mesh_model.proofs.FieldLemmas.ValidGrid.{leaf_inside}
use Rattle.mesh_model.proofs.GeometryLemmas.ShapeLimits.{cells_some}
use Rattle.mesh_model.proofs.TreeLemmas.Tests.{or_left, or_right}
use Rattle.rank_world.proofs.FaceContents.{after_is, canonical_inside}

-- a face is the low one of a cell of the block, or the high one
pub record BesideCell (s : Shape) (a : Axis) (b : BlockAt) (f : FaceAt) : Type 0 where
  pub cell : CellAt
  pub block : block_of s.n cell ≡ b
  pub side : (f ≡ face_of a cell) ⊎ (f ≡ face_of a (after s a cell))

module _ (s : Shape) (b : BlockAt) (inside : (c : CellAt) → block_of s.n c ≡ b → Inside s c) where
  low_one : (a : Axis) (i j k : ℕ) → i < s.n → j < s.n → k < s.n → BesideCell s a b (face_of a (canonical_on s a (in_block s.n b i j k)))
  low_one a i j k hi hj hk =
      let block = block_of_cell s.n b i j k hi hj hk in
      record { cell = in_block s.n b i j k; block = block; side = inl (ap (face_of a) (canonical_inside s a (in_block s.n b i j k) (inside (in_block s.n b i j k) block))) }

  -- one position after the place of a cell
  high_one : (a : Axis) (i j k : ℕ) (c : CellAt) → i < s.n → j < s.n → k < s.n → c ≡ with a (suc (on a (in_block s.n b i j k))) (in_block s.n b i j k) → BesideCell s a b (face_of a (canonical_on s a c))
  high_one a i j k c hi hj hk next = record {
    cell = in_block s.n b i j k;
    block = block_of_cell s.n b i j k hi hj hk;
    side = inr (ap (face_of a) (ap (canonical_on s a) next ∙ after_is s a (in_block s.n b i j k)));
  }

  last : (x i : ℕ) → 0 < i → s.n * x + i ≡ suc (s.n * x + (i - 1))
  last x i h = omega arith

  pub beside_cell_of : (a : Axis) (i j k : ℕ) → 0 < s.n → i < longer_on a X s.n → j < longer_on a Y s.n → k < longer_on a Z s.n → BesideCell s a b (face_of a (canonical_on s a (in_block s.n b i j k)))
  beside_cell_of X i j k some hi hj hk = elim (cases_lt i s.n) [
    | inl low ↦ low_one X i j k low hj hk
    | inr high ↦ high_one X (i - 1) j k (in_block s.n b i j k) (omega arith) hj hk (λ t. record { level = b.level; x = last b.x i (omega arith) t; y = s.n * b.y + j; z = s.n * b.z + k })
  ]
  beside_cell_of Y i j k some hi hj hk = elim (cases_lt j s.n) [
    | inl low ↦ low_one Y i j k hi low hk
    | inr high ↦ high_one Y i (j - 1) k (in_block s.n b i j k) hi (omega arith) hk (λ t. record { level = b.level; x = s.n * b.x + i; y = last b.y j (omega arith) t; z = s.n * b.z + k })
  ]
  beside_cell_of Z i j k some hi hj hk = elim (cases_lt k s.n) [
    | inl low ↦ low_one Z i j k hi hj low
    | inr high ↦ high_one Z i j (k - 1) (in_block s.n b i j k) hi hj (omega arith) (λ t. record { level = b.level; x = s.n * b.x + i; y = s.n * b.y + j; z = last b.z k (omega arith) t })
  ]

-- ---- the cells of a block of the domain

domain_along : (n r x p l m : ℕ) → 0 < n → x / n ≡ p → l ≡ m → p < r * 2 ^ m → x < r * n * 2 ^ l
domain_along n r x p l m some is level less =
    let below : x < r * 2 ^ m * n = (div-lt_iff_lt-mul some).0 (subst (λ q. q < r * 2 ^ m) (sym is) less) in
    let whole : r * 2 ^ m * n ≡ r * n * 2 ^ m = grind arith in
    subst (λ k. x < r * n * 2 ^ k) (sym level) (subst (λ k. x < k) whole below)

pub cells_inside : (s : Shape) (b : BlockAt) → 0 < s.n → InDomain s b → (c : CellAt) → block_of s.n c ≡ b → Inside s c
cells_inside s b some there c is X = domain_along s.n s.rx c.x b.x c.level b.level some (ap (λ (d : BlockAt). d.x) is) (ap (λ (d : BlockAt). d.level) is) there.x
cells_inside s b some there c is Y = domain_along s.n s.ry c.y b.y c.level b.level some (ap (λ (d : BlockAt). d.y) is) (ap (λ (d : BlockAt). d.level) is) there.y
cells_inside s b some there c is Z = domain_along s.n s.rz c.z b.z c.level b.level some (ap (λ (d : BlockAt). d.z) is) (ap (λ (d : BlockAt). d.level) is) there.z

module _ (g : Grid) (valid : Valid g) (a : Axis) (b : BlockAt) where
  -- a face of a leaf is a leaf face or has a split side
  pub leaf_face_seen : is_leaf_block g b ≡ true → (i j k : ℕ) → i < longer_on a X g.shape.n → j < longer_on a Y g.shape.n → k < longer_on a Z g.shape.n →
      Seen g (face_of a (canonical_on g.shape a (in_block g.shape.n b i j k)))
  leaf_face_seen leaf i j k hi hj hk =
      let here : (c : CellAt) → block_of g.shape.n c ≡ b → is_leaf g c ≡ true = λ c is. ap (is_leaf_block g) is ∙ leaf in
      let found = beside_cell_of g.shape b (λ c is. leaf_inside g valid c (here c is)) a i j k (cells_some valid.shape) hi hj hk in
      let one = here found.cell found.block in
      elim found.side [
        | inl low ↦ subst (Seen g) (sym low) (seen_low g a found.cell (leaf_inside g valid found.cell one) one)
        | inr high ↦ subst (Seen g) (sym high) (seen_high g a found.cell (leaf_inside g valid found.cell one) one)
      ]

  -- a face of a split block has a split side
  pub split_face_there : is_split_block g b ≡ true → InDomain g.shape b → (i j k : ℕ) → i < longer_on a X g.shape.n → j < longer_on a Y g.shape.n → k < longer_on a Z g.shape.n →
      is_split_face g (face_of a (canonical_on g.shape a (in_block g.shape.n b i j k))) ≡ true
  unfolding is_split_face
  split_face_there split there i j k hi hj hk =
      let some = cells_some valid.shape in
      let found = beside_cell_of g.shape b (cells_inside g.shape b some there) a i j k some hi hj hk in
      let inside = cells_inside g.shape b some there found.cell found.block in
      let one : is_split g found.cell ≡ true = ap (is_split_block g) found.block ∙ split in
      elim found.side [
        | inl low ↦ ap (is_split_face g) low ∙ or_right _ _ (ap (holds (is_split g)) (high_here g.shape a found.cell inside) ∙ one)
        | inr high ↦ ap (is_split_face g) high ∙ or_left _ _ (ap (holds (is_split g)) (low_here g.shape a found.cell inside) ∙ one)
      ]
