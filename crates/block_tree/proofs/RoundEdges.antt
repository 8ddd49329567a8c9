-- Which edges of a block are split or leaf edges, by the kinds of the blocks round them.
use Rattle.std.proofs.Common.{◌≡◌, ℕ, zero, suc, ◌+◌, ◌*◌, ◌/◌, ◌%◌, ◌<◌, ◌≤◌, ◌⊎◌, Bool, true, false, not, ◌||◌, ◌&&◌, ◌==◌, refl, sym, ap, ap₂, ◌∙◌, arith, inl, inr, eq-eqb, ne_eqb}
use Rattle.std.specs.List.{list_any}
use Rattle.std.proofs.lemmas.Bool.{cases_lt}
use Rattle.amr_num.specs.declared.Axis.{Axis}
use Rattle.amr_num.specs.declared.Axis.TheVariants.{X, Y, Z}
use Rattle.amr_num.specs.declared.BlockAt.{BlockAt}
use Rattle.amr_num.specs.declared.CellAt.{CellAt}
use Rattle.mesh_model.specs.Geometry.Blocks.{InDomain}
use Rattle.mesh_model.specs.Geometry.Coordinates.{next, round_edge}
use Rattle.mesh_model.specs.Geometry.Places.{in_block, longer_across}
use Rattle.mesh_model.specs.Tree.Kinds.{Grid, holds, is_leaf, is_leaf_block, is_leaf_edge, is_split, is_split_block, is_split_edge}
use Rattle.mesh_model.specs.Fields.EdgeSplits.{edge_direction, end_step}
use Rattle.mesh_model.specs.Fields.FaceSplits.{direction, position}
use Rattle.mesh_model.proofs.FieldLemmas.BlockOctants.{block_of_cell}
use Rattle.mesh_model.proofs.FieldLemmas.Slots.{four_failed}
use Rattle.mesh_model.proofs.TreeLemmas.Tests.{or_left, or_right}
use Rattle.block_tree.specs.Directions.{across, block_toward, direction_of, edge_name, is_kind, lies_round, lies_toward}
use Rattle.block_tree.specs.declared.directions.Direction.{Direction}
use Rattle.block_tree.proofs.RoundBlocks.{at_end, before_end, four, high_step, low_step, round_is}

-- ---- the steps to a part of the boundary

-- on an axis a position lies at the low end, at the high end or between
module _ (n p : ℕ) (some : 0 < n) (h : p ≤ n) where
  abbrev pub Ends : Type 0
  Ends = ((low_step p ≡ 0) × (high_step n p ≡ 1) × (end_step n p ≡ 0))
      ⊎ (((low_step p ≡ 1) × (high_step n p ≡ 2) × (end_step n p ≡ 2)) ⊎ ((low_step p ≡ 1) × (high_step n p ≡ 1) × (end_step n p ≡ 1)))

low_more : (p : ℕ) → 0 < p → low_step p ≡ 1
low_more zero h = absurd (omega arith)
low_more (suc p) h = refl

pub ends : (n p : ℕ) (some : 0 < n) (h : p ≤ n) → Ends n p some h
ends n p some h = elim (cases_lt 0 p) [
  | inr none ↦
      let first : p ≡ 0 = omega (arith, none) in
      inl (ap low_step first, (before_end n p (omega (arith, first, some))).0, (let test = eq-eqb p 0 first in rw test refl))
  | inl more ↦
      let test = ne_eqb p 0 (λ is. absurd (omega (arith, more, is))) in
      elim (cases_lt p n) [
        | inl less ↦ (let last = ne_eqb p n (λ is. absurd (omega (arith, less, is))) in inr (inr (low_more p more, (before_end n p less).0, rw (test, last) refl)))
        | inr end ↦ (
            let is : p ≡ n = omega (arith, end, h) in
            let last = eq-eqb p n is in
            inr (inl (low_more p more, (at_end n p is).0, rw (test, last) refl)))
      ]
]

module _ (n p : ℕ) (some : 0 < n) (h : p ≤ n) where
  low_in : (low_step p ≡ 1) ⊎ (low_step p ≡ end_step n p)
  low_in = elim (ends n p some h) [
    | inl low ↦ inr (low.0 ∙ sym low.2)
    | inr (inl high) ↦ inl high.0
    | inr (inr between) ↦ inl between.0
  ]

  high_in : (high_step n p ≡ 1) ⊎ (high_step n p ≡ end_step n p)
  high_in = elim (ends n p some h) [
    | inl low ↦ inl low.1
    | inr (inl high) ↦ inr (high.1 ∙ sym high.2)
    | inr (inr between) ↦ inl between.1
  ]

  one_in : (1 ≡ low_step p) ⊎ (1 ≡ high_step n p)
  one_in = elim (ends n p some h) [
    | inl low ↦ inr (sym low.1)
    | inr (inl high) ↦ inl (sym high.0)
    | inr (inr between) ↦ inl (sym between.0)
  ]

  end_in : (end_step n p ≡ low_step p) ⊎ (end_step n p ≡ high_step n p)
  end_in = elim (ends n p some h) [
    | inl low ↦ inl (low.2 ∙ sym low.0)
    | inr (inl high) ↦ inr (high.2 ∙ sym high.1)
    | inr (inr between) ↦ inl (between.2 ∙ sym between.0)
  ]

  pub end_few : end_step n p < 3
  end_few = elim (ends n p some h) [
    | inl low ↦ (let is = low.2 in omega (arith, is))
    | inr (inl high) ↦ (let is = high.2 in omega (arith, is))
    | inr (inr between) ↦ (let is = between.2 in omega (arith, is))
  ]

-- ---- one of four blocks

one_of_four : (a b c d : Bool) → (a ≡ true) ⊎ ((b ≡ true) ⊎ ((c ≡ true) ⊎ (d ≡ true))) → (a || (b || (c || (d || false)))) ≡ true
one_of_four a b c d (inl is) = or_left a _ is
one_of_four a b c d (inr (inl is)) = or_right a _ (or_left b _ is)
one_of_four a b c d (inr (inr (inl is))) = or_right a _ (or_right b _ (or_left c _ is))
one_of_four a b c d (inr (inr (inr is))) = or_right a _ (or_right b _ (or_right c _ (or_left d false is)))

module _ (v : ℕ → ℕ → Bool) (n p q : ℕ) (some : 0 < n) (hp : p ≤ n) (hq : q ≤ n) where
  abbrev d : ℕ
  d = end_step n p

  abbrev e : ℕ
  e = end_step n q

  four_none : v 1 1 ≡ false → v d e ≡ false → v 1 e ≡ false → v d 1 ≡ false → four v n p q ≡ false
  four_none own both first second =
      let pick = λ (s t : ℕ) (is : (s ≡ 1) ⊎ (s ≡ d)) (it : (t ≡ 1) ⊎ (t ≡ e)). none s t is it in
      four_failed _ _ _ _ (pick (low_step p) (low_step q) (low_in n p some hp) (low_in n q some hq)) (pick (high_step n p) (low_step q) (high_in n p some hp) (low_in n q some hq))
      (pick (low_step p) (high_step n q) (low_in n p some hp) (high_in n q some hq)) (pick (high_step n p) (high_step n q) (high_in n p some hp) (high_in n q some hq))
    where
      none : (s t : ℕ) → (s ≡ 1) ⊎ (s ≡ d) → (t ≡ 1) ⊎ (t ≡ e) → v s t ≡ false
      none s t (inl u) (inl w) = ap₂ v u w ∙ own
      none s t (inl u) (inr w) = ap₂ v u w ∙ first
      none s t (inr u) (inl w) = ap₂ v u w ∙ second
      none s t (inr u) (inr w) = ap₂ v u w ∙ both

  pub four_some : (s t : ℕ) → (s ≡ low_step p) ⊎ (s ≡ high_step n p) → (t ≡ low_step q) ⊎ (t ≡ high_step n q) → v s t ≡ true → four v n p q ≡ true
  four_some s t (inl u) (inl w) is = one_of_four (v (low_step p) (low_step q)) (v (high_step n p) (low_step q)) (v (low_step p) (high_step n q)) (v (high_step n p) (high_step n q)) (inl (sym (ap₂ v u w) ∙ is))
  four_some s t (inr u) (inl w) is = one_of_four (v (low_step p) (low_step q)) (v (high_step n p) (low_step q)) (v (low_step p) (high_step n q)) (v (high_step n p) (high_step n q)) (inr (inl (sym (ap₂ v u w) ∙ is)))
  four_some s t (inl u) (inr w) is = one_of_four (v (low_step p) (low_step q)) (v (high_step n p) (low_step q)) (v (low_step p) (high_step n q)) (v (high_step n p) (high_step n q)) (inr (inr (inl (sym (ap₂ v u w) ∙ is))))
  four_some s t (inr u) (inr w) is = one_of_four (v (low_step p) (low_step q)) (v (high_step n p) (low_step q)) (v (low_step p) (high_step n q)) (v (high_step n p) (high_step n q)) (inr (inr (inr (sym (ap₂ v u w) ∙ is))))

  -- where the block itself is left out
  three_are : v 1 1 ≡ false → four v n p q ≡ (v d e || (v 1 e || v d 1))
  three_are own = by_test (v d e) (v 1 e) (v d 1) refl refl refl
    where
      by_test : (x y z : Bool) → v d e ≡ x → v 1 e ≡ y → v d 1 ≡ z → four v n p q ≡ (v d e || (v 1 e || v d 1))
      by_test true y z ix iy iz = four_some d e (end_in n p some hp) (end_in n q some hq) ix ∙ sym (or_left (v d e) _ ix)
      by_test false true z ix iy iz = four_some 1 e (one_in n p some hp) (end_in n q some hq) iy ∙ sym (or_right (v d e) _ (or_left (v 1 e) _ iy))
      by_test false false true ix iy iz = four_some d 1 (end_in n p some hp) (one_in n q some hq) iz ∙ sym (or_right (v d e) _ (or_right (v 1 e) _ iz))
      by_test false false false ix iy iz = four_none own ix iy iz ∙ sym (ap₂ (λ s t. s || t) ix (ap₂ (λ s t. s || t) iy iz))

-- ---- round an edge

any_x : (a b c : Bool) → (a || (b || c)) ≡ (true && (((a || a) || b) || c))
any_x true b c = refl
any_x false true c = refl
any_x false false c = refl

any_y : (u w a b c : Bool) → (a || (b || c)) ≡ (((u || true) || w) && (((a || c) || a) || b))
any_y true w true b c = refl
any_y false w true b c = refl
any_y true w false true true = refl
any_y true w false true false = refl
any_y true w false false true = refl
any_y true w false false false = refl
any_y false w false true true = refl
any_y false w false true false = refl
any_y false w false false true = refl
any_y false w false false false = refl

any_z : (u w a b c : Bool) → (a || (b || c)) ≡ (((u || w) || true) && (((a || b) || c) || a))
any_z true w true b c = refl
any_z false true true b c = refl
any_z false false true b c = refl
any_z true w false true c = refl
any_z true w false false true = refl
any_z true w false false false = refl
any_z false true false true c = refl
any_z false true false false true = refl
any_z false true false false false = refl
any_z false false false true c = refl
any_z false false false false true = refl
any_z false false false false false = refl

module _ (g : Grid) (kind : Bool) (b : BlockAt) where
  toward : Axis → ℕ → ℕ → Bool
  toward a s t = lies_toward g kind b (across a s t)

  round_three : (a : Axis) (s t : ℕ) → (toward a s t || (toward a 1 t || toward a s 1)) ≡ lies_round g kind b (across a s t)
  unfolding toward lies_round
  round_three X s t = any_x (toward X s t) (toward X 1 t) (toward X s 1)
  round_three Y s t = any_y (t == 1) (s == 1) (toward Y s t) (toward Y 1 t) (toward Y s 1)
  round_three Z s t = any_z (s == 1) (t == 1) (toward Z s t) (toward Z 1 t) (toward Z s 1)

  own : (a : Axis) → toward a 1 1 ≡ is_kind g kind b
  unfolding toward lies_toward block_toward
  own X = refl
  own Y = refl
  own Z = refl

-- a direction by its number
known : (x y z : ℕ) → x < 3 → y < 3 → z < 3 → direction_of (direction x y z) ≡ record { x = x; y = y; z = z }
known x y z hx hy hz =
    let on_x : (x + 3 * y + 9 * z) % 3 ≡ x = omega arith in
    let on_y : (x + 3 * y + 9 * z) / 3 % 3 ≡ y = omega arith in
    let on_z : (x + 3 * y + 9 * z) / 9 % 3 ≡ z = omega arith in
    λ i. record { x = on_x i; y = on_y i; z = on_z i }

-- on which part of a block's boundary an edge lies
abbrev pub part_of : ℕ → Axis → ℕ → ℕ → ℕ → Direction
part_of n a i j k = across a (end_step n (position (next a) i j k)) (end_step n (position (next (next a)) i j k))

module _ (n : ℕ) (some : 0 < n) where
  pub direction_is : (a : Axis) (i j k : ℕ) → i < longer_across a X n → j < longer_across a Y n → k < longer_across a Z n → direction_of (edge_direction n a i j k) ≡ part_of n a i j k
  direction_is X i j k hi hj hk = known 1 (end_step n j) (end_step n k) (omega arith) (end_few n j some (omega (arith, hj))) (end_few n k some (omega (arith, hk)))
  direction_is Y i j k hi hj hk = known (end_step n i) 1 (end_step n k) (end_few n i some (omega (arith, hi))) (omega arith) (end_few n k some (omega (arith, hk)))
  direction_is Z i j k hi hj hk = known (end_step n i) (end_step n j) 1 (end_few n i some (omega (arith, hi))) (end_few n j some (omega (arith, hj))) (omega arith)

  pub direction_few : (a : Axis) (i j k : ℕ) → i < longer_across a X n → j < longer_across a Y n → k < longer_across a Z n → edge_direction n a i j k < 27
  direction_few X i j k hi hj hk = let y = end_few n j some (omega (arith, hj)) in let z = end_few n k some (omega (arith, hk)) in omega (arith, y, z)
  direction_few Y i j k hi hj hk = let x = end_few n i some (omega (arith, hi)) in let z = end_few n k some (omega (arith, hk)) in omega (arith, x, z)
  direction_few Z i j k hi hj hk = let x = end_few n i some (omega (arith, hi)) in let y = end_few n j some (omega (arith, hj)) in omega (arith, x, y)

-- the positions of an edge across its axis
pub across_most : (a : Axis) (n i j k : ℕ) → i < longer_across a X n → j < longer_across a Y n → k < longer_across a Z n → (position (next a) i j k ≤ n) × (position (next (next a)) i j k ≤ n)
across_most X n i j k hi hj hk = (omega (arith, hj), omega (arith, hk))
across_most Y n i j k hi hj hk = (omega (arith, hk), omega (arith, hi))
across_most Z n i j k hi hj hk = (omega (arith, hi), omega (arith, hj))

-- the kind of a cell's block
cell_kind : Grid → Bool → CellAt → Bool
cell_kind g true = is_leaf g
cell_kind g false = is_split g

kind_is : (g : Grid) (kind : Bool) (d : BlockAt) (i j k : ℕ) → i < g.shape.n → j < g.shape.n → k < g.shape.n → cell_kind g kind (in_block g.shape.n d i j k) ≡ is_kind g kind d
unfolding cell_kind
kind_is g true d i j k hi hj hk = ap (is_leaf_block g) (block_of_cell g.shape.n d i j k hi hj hk)
kind_is g false d i j k hi hj hk = ap (is_split_block g) (block_of_cell g.shape.n d i j k hi hj hk)

module _ (g : Grid) (b : BlockAt) (some : 0 < g.shape.n) (inside : InDomain g.shape b) (a : Axis) (i j k : ℕ) (hi : i < longer_across a X g.shape.n) (hj : j < longer_across a Y g.shape.n) (hk : k < longer_across a Z g.shape.n) where
  -- whether a cell of the kind lies round an edge of a block
  abbrev any : Bool → Bool
  any kind = list_any (holds (cell_kind g kind)) (round_edge g.shape (edge_name g.shape a b i j k))

  four_are : (kind : Bool) → any kind ≡ four (λ s t. toward g kind b a s t) g.shape.n (position (next a) i j k) (position (next (next a)) i j k)
  unfolding toward lies_toward
  four_are kind = round_is g.shape b some inside (cell_kind g kind) (is_kind g kind) (kind_is g kind) a i j k hi hj hk

  -- where the block is not of the kind, others have to be
  others_round : (kind : Bool) → is_kind g kind b ≡ false → any kind ≡ lies_round g kind b (part_of g.shape.n a i j k)
  others_round kind none =
      let n = g.shape.n in
      let most = across_most a n i j k hi hj hk in
      let p = position (next a) i j k in
      let q = position (next (next a)) i j k in
      four_are kind ∙ three_are (λ s t. toward g kind b a s t) n p q some most.0 most.1 (own g kind b a ∙ none) ∙ round_three g kind b a (end_step n p) (end_step n q)

  self_round : (kind : Bool) → is_kind g kind b ≡ true → any kind ≡ true
  self_round kind is =
      let n = g.shape.n in
      let most = across_most a n i j k hi hj hk in
      let p = position (next a) i j k in
      let q = position (next (next a)) i j k in
      four_are kind ∙ four_some (λ s t. toward g kind b a s t) n p q some most.0 most.1 1 1 (one_in n p some most.0) (one_in n q some most.1) (own g kind b a ∙ is)

  -- an edge of a split block has a split cell round it
  pub split_edge_there : is_split_block g b ≡ true → is_split_edge g (edge_name g.shape a b i j k) ≡ true
  unfolding is_split_edge cell_kind
  split_edge_there split = self_round false split

  pub whole_edge : is_split_block g b ≡ false → is_split_edge g (edge_name g.shape a b i j k) ≡ lies_round g false b (part_of g.shape.n a i j k)
  unfolding is_split_edge cell_kind
  whole_edge whole = others_round false whole

  -- an edge of a leaf is a leaf edge but on parts of its boundary round which finer leaves stand
  pub leaf_edge_of_leaf : is_leaf_block g b ≡ true → is_split_block g b ≡ false → is_leaf_edge g (edge_name g.shape a b i j k) ≡ not (lies_round g false b (part_of g.shape.n a i j k))
  unfolding is_leaf_edge cell_kind
  leaf_edge_of_leaf leaf whole = ap₂ (λ u w. u && not w) (self_round true leaf) (whole_edge whole)

  -- an edge of a block that is no leaf and has no finer ones round it is a leaf edge where leaves of the block's level stand round it
  pub leaf_edge_of_other : is_leaf_block g b ≡ false → is_split_edge g (edge_name g.shape a b i j k) ≡ false → is_leaf_edge g (edge_name g.shape a b i j k) ≡ lies_round g true b (part_of g.shape.n a i j k)
  unfolding is_leaf_edge cell_kind
  leaf_edge_of_other none calm = ap₂ (λ u w. u && not w) (others_round true none) calm ∙ and_true (lies_round g true b (part_of g.shape.n a i j k))
    where
      and_true : (t : Bool) → (t && true) ≡ t
      and_true true = refl
      and_true false = refl
