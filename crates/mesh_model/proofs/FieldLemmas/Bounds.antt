-- How great the view of a split cell can be.
use Rattle.std.proofs.Common.{◌≡◌, ℕ, zero, suc, ◌+◌, ◌-◌, ◌*◌, ◌/◌, ◌^◌, ◌<◌, ◌≤◌, ◌⊎◌, true, false, min, max, nat_lt, if◌then◌else◌, ℤ, refl, sym, ap, ◌∙◌, arith, inl, inr, subst, List, [], ◌∷◌, length, Option, Some, None}
use Rattle.std.proofs.Math.Nat.{mul-le-mul_right, mul-le-mul_left, lt-div-mul-add, div-mul-le_self}
use Rattle.std.proofs.lemmas.Nat.{mul-le}
use Rattle.std.proofs.lemmas.Bool.{cases_Bool, cases_lt, lt-ltb, le-ltb}
use Rattle.amr_num.proofs.Sizes.{within_add}
use Rattle.amr_num.specs.declared.BlockAt.{BlockAt}
use Rattle.amr_num.specs.declared.CellAt.{CellAt}
use Rattle.amr_num.specs.Numbers.{Within, sum_below}
use Rattle.mesh_model.proofs.GeometryLemmas.ShapeLimits.{cells_some}
use Rattle.mesh_model.specs.Geometry.Coordinates.{sub_cell}
use Rattle.mesh_model.specs.Tree.Kinds.{Grid, block_of, is_leaf, is_split}
use Rattle.mesh_model.specs.Tree.Order.{IsIn}
use Rattle.mesh_model.specs.Tree.ValidGrid.{Valid}
use Rattle.mesh_model.specs.Fields.Views.{sum_down, cell_view}
use Rattle.mesh_model.proofs.TreeLemmas.Tiling.{leaf_says}
use Rattle.mesh_model.proofs.FieldLemmas.ValidGrid.{tree}
use Rattle.mesh_model.proofs.FieldLemmas.CellSums.{down_whole, down_split, view_split}

-- ---- sums of sizes

abbrev pub total : ℕ → (ℕ → ℕ) → ℕ
total zero w = 0
total (suc k) w = total k w + w k

pub wider : (z : ℤ) (m n : ℕ) → Within m z → m ≤ n → Within n z
wider z m n h le = omega arith

pub sum_within : (k : ℕ) (f : ℕ → ℤ) (w : ℕ → ℕ) → ((q : ℕ) → q < k → Within (w q) (f q)) → Within (total k w) (sum_below k f)
sum_within zero f w h = omega arith
sum_within (suc k) f w h = within_add (total k w) (w k) (sum_below k f) (f k) (sum_within k f w (λ q p. h q (omega arith))) (h k (omega arith))

pub total_add : (k : ℕ) (u w : ℕ → ℕ) → total k (λ q. u q + w q) ≡ total k u + total k w
total_add zero u w = refl
total_add (suc k) u w = let here = total_add k u w in omega arith

pub total_times : (k b : ℕ) (w : ℕ → ℕ) → total k (λ q. b * w q) ≡ b * total k w
total_times zero b w = omega arith
total_times (suc k) b w = let here = total_times k b w in let row = spread_over b (total k w) (w k) in omega arith
  where
    spread_over : (b m n : ℕ) → b * (m + n) ≡ b * m + b * n
    spread_over b m n = grind arith

-- ---- how many cells of a block's level lie in the block and in a cell

-- how far the place a is in the stretch of n from lo
unfoldable pub cut : ℕ → ℕ → ℕ → ℕ
cut lo n a = min (max a lo) (lo + n) - lo

cut_rise : (lo n a b : ℕ) → a ≤ b → cut lo n a ≤ cut lo n b
unfolding cut
cut_rise lo n a b h = omega arith

cut_le : (lo n a : ℕ) → cut lo n a ≤ n
unfolding cut
cut_le lo n a = omega arith

unfoldable pub overlap : ℕ → ℕ → ℕ → ℕ → ℕ
overlap lo n d x = cut lo n (suc x * 2 ^ d) - cut lo n (x * 2 ^ d)

pub overlap_le : (lo n d x : ℕ) → overlap lo n d x ≤ n
unfolding overlap
overlap_le lo n d x = let le = cut_le lo n (suc x * 2 ^ d) in omega arith

twice : (x d : ℕ) → x * 2 ^ suc d ≡ (2 * x + 0) * 2 ^ d
twice x d = grind arith

pub overlap_halves : (lo n d x : ℕ) → overlap lo n (suc d) x ≡ overlap lo n d (2 * x + 0) + overlap lo n d (2 * x + 1)
unfolding overlap
overlap_halves lo n d x =
    let low = twice x d in
    let top : suc x * 2 ^ suc d ≡ suc (2 * x + 1) * 2 ^ d = twice (suc x) d ∙ ap (λ k. k * 2 ^ d) (omega arith) in
    let mid : suc (2 * x + 0) * 2 ^ d ≡ (2 * x + 1) * 2 ^ d = ap (λ k. k * 2 ^ d) (omega arith) in
    let rise1 = cut_rise lo n ((2 * x + 0) * 2 ^ d) ((2 * x + 1) * 2 ^ d) (mul-le-mul_right (2 ^ d) (omega arith)) in
    let rise2 = cut_rise lo n ((2 * x + 1) * 2 ^ d) (suc (2 * x + 1) * 2 ^ d) (mul-le-mul_right (2 ^ d) (omega arith)) in
    let a = ap (cut lo n) low in
    let b = ap (cut lo n) top in
    let c = ap (cut lo n) mid in
    omega arith

overlap_own : (x n : ℕ) → 0 < n → overlap (x / n * n) n 0 x ≡ 1
unfolding overlap cut
overlap_own x n h =
    let lt = lt-div-mul-add {a = x} h in
    let le = div-mul-le_self x n in
    let one : suc x * 1 ≡ suc x = omega arith in
    let same : x * 1 ≡ x = omega arith in
    rw (one, same) (omega arith)

unfoldable pub share : ℕ → BlockAt → CellAt → ℕ
share n b c = if nat_lt b.level c.level then 0 else overlap (b.x * n) n (b.level - c.level) c.x * overlap (b.y * n) n (b.level - c.level) c.y * overlap (b.z * n) n (b.level - c.level) c.z

pub share_coarse : (n : ℕ) (b : BlockAt) (c : CellAt) → b.level < c.level → share n b c ≡ 0
unfolding share
share_coarse n b c h = rw (lt-ltb b.level c.level h) refl

pub share_fine : (n d : ℕ) (b : BlockAt) (c : CellAt) → c.level ≤ b.level → b.level - c.level ≡ d → share n b c ≡ overlap (b.x * n) n d c.x * overlap (b.y * n) n d c.y * overlap (b.z * n) n d c.z
unfolding share
share_fine n d b c h e = rw (le-ltb b.level c.level h) (ap (λ k. overlap (b.x * n) n k c.x * overlap (b.y * n) n k c.y * overlap (b.z * n) n k c.z) e)

pub share_le : (n : ℕ) (b : BlockAt) (c : CellAt) → share n b c ≤ n * n * n
share_le n b c = elim (cases_lt b.level c.level) [
  | inl h ↦ let none = share_coarse n b c h in omega arith
  | inr h ↦ subst (λ u. u ≤ n * n * n) (sym (share_fine n (b.level - c.level) b c h refl)) (mul-le _ _ _ _ (mul-le _ _ _ _ (overlap_le _ n _ c.x) (overlap_le _ n _ c.y)) (overlap_le _ n _ c.z))
]

eight_parts : (a b c d e f : ℕ) → a * c * e + b * c * e + a * d * e + b * d * e + a * c * f + b * c * f + a * d * f + b * d * f ≡ (a + b) * (c + d) * (e + f)
eight_parts a b c d e f = grind arith

pub share_split : (n : ℕ) (b : BlockAt) (c : CellAt) → total 8 (λ q. share n b (sub_cell c q)) ≤ share n b c
share_split n b c = elim (cases_lt b.level (suc c.level)) [
  | inl h ↦
      let s0 = share_coarse n b (sub_cell c 0) h in
      let s1 = share_coarse n b (sub_cell c 1) h in
      let s2 = share_coarse n b (sub_cell c 2) h in
      let s3 = share_coarse n b (sub_cell c 3) h in
      let s4 = share_coarse n b (sub_cell c 4) h in
      let s5 = share_coarse n b (sub_cell c 5) h in
      let s6 = share_coarse n b (sub_cell c 6) h in
      let s7 = share_coarse n b (sub_cell c 7) h in
      omega arith
  | inr h ↦
      let d = b.level - suc c.level in
      let e : b.level - c.level ≡ suc d = omega arith in
      let s0 = share_fine n d b (sub_cell c 0) h refl in
      let s1 = share_fine n d b (sub_cell c 1) h refl in
      let s2 = share_fine n d b (sub_cell c 2) h refl in
      let s3 = share_fine n d b (sub_cell c 3) h refl in
      let s4 = share_fine n d b (sub_cell c 4) h refl in
      let s5 = share_fine n d b (sub_cell c 5) h refl in
      let s6 = share_fine n d b (sub_cell c 6) h refl in
      let s7 = share_fine n d b (sub_cell c 7) h refl in
      let whole = share_fine n (suc d) b c (omega arith) e in
      let x = overlap_halves (b.x * n) n d c.x in
      let y = overlap_halves (b.y * n) n d c.y in
      let z = overlap_halves (b.z * n) n d c.z in
      let product : share n b c ≡ (overlap (b.x * n) n d (2 * c.x + 0) + overlap (b.x * n) n d (2 * c.x + 1)) * (overlap (b.y * n) n d (2 * c.y + 0) + overlap (b.y * n) n d (2 * c.y + 1)) * (overlap (b.z * n) n d (2 * c.z + 0) + overlap (b.z * n) n d (2 * c.z + 1)) = whole ∙ (λ i. x i * y i * z i) in
      let parts = eight_parts (overlap (b.x * n) n d (2 * c.x + 0)) (overlap (b.x * n) n d (2 * c.x + 1)) (overlap (b.y * n) n d (2 * c.y + 0)) (overlap (b.y * n) n d (2 * c.y + 1)) (overlap (b.z * n) n d (2 * c.z + 0)) (overlap (b.z * n) n d (2 * c.z + 1)) in
      omega arith
]

share_own : (n : ℕ) (c : CellAt) → 0 < n → share n (block_of n c) c ≡ 1
share_own n c h =
    share_fine n 0 (block_of n c) c (omega arith) (omega arith)
    ∙ (λ i. overlap_own c.x n h i * overlap_own c.y n h i * overlap_own c.z n h i)

-- ---- how many leaf cells lie in a cell

unfoldable pub weight : ℕ → List BlockAt → CellAt → ℕ
weight n [] c = 0
weight n (b ∷ bs) c = share n b c + weight n bs c

pub weight_le : (n : ℕ) (bs : List BlockAt) (c : CellAt) → weight n bs c ≤ length bs * (n * n * n)
unfolding weight
weight_le n [] c = omega arith
weight_le n (b ∷ bs) c = let here = share_le n b c in let rest = weight_le n bs c in let row = one_row (length bs) (n * n * n) in omega arith
  where
    one_row : (k m : ℕ) → suc k * m ≡ m + k * m
    one_row k m = grind arith

pub weight_split : (n : ℕ) (bs : List BlockAt) (c : CellAt) → total 8 (λ q. weight n bs (sub_cell c q)) ≤ weight n bs c
unfolding weight
weight_split n [] c = omega arith
weight_split n (b ∷ bs) c =
    let here = share_split n b c in
    let rest = weight_split n bs c in
    let sum = total_add 8 (λ q. share n b (sub_cell c q)) (λ q. weight n bs (sub_cell c q)) in
    omega arith

weight_in : (n : ℕ) (bs : List BlockAt) (b : BlockAt) (c : CellAt) → IsIn b bs → share n b c ≤ weight n bs c
unfolding weight
weight_in n [] b c i = absurd i
weight_in n (d ∷ bs) b c (inl e) = let same = ap (λ u. share n u c) e in omega arith
weight_in n (d ∷ bs) b c (inr i) = let rest = weight_in n bs b c i in omega arith

pub weight_leaf : (g : Grid) → 0 < g.shape.n → (c : CellAt) → is_leaf g c ≡ true → 1 ≤ weight g.shape.n g.leaves c
weight_leaf g h c leaf =
    let own = share_own g.shape.n c h in
    let in_all = weight_in g.shape.n g.leaves (block_of g.shape.n c) c (leaf_says g (block_of g.shape.n c) leaf) in
    omega arith

-- ---- the bound

module _ (g : Grid) (valid : Valid g) (content : CellAt → ℤ) (most : ℕ) (small : (c : CellAt) → is_leaf g c ≡ true → Within most (content c)) where
  leaf_within : (c : CellAt) → is_leaf g c ≡ true → Within (most * weight g.shape.n g.leaves c) (content c)
  leaf_within c leaf =
      let one = mul-le-mul_left {m = 1} {n = weight g.shape.n g.leaves c} most (weight_leaf g (cells_some valid.shape) c leaf) in
      let bound = small c leaf in
      omega arith

  kind_leaf : (c : CellAt) → is_split g c ≡ false → (is_split g c ≡ true) ⊎ (is_leaf g c ≡ true) → is_leaf g c ≡ true
  kind_leaf c w (inl s) = cc
  kind_leaf c w (inr l) = l

  whole_within : (d : ℕ) (c : CellAt) → is_split g c ≡ false → (is_split g c ≡ true) ⊎ (is_leaf g c ≡ true) → Within (most * weight g.shape.n g.leaves c) (sum_down g content d c)
  whole_within d c w kind = subst (λ z. Within (most * weight g.shape.n g.leaves c) z) (sym (down_whole g content d c w)) (leaf_within c (kind_leaf c w kind))

  kind_below : (c : CellAt) (q : ℕ) → is_split g c ≡ true → (is_split g (sub_cell c q) ≡ true) ⊎ (is_leaf g (sub_cell c q) ≡ true)
  kind_below c q s = elim (cases_Bool (is_split g (sub_cell c q))) [
    | inl t ↦ inl t
    | inr n ↦ inr ((tree g valid).below_split c q s n)
  ]

  down_within : (d : ℕ) (c : CellAt) → 10 - c.level ≡ d → (is_split g c ≡ true) ⊎ (is_leaf g c ≡ true) → Within (most * weight g.shape.n g.leaves c) (sum_down g content d c)
  down_within zero c e kind = elim (cases_Bool (is_split g c)) [
    | inl s ↦ let deep = (tree g valid).split_level c s in absurd (omega arith)
    | inr w ↦ whole_within zero c w kind
  ]
  down_within (suc d) c e kind = elim (cases_Bool (is_split g c)) [
    | inl s ↦
        let sum = sum_within 8 (λ q. sum_down g content d (sub_cell c q)) (λ q. most * weight g.shape.n g.leaves (sub_cell c q)) (λ q l. down_within d (sub_cell c q) (omega arith) (kind_below c q s)) in
        let times = total_times 8 most (λ q. weight g.shape.n g.leaves (sub_cell c q)) in
        let all = mul-le-mul_left most (weight_split g.shape.n g.leaves c) in
        subst (λ z. Within (most * weight g.shape.n g.leaves c) z) (sym (down_split g content d c s)) (wider (sum_below 8 (λ q. sum_down g content d (sub_cell c q))) (total 8 (λ q. most * weight g.shape.n g.leaves (sub_cell c q))) _ sum (omega arith))
    | inr w ↦ whole_within (suc d) c w kind
  ]

  -- the view of a split cell is at most the number of leaf cells times the greatest content
  pub split_view_within : (c : CellAt) → is_split g c ≡ true → Within (most * (length g.leaves * (g.shape.n * g.shape.n * g.shape.n))) (cell_view g content c)
  split_view_within c s =
      let bound = mul-le-mul_left most (weight_le g.shape.n g.leaves c) in
      subst (λ z. Within (most * (length g.leaves * (g.shape.n * g.shape.n * g.shape.n))) z) (sym (view_split g content c s)) (wider (sum_down g content (10 - c.level) c) (most * weight g.shape.n g.leaves c) _ (down_within (10 - c.level) c refl (inl s)) bound)

-- ---- faces and edges: two or four cells beside or round them share the leaf cells

-- the part of a stretch of n in the place, where there is one
unfoldable pub overlap_at : ℕ → ℕ → ℕ → Option ℕ → ℕ
overlap_at lo n d None = 0
overlap_at lo n d (Some x) = overlap lo n d x

-- two places, one at most of them there, or different ones
abbrev pub Apart : Option ℕ → Option ℕ → Type 0
Apart None p = Unit
Apart (Some x) None = Unit
Apart (Some x) (Some y) = x ≡ y → ⊥

before_le : (lo n d x y : ℕ) → x < y → overlap lo n d x + overlap lo n d y ≤ n
unfolding overlap
before_le lo n d x y h =
    let a = cut_rise lo n (x * 2 ^ d) (suc x * 2 ^ d) (mul-le-mul_right (2 ^ d) (omega arith)) in
    let b = cut_rise lo n (suc x * 2 ^ d) (y * 2 ^ d) (mul-le-mul_right (2 ^ d) h) in
    let c = cut_rise lo n (y * 2 ^ d) (suc y * 2 ^ d) (mul-le-mul_right (2 ^ d) (omega arith)) in
    let top = cut_le lo n (suc y * 2 ^ d) in
    omega arith

two_le : (lo n d x y : ℕ) → (x ≡ y → ⊥) → overlap lo n d x + overlap lo n d y ≤ n
two_le lo n d x y h = elim (cases_lt x y) [
  | inl lt ↦ before_le lo n d x y lt
  | inr ge ↦ elim (cases_lt y x) [
    | inl lt ↦ let swapped = before_le lo n d y x lt in omega arith
    | inr le ↦ absurd (h (omega arith))
  ]
]

pub apart_le : (lo n d : ℕ) (o p : Option ℕ) → Apart o p → overlap_at lo n d o + overlap_at lo n d p ≤ n
unfolding overlap_at
apart_le lo n d None None h = omega arith
apart_le lo n d None (Some y) h = let le = overlap_le lo n d y in omega arith
apart_le lo n d (Some x) None h = let le = overlap_le lo n d x in omega arith
apart_le lo n d (Some x) (Some y) h = two_le lo n d x y h

-- the shares of a cell that may not be there
unfoldable pub share_at : ℕ → BlockAt → Option CellAt → ℕ
share_at n b None = 0
share_at n b (Some c) = share n b c

unfoldable pub weight_at : ℕ → List BlockAt → Option CellAt → ℕ
weight_at n bs None = 0
weight_at n bs (Some c) = weight n bs c
