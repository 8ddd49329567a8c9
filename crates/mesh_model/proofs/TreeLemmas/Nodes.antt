-- The nodes of a tree are its leaves and their ancestors, by rising key.
use Rattle.std.proofs.Common.{◌≡◌, ℕ, zero, suc, ◌+◌, ◌-◌, ◌*◌, ◌/◌, ◌%◌, ◌^◌, ◌<◌, ◌≤◌, ◌==◌, ◌&&◌, true, false, refl, sym, ap, ◌∙◌, arith, inl, inr, subst, List, [], ◌∷◌, ◌++◌, eqb-true, eq-eqb}
use Rattle.std.proofs.Math.Nat.{mul-div_cancel, mul_assoc}
use Rattle.std.proofs.Math.Pow.{pow-add}
use Rattle.std.proofs.lemmas.Nat.{pow_pos}
use Rattle.std.proofs.lemmas.Bool.{cases_Bool, cases_lt}
use Rattle.amr_num.specs.declared.BlockAt.{BlockAt}
use Rattle.mesh_model.specs.Geometry.Blocks.{child_block, parent_block, is_first_child, LiesIn, InDomain}
use Rattle.mesh_model.specs.Geometry.Limits.{IsShape}
use Rattle.mesh_model.specs.Tree.Kinds.{Grid}
use Rattle.mesh_model.specs.Tree.Order.{IsIn, Sorted, key, morton, begun_at, nodes}
use Rattle.mesh_model.specs.Tree.ValidGrid.{Tiles, Valid}
use Rattle.mesh_model.proofs.TreeLemmas.Tests.{in_left, in_right, in_either, in_flat, from_flat, all_three, and_both}
use Rattle.mesh_model.proofs.TreeLemmas.Tiling.{nested, lies_trans, lies_refl, child_in, finest, finest_in, domain_finest, domain_up, double}
use Rattle.mesh_model.proofs.TreeLemmas.Regrown.{is_parent}
use Rattle.mesh_model.proofs.TreeLemmas.Sorting.{sorted_append, sorted_flat, morton_child, span_pos, past_end}

pub begun_first : (l : ℕ) (c : BlockAt) → is_first_child c ≡ true → begun_at (suc l) c ≡ begun_at l (parent_block c) ++ c ∷ []
unfolding begun_at
begun_first l c t = rw (t, begun_at) refl

pub begun_other : (l : ℕ) (c : BlockAt) → is_first_child c ≡ false → begun_at (suc l) c ≡ c ∷ []
unfolding begun_at
begun_other l c f = rw (f, begun_at) refl

-- ---- each node is a leaf or an ancestor of one

pub begun_in : (l : ℕ) (c b : BlockAt) → c.level ≡ l → IsIn b (begun_at l c) → LiesIn c b
unfolding begun_at
begun_in zero c b e (inl same) = subst (λ u. LiesIn c u) same (lies_refl c)
begun_in zero c b e (inr none) = absurd none
begun_in (suc l) c b e i = elim (cases_Bool (is_first_child c)) [
  | inl t ↦ elim (in_either b (begun_at l (parent_block c)) (c ∷ []) (subst (λ u. IsIn b u) (begun_first l c t) i)) [
    | inl j ↦ lies_trans c (parent_block c) b (child_in c (parent_block c) (is_parent c (omega arith))) (begun_in l (parent_block c) b (omega arith) j)
    | inr (inl same) ↦ subst (λ u. LiesIn c u) same (lies_refl c)
    | inr (inr none) ↦ absurd none
  ]
  | inr f ↦ elim (subst (λ u. IsIn b u) (begun_other l c f) i) [
    | inl same ↦ subst (λ u. LiesIn c u) same (lies_refl c)
    | inr none ↦ absurd none
  ]
]

-- ---- each leaf and each ancestor is a node

own_node : (l : ℕ) (c : BlockAt) → IsIn c (begun_at l c)
unfolding begun_at
own_node zero c = inl refl
own_node (suc l) c = elim (cases_Bool (is_first_child c)) [
  | inl t ↦ subst (λ u. IsIn c u) (sym (begun_first l c t)) (in_right c (begun_at l (parent_block c)) (c ∷ []) (inl refl))
  | inr f ↦ subst (λ u. IsIn c u) (sym (begun_other l c f)) (inl refl)
]

has_node : (d l : ℕ) (c b : BlockAt) → c.level ≡ l → l ≡ b.level + d → c.x ≡ b.x * 2 ^ d → c.y ≡ b.y * 2 ^ d → c.z ≡ b.z * 2 ^ d → IsIn b (begun_at l c)
has_node zero l c b e level x y z =
    let level0 : c.level ≡ b.level = omega arith in
    let same : c ≡ b = λ i. record { level = level0 i; x = once b.x c.x x i; y = once b.y c.y y i; z = once b.z c.z z i } in
    subst (λ u. IsIn u (begun_at l c)) same (own_node l c)
  where
    once : (u w : ℕ) → w ≡ u * 1 → w ≡ u
    once u w h = omega arith
has_node (suc d) zero c b e level x y z = absurd (omega arith)
has_node (suc d) (suc l) c b e level x y z =
    let x2 = x ∙ double b.x d in
    let y2 = y ∙ double b.y d in
    let z2 = z ∙ double b.z d in
    let first : is_first_child c ≡ true = and_both ((c.x % 2 == 0) && (c.y % 2 == 0)) (c.z % 2 == 0) (and_both (c.x % 2 == 0) (c.y % 2 == 0) (eq-eqb _ _ (omega arith)) (eq-eqb _ _ (omega arith))) (eq-eqb _ _ (omega arith)) in
    let up = has_node d l (parent_block c) b (omega arith) (omega arith) (omega arith) (omega arith) (omega arith) in
    subst (λ u. IsIn b u) (sym (begun_first l c first)) (in_left b (begun_at l (parent_block c)) (c ∷ []) up)

pub leaf_under : (leaves : List BlockAt) (b : BlockAt) → IsIn b (nodes leaves) → (leaf : BlockAt) × IsIn leaf leaves × LiesIn leaf b
unfolding nodes
leaf_under leaves b i =
    let from = from_flat (λ c. begun_at c.level c) b leaves i in
    (from.0, from.1, begun_in from.0.level from.0 b refl from.2)

module _ (g : Grid) (tiles : Tiles g) where
  first_place : (top lb lc x : ℕ) → lb ≤ lc → lc ≤ top → x * 2 ^ (top - lb) / 2 ^ (top - lc) ≡ x * 2 ^ (lc - lb)
  first_place top lb lc x h k =
      let sum : top - lb ≡ (lc - lb) + (top - lc) = omega arith in
      ap (λ d. x * 2 ^ d / 2 ^ (top - lc)) sum ∙ ap (λ p. x * p / 2 ^ (top - lc)) (pow-add 2 (lc - lb) (top - lc)) ∙ ap (λ p. p / 2 ^ (top - lc)) (sym (mul_assoc x (2 ^ (lc - lb)) (2 ^ (top - lc)))) ∙ mul-div_cancel (x * 2 ^ (lc - lb)) (pow_pos (top - lc))

  pub round_leaf : (b leaf : BlockAt) → IsIn leaf g.leaves → LiesIn leaf b → IsIn b (nodes g.leaves)
  unfolding nodes finest
  round_leaf b leaf i h =
      let top = g.shape.max in
      let domain = tiles.inside leaf i in
      let room = domain.level in
      let under = h.level in
      let around : InDomain g.shape b = domain_up g.shape leaf b h domain in
      let p = finest top b in
      let pb : LiesIn p b = finest_in top b (omega arith) in
      let over = tiles.covered p (domain_finest g.shape b around) refl in
      let c = over.0 in
      let inside = (tiles.inside c over.1).level in
      elim (cases_lt c.level b.level) [
        | inl coarse ↦
            let bc : LiesIn b c = nested p b c pb over.2 (omega arith) in
            let lc = lies_trans leaf b c h bc in
            let q = finest top leaf in
            let ql = finest_in top leaf room in
            let same = ap (λ (u : BlockAt). u.level) (tiles.once q leaf c refl i over.1 ql (lies_trans q leaf c ql lc)) in
            absurd (omega arith)
        | inr fine ↦
            let deep : c.level ≡ b.level + (c.level - b.level) = omega arith in
            let x = sym over.2.x ∙ first_place top b.level c.level b.x fine inside in
            let y = sym over.2.y ∙ first_place top b.level c.level b.y fine inside in
            let z = sym over.2.z ∙ first_place top b.level c.level b.z fine inside in
            in_flat (λ u. begun_at u.level u) b c g.leaves over.1 (has_node (c.level - b.level) c.level c b refl deep x y z)
      ]

module _ (g : Grid) (valid : Valid g) where
  pub node_in : (b : BlockAt) → IsIn b (nodes g.leaves) → (leaf : BlockAt) × IsIn leaf g.leaves × LiesIn leaf b
  node_in b i = leaf_under g.leaves b i

  pub in_node : (b leaf : BlockAt) → IsIn leaf g.leaves → LiesIn leaf b → IsIn b (nodes g.leaves)
  in_node b leaf i h = round_leaf g valid.tiles b leaf i h

-- ---- nodes by rising key

first_is : (b : BlockAt) → 0 < b.level → is_first_child b ≡ true → child_block (parent_block b) 0 ≡ b
first_is b h t =
    let three = all_three (b.x % 2 == 0) (b.y % 2 == 0) (b.z % 2 == 0) t in
    let x = eqb-true _ _ three.0 in
    let y = eqb-true _ _ three.1 in
    let z = eqb-true _ _ three.2 in
    let lv : suc (b.level - 1) ≡ b.level = omega arith in
    let xs : 2 * (b.x / 2) + 0 ≡ b.x = omega arith in
    let ys : 2 * (b.y / 2) + 0 ≡ b.y = omega arith in
    let zs : 2 * (b.z / 2) + 0 ≡ b.z = omega arith in
    λ i. record { level = lv i; x = xs i; y = ys i; z = zs i }

parent_start : (b : BlockAt) → 0 < b.level → b.level ≤ 10 → is_first_child b ≡ true → morton (parent_block b) ≡ morton b
parent_start b h k t =
    let child = morton_child (parent_block b) 0 (omega arith) (omega arith) in
    let same = ap morton (first_is b h t) in
    omega arith

record Starts (b c : BlockAt) : Type 0 where
  place : morton b ≡ morton c
  level : b.level ≤ c.level

begun_starts : (l : ℕ) (c b : BlockAt) → c.level ≡ l → l ≤ 10 → IsIn b (begun_at l c) → Starts b c
unfolding begun_at
begun_starts zero c b e h (inl same) = subst (λ u. Starts u c) same (record { place = refl; level = omega arith })
begun_starts zero c b e h (inr none) = absurd none
begun_starts (suc l) c b e h i = elim (cases_Bool (is_first_child c)) [
  | inl t ↦ elim (in_either b (begun_at l (parent_block c)) (c ∷ []) (subst (λ u. IsIn b u) (begun_first l c t) i)) [
    | inl j ↦
        let up = begun_starts l (parent_block c) b (omega arith) (omega arith) j in
        let under = up.level in
        record { place = up.place ∙ parent_start c (omega arith) (omega arith) t; level = omega arith }
    | inr (inl same) ↦ subst (λ u. Starts u c) same (record { place = refl; level = omega arith })
    | inr (inr none) ↦ absurd none
  ]
  | inr f ↦ elim (subst (λ u. IsIn b u) (begun_other l c f) i) [
    | inl same ↦ subst (λ u. Starts u c) same (record { place = refl; level = omega arith })
    | inr none ↦ absurd none
  ]
]

sorted_one : (c : BlockAt) → Sorted (c ∷ [])
sorted_one c = (λ b i. absurd i, tt)

begun_sorted : (l : ℕ) (c : BlockAt) → c.level ≡ l → l ≤ 10 → Sorted (begun_at l c)
unfolding begun_at key
begun_sorted zero c e h = sorted_one c
begun_sorted (suc l) c e h = elim (cases_Bool (is_first_child c)) [
  | inl t ↦ subst (λ u. Sorted u) (sym (begun_first l c t)) (sorted_append (begun_at l (parent_block c)) (c ∷ []) (begun_sorted l (parent_block c) (omega arith) (omega arith)) (sorted_one c) (λ n o i j. elim j [
    | inl same ↦
        let up = begun_starts l (parent_block c) n (omega arith) (omega arith) i in
        let place = up.place ∙ parent_start c (omega arith) (omega arith) t in
        let under = up.level in
        subst (λ u. key n < key u) same (omega arith)
    | inr none ↦ absurd none
  ]))
  | inr f ↦ subst (λ u. Sorted u) (sym (begun_other l c f)) (sorted_one c)
]

pub tiled_sorted : (g : Grid) → IsShape g.shape → Tiles g → Sorted g.leaves → Sorted (nodes g.leaves)
unfolding nodes key
tiled_sorted g shape tiles order =
    let top = shape.max in
    sorted_flat (λ b. begun_at b.level b) g.leaves order
    (λ b i. let room = (tiles.inside b i).level in begun_sorted b.level b refl (omega arith))
    (λ b c n o i j h in_b in_c.
    let room_b = (tiles.inside b i).level in
    let room_c = (tiles.inside c j).level in
    let from_b = begun_starts b.level b n refl (omega arith) in_b in
    let from_c = begun_starts c.level c o refl (omega arith) in_c in
    let place_b = from_b.place in
    let place_c = from_c.place in
    let under = from_b.level in
    let past = past_end g shape tiles b c i j h in
    let wide = span_pos b.level in
    omega arith)

pub nodes_sorted : (g : Grid) → Valid g → Sorted g.leaves → Sorted (nodes g.leaves)
nodes_sorted g valid order = tiled_sorted g valid.shape valid.tiles order
