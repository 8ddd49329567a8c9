-- The sum over leaf cells is the sum over the list of leaves of each block's cells.
use Rattle.std.proofs.Common.{◌≡◌, ℕ, zero, suc, ◌+◌, ◌*◌, ◌/◌, ◌^◌, ◌<◌, Bool, true, false, ◌&&◌, ◌==◌, ℤ, pos, ◌+ℤ◌, refl, sym, ap, ap₂, ◌∙◌, arith, inl, inr, subst, List, [], ◌∷◌, eqb-true, mul_comm}
use Rattle.std.specs.Prelude.{if◌then◌else◌}
use Rattle.std.specs.List.{list_any}
use Rattle.std.proofs.lemmas.Int.{ints}
use Rattle.std.proofs.lemmas.Bool.{cases_Bool, cases_lt, and_parts}
use Rattle.std.proofs.lemmas.Bool.Decides.{nat_tests}
use Rattle.std.proofs.lemmas.Nat.{div-mul-add}
use Rattle.amr_num.specs.declared.Axis.TheVariants.{X, Y, Z}
use Rattle.amr_num.specs.declared.BlockAt.{BlockAt}
use Rattle.amr_num.specs.declared.CellAt.{CellAt}
use Rattle.amr_num.specs.Numbers.{sum_below}
use Rattle.amr_num.proofs.Parts.{sum_below_same, sum_below_add}
use Rattle.mesh_model.specs.declared.geometry.Shape.{Shape}
use Rattle.mesh_model.specs.Geometry.Coordinates.{extent}
use Rattle.mesh_model.specs.Tree.Kinds.{Grid, is_leaf_block, block_of}
use Rattle.mesh_model.specs.Geometry.Blocks.{lies_in, InDomain}
use Rattle.mesh_model.specs.Fields.Plain.{on_cells}
use Rattle.mesh_model.specs.Tree.Order.{IsIn, Sorted}
use Rattle.mesh_model.specs.Tree.ValidGrid.{Valid}
use Rattle.mesh_model.specs.Fields.Totals.{box_sum, level_sum, leaf_sum, block_sum, sum_over}
use Rattle.mesh_model.proofs.FieldLemmas.LeafSums.{on_leaf, off_leaf}
use Rattle.mesh_model.proofs.FieldLemmas.Sums.{box_same, box_add, box_zero, sum_below_zero}
use Rattle.mesh_model.proofs.TreeLemmas.Tiling.{same_level, lies_says, lies_shows, lies_refl}
use Rattle.mesh_model.proofs.TreeLemmas.Tests.{found}

-- ---- stretches in pieces of n

sum_split : (a b : ℕ) (f : ℕ → ℤ) → sum_below (a + b) f ≡ sum_below a f +ℤ sum_below b (λ i. f (a + i))
sum_split a zero f = let e : a + 0 ≡ a = omega arith in ap (λ k. sum_below k f) e ∙ omega (arith, ints)
sum_split a (suc b) f =
    let e : a + suc b ≡ suc (a + b) = omega arith in
    let here = sum_split a b f in
    ap (λ k. sum_below k f) e ∙ omega (arith, ints, here)

sum_pieces : (n k : ℕ) (f : ℕ → ℤ) → sum_below (n * k) f ≡ sum_below k (λ x. sum_below n (λ i. f (n * x + i)))
sum_pieces n zero f = let e : n * 0 ≡ 0 = omega arith in ap (λ m. sum_below m f) e
sum_pieces n (suc k) f =
    let e : n * suc k ≡ n * k + n = grind arith in
    ap (λ m. sum_below m f) e ∙ sum_split (n * k) n f ∙ ap (λ a. a +ℤ sum_below n (λ i. f (n * k + i))) (sum_pieces n k f)

sum_swap : (m n : ℕ) (f : ℕ → ℕ → ℤ) → sum_below m (λ i. sum_below n (λ j. f i j)) ≡ sum_below n (λ j. sum_below m (λ i. f i j))
sum_swap zero n f = sym (sum_below_zero n (λ j. pos 0) (λ q p. refl))
sum_swap (suc m) n f = ap (λ a. a +ℤ sum_below n (λ j. f m j)) (sum_swap m n f) ∙ sym (sum_below_add n (λ j. sum_below m (λ i. f i j)) (λ j. f m j))

plane_pieces : (n a b : ℕ) (f : ℕ → ℕ → ℤ) → sum_below (n * b) (λ y. sum_below (n * a) (λ x. f x y)) ≡ sum_below b (λ y. sum_below a (λ x. sum_below n (λ j. sum_below n (λ i. f (n * x + i) (n * y + j)))))
plane_pieces n a b f =
    sum_pieces n b (λ y. sum_below (n * a) (λ x. f x y))
    ∙ sum_below_same b _ _ (λ y hy.
    sum_below_same n _ _ (λ j hj. sum_pieces n a (λ x. f x (n * y + j)))
    ∙ sum_swap n a (λ j x. sum_below n (λ i. f (n * x + i) (n * y + j))))

box_pieces : (n a b c : ℕ) (f : ℕ → ℕ → ℕ → ℤ) → box_sum (n * a) (n * b) (n * c) f ≡ box_sum a b c (λ x y z. box_sum n n n (λ i j k. f (n * x + i) (n * y + j) (n * z + k)))
unfolding box_sum
box_pieces n a b c f =
    sum_pieces n c (λ z. sum_below (n * b) (λ y. sum_below (n * a) (λ x. f x y z)))
    ∙ sum_below_same c _ _ (λ z hz.
    sum_below_same n _ _ (λ k hk. plane_pieces n a b (λ x y. f x y (n * z + k)))
    ∙ sum_swap n b (λ k y. sum_below a (λ x. sum_below n (λ j. sum_below n (λ i. f (n * x + i) (n * y + j) (n * z + k)))))
    ∙ sum_below_same b _ _ (λ y hy. sum_swap n a (λ k x. sum_below n (λ j. sum_below n (λ i. f (n * x + i) (n * y + j) (n * z + k))))))

-- ---- a sum with one place that counts

sum_one : (k : ℕ) (f : ℕ → ℤ) (p : ℕ) → p < k → ((q : ℕ) → q < k → (q ≡ p → ⊥) → f q ≡ pos 0) → sum_below k f ≡ f p
sum_one zero f p h only = absurd (omega arith)
sum_one (suc k) f p h only = elim (cases_lt p k) [
  | inl lt ↦
      let here = sum_one k f p lt (λ q hq ne. only q (omega arith) ne) in
      let last = only k (omega arith) (λ e. absurd (omega arith)) in
      omega (arith, ints, here, last)
  | inr ge ↦
      let same : k ≡ p = omega arith in
      let before = sum_below_zero k f (λ q hq. only q (omega arith) (λ e. absurd (omega arith))) in
      let last = ap f same in
      omega (arith, ints, before, last)
]

box_one : (a b c : ℕ) (f : ℕ → ℕ → ℕ → ℤ) (x y z : ℕ) → x < a → y < b → z < c → ((p q r : ℕ) → (((p ≡ x) × (q ≡ y) × (r ≡ z)) → ⊥) → f p q r ≡ pos 0) → box_sum a b c f ≡ f x y z
unfolding box_sum
box_one a b c f x y z hx hy hz only =
    sum_one c (λ r. sum_below b (λ q. sum_below a (λ p. f p q r))) z hz (λ r hr ne. sum_below_zero b _ (λ q hq. sum_below_zero a _ (λ p hp. only p q r (λ e. ne e.2))))
    ∙ sum_one b (λ q. sum_below a (λ p. f p q z)) y hy (λ q hq ne. sum_below_zero a _ (λ p hp. only p q z (λ e. ne e.1)))
    ∙ sum_one a (λ p. f p y z) x hx (λ p hp ne. only p y z (λ e. ne e.0))

-- ---- blocks of the domain, level by level

block : ℕ → ℕ → ℕ → ℕ → BlockAt
block l x y z = record { level = l; x = x; y = y; z = z }

domain_sum : Shape → (BlockAt → ℤ) → ℤ
domain_sum s f = sum_below (suc s.max) (λ l. box_sum (s.rx * 2 ^ l) (s.ry * 2 ^ l) (s.rz * 2 ^ l) (λ x y z. f (block l x y z)))

level_blocks : (s : Shape) (l : ℕ) (f : CellAt → ℤ) → level_sum s l f ≡ box_sum (s.rx * 2 ^ l) (s.ry * 2 ^ l) (s.rz * 2 ^ l) (λ x y z. block_sum s.n f (block l x y z))
unfolding block
level_blocks s l f =
    let at = λ (x y z : ℕ). f (record { level = l; x = x; y = y; z = z }) in
    let ex : extent s X l ≡ s.n * (s.rx * 2 ^ l) = turned s.rx s.n (2 ^ l) in
    let ey : extent s Y l ≡ s.n * (s.ry * 2 ^ l) = turned s.ry s.n (2 ^ l) in
    let ez : extent s Z l ≡ s.n * (s.rz * 2 ^ l) = turned s.rz s.n (2 ^ l) in
    ap (λ a. box_sum a (extent s Y l) (extent s Z l) at) ex ∙ ap₂ (λ b c. box_sum (s.n * (s.rx * 2 ^ l)) b c at) ey ez
    ∙ box_pieces s.n (s.rx * 2 ^ l) (s.ry * 2 ^ l) (s.rz * 2 ^ l) at
  where
    turned : (r n m : ℕ) → r * n * m ≡ n * (r * m)
    turned r n m = grind arith

-- ---- a block that is one of a list

is_same : BlockAt → BlockAt → Bool
is_same leaf b = (leaf.level == b.level) && lies_in leaf b

same_says : (leaf b : BlockAt) → is_same leaf b ≡ true → leaf ≡ b
unfolding is_same
same_says leaf b h = let both = and_parts _ _ h in same_level leaf b (lies_says leaf b both.1) (eqb-true _ _ both.0)

same_fails : (leaf b : BlockAt) → (leaf ≡ b → ⊥) → is_same leaf b ≡ false
same_fails leaf b h = elim (cases_Bool (is_same leaf b)) [
  | inl t ↦ absurd (h (same_says leaf b t))
  | inr n ↦ n
]

same_shows : (b : BlockAt) → is_same b b ≡ true
unfolding is_same
same_shows b = rw (lies_shows b b (lies_refl b)) (grind (arith, nat_tests))

one : BlockAt → (BlockAt → ℤ) → BlockAt → ℤ
one leaf f b = if is_same leaf b then f b else pos 0

pick : List BlockAt → (BlockAt → ℤ) → BlockAt → ℤ
pick bs f b = if list_any (λ leaf. is_same leaf b) bs then f b else pos 0

zero_more : (n : ℤ) → n ≡ pos 0 +ℤ n
zero_more n = omega (arith, ints)

module _ (f : BlockAt → ℤ) where
  one_off : (leaf b : BlockAt) → (leaf ≡ b → ⊥) → one leaf f b ≡ pos 0
  unfolding one
  one_off leaf b h = rw (same_fails leaf b h) refl

  one_on : (b : BlockAt) → one b f b ≡ f b
  unfolding one
  one_on b = rw (same_shows b) refl

  pick_cons : (leaf b : BlockAt) (bs : List BlockAt) → (IsIn leaf bs → ⊥) → pick (leaf ∷ bs) f b ≡ one leaf f b +ℤ pick bs f b
  unfolding pick one
  pick_cons leaf b bs apart = elim (cases_Bool (is_same leaf b)) [
    | inl t ↦
        let off : list_any (λ l. is_same l b) bs ≡ false = elim (cases_Bool (list_any (λ l. is_same l b) bs)) [
          | inl s ↦ let l = found (λ l. is_same l b) bs s in absurd (apart (subst (λ k. IsIn k bs) (same_says l.0 b l.2 ∙ sym (same_says leaf b t)) l.1))
          | inr n ↦ n
        ] in
        rw (t, off) (omega (arith, ints))
    | inr n ↦ rw n (zero_more _)
  ]

  one_sum : (s : Shape) (leaf : BlockAt) → InDomain s leaf → domain_sum s (one leaf f) ≡ f leaf
  unfolding domain_sum block
  one_sum s leaf i =
      let room = i.level in
      sum_one (suc s.max) (λ l. box_sum (s.rx * 2 ^ l) (s.ry * 2 ^ l) (s.rz * 2 ^ l) (λ x y z. one leaf f (block l x y z))) leaf.level (omega arith)
      (λ l hl ne. box_zero (s.rx * 2 ^ l) (s.ry * 2 ^ l) (s.rz * 2 ^ l) (λ x y z. one leaf f (block l x y z)) (λ x y z hx hy hz. one_off leaf (block l x y z) (λ e. ne (sym (ap (λ (k : BlockAt). k.level) e)))))
      ∙ box_one (s.rx * 2 ^ leaf.level) (s.ry * 2 ^ leaf.level) (s.rz * 2 ^ leaf.level) (λ x y z. one leaf f (block leaf.level x y z)) leaf.x leaf.y leaf.z i.x i.y i.z
      (λ p q r ne. one_off leaf (block leaf.level p q r) (λ e. ne (sym (ap (λ (k : BlockAt). k.x) e), sym (ap (λ (k : BlockAt). k.y) e), sym (ap (λ (k : BlockAt). k.z) e))))
      ∙ one_on leaf

  domain_add : (s : Shape) (u v : BlockAt → ℤ) → domain_sum s (λ b. u b +ℤ v b) ≡ domain_sum s u +ℤ domain_sum s v
  unfolding domain_sum
  domain_add s u v = sum_below_same (suc s.max) _ _ (λ l hl. box_add _ _ _ _ _) ∙ sum_below_add (suc s.max) _ _

  domain_same : (s : Shape) (u v : BlockAt → ℤ) → ((b : BlockAt) → u b ≡ v b) → domain_sum s u ≡ domain_sum s v
  domain_same s u v h = ap (domain_sum s) (λ i b. h b i)

  domain_none : (s : Shape) → domain_sum s (pick [] f) ≡ pos 0
  unfolding domain_sum pick
  domain_none s = sum_below_zero (suc s.max) _ (λ l hl. box_zero _ _ _ _ (λ x y z hx hy hz. refl))

  picked : (s : Shape) (bs : List BlockAt) → Sorted bs → ((b : BlockAt) → IsIn b bs → InDomain s b) → domain_sum s (pick bs f) ≡ sum_over f bs
  picked s [] d inside = domain_none s
  picked s (b ∷ bs) d inside =
      domain_same s (pick (b ∷ bs) f) (λ c. one b f c +ℤ pick bs f c) (λ c. pick_cons b c bs (λ i. let lt = d.0 b i in absurd (omega arith)))
      ∙ domain_add s (one b f) (pick bs f)
      ∙ ap₂ (λ m n. m +ℤ n) (one_sum s b (inside b (inl refl))) (picked s bs d.1 (λ c i. inside c (inr i)))

-- ---- leaf cells by leaves

cell_block : (n : ℕ) (b : BlockAt) (i j k : ℕ) → i < n → j < n → k < n → block_of n (record { level = b.level; x = n * b.x + i; y = n * b.y + j; z = n * b.z + k }) ≡ b
cell_block n b i j k hi hj hk =
    let at : (u v : ℕ) → v < n → (n * u + v) / n ≡ u = λ u v h. ap (λ m. (m + v) / n) (mul_comm n u) ∙ div-mul-add u n v h in
    λ t. record { level = b.level; x = at b.x i hi t; y = at b.y j hj t; z = at b.z k hk t }

module _ (g : Grid) (content : CellAt → ℤ) where
  by_block : (b : BlockAt) → block_sum g.shape.n (on_cells g content) b ≡ pick g.leaves (block_sum g.shape.n content) b
  unfolding pick is_same is_leaf_block
  by_block b = elim (cases_Bool (is_leaf_block g b)) [
    | inl t ↦
        box_same g.shape.n g.shape.n g.shape.n _ _ (λ i j k hi hj hk. on_leaf g content _ (ap (is_leaf_block g) (cell_block g.shape.n b i j k hi hj hk) ∙ t))
        ∙ sym (rw t refl)
    | inr f ↦
        box_zero g.shape.n g.shape.n g.shape.n _ (λ i j k hi hj hk. off_leaf g content _ (ap (is_leaf_block g) (cell_block g.shape.n b i j k hi hj hk) ∙ f))
        ∙ sym (rw f refl)
  ]

  -- the sum over the leaf cells by blocks, in the order of the leaves
  pub sum_by_leaves : Valid g → Sorted g.leaves → leaf_sum g content ≡ sum_over (block_sum g.shape.n content) g.leaves
  unfolding leaf_sum domain_sum
  sum_by_leaves valid sorted =
      sum_below_same (suc g.shape.max) _ _ (λ l hl. level_blocks g.shape l (on_cells g content))
      ∙ domain_same (block_sum g.shape.n content) g.shape (block_sum g.shape.n (on_cells g content)) (pick g.leaves (block_sum g.shape.n content)) by_block
      ∙ picked (block_sum g.shape.n content) g.shape g.leaves sorted valid.tiles.inside
