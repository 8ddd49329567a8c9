-- The cells beside a leaf: each is split at most once, and lies in a leaf that is at most one level coarser.
use Rattle.std.proofs.Common.{◌≡◌, ℕ, zero, suc, ◌+◌, ◌-◌, ◌*◌, ◌/◌, ◌%◌, ◌^◌, ◌<◌, ◌≤◌, ◌⊎◌, Bool, true, false, refl, sym, ap, subst, ◌∙◌, arith, inl, inr}
use Rattle.std.proofs.Math.Nat.{div-lt_iff_lt-mul, lt-div-mul-add, lt_of_mul-lt-mul_right}
use Rattle.std.proofs.lemmas.Bool.{cases_lt}
use Rattle.amr_num.specs.declared.Axis.{Axis}
use Rattle.amr_num.specs.declared.Axis.TheVariants.{X, Y, Z}
use Rattle.amr_num.specs.declared.BlockAt.{BlockAt}
use Rattle.amr_num.specs.declared.CellAt.{CellAt}
use Rattle.mesh_model.specs.declared.geometry.Shape.{Shape}
use Rattle.mesh_model.specs.Fields.ArrayPlaces.{IsSize}
use Rattle.mesh_model.specs.Geometry.Blocks.{InDomain, LiesIn}
use Rattle.mesh_model.specs.Geometry.Coordinates.{Inside, extent, is_periodic, on, parent_cell, roots, sub_cell}
use Rattle.mesh_model.specs.Geometry.Limits.{IsShape}
use Rattle.mesh_model.specs.Geometry.Outside.{brought_in, cell_in}
use Rattle.mesh_model.specs.Geometry.Places.{guard_index}
use Rattle.mesh_model.specs.Geometry.Touch.{block_on, high_end, low_end}
use Rattle.mesh_model.specs.Tree.Kinds.{Grid, block_of, is_leaf, is_split}
use Rattle.mesh_model.specs.Tree.Order.{IsIn}
use Rattle.mesh_model.specs.Tree.ValidGrid.{Valid}
use Rattle.mesh_model.proofs.FieldLemmas.Beside.{block_in_domain, three}
use Rattle.mesh_model.proofs.FieldLemmas.CellSums.{parent_of_sub}
use Rattle.mesh_model.proofs.FieldLemmas.Round.{parent_block_of}
use Rattle.mesh_model.proofs.GeometryLemmas.ShapeLimits.{cells_some, cells_least as shape_cells_least}
use Rattle.mesh_model.proofs.TreeLemmas.Levels.{home, split_level, touching_leaf}
use Rattle.mesh_model.proofs.TreeLemmas.Tests.{refuted}
use Rattle.mesh_model.proofs.TreeLemmas.Tiling.{IsChild, child_in, domain_child, leaf_shows, nested, same_level}
use Rattle.mesh_model.proofs.TreeLemmas.Touching.{Meet, Touch, high_second, low_first, meet_times, touch_shows, touch_swap, touch_up}
use Rattle.guard_fill.proofs.AxisStrips.{along_same, cells_least, guards_least, high_clamped, high_own, high_turned, inside_block, last_row, low_clamped, low_own, low_turned, next_row}
use Rattle.guard_fill.specs.Near.{IsNear}
use Rattle.guard_fill.proofs.Neighbours.{whole_turn}
use Rattle.guard_fill.proofs.Patches.{turn_over}

-- ---- cells beside a block

-- on an axis of so many blocks of n places, x is one of the block b or at most so far away from it, also one turn further on a periodic axis
abbrev pub IsAround : ℕ → Bool → ℕ → ℕ → ℕ → ℕ → Type 0
IsAround far periodic blocks n b x =
    ((n * b ≤ x + far) × (x < n * b + n + far)) ⊎ ((periodic ≡ true) × (((b ≡ 0) × (blocks * n ≤ x + far)) ⊎ ((suc b ≡ blocks) × (x < far))))

-- a cell of the axis is at most two cells away
pub record IsNext (periodic : Bool) (blocks n b x : ℕ) : Type 0 where
  pub inside : x < blocks * n
  pub which : IsAround 2 periodic blocks n b x

-- so is a cell of the block's level on each axis
pub record NextTo (g : Grid) (b : BlockAt) (c : CellAt) : Type 0 where
  pub level : c.level ≡ b.level
  pub axes : (a : Axis) → IsNext (is_periodic g.shape a) (roots g.shape a * 2 ^ b.level) g.shape.n (block_on a b) (on a c)

module _ (n g blocks : ℕ) (size : IsSize n g) where
  low_next : (periodic : Bool) (b : ℕ) → b < blocks → IsNext periodic blocks n b (brought_in periodic (blocks * n) (blocks * n - 1) (guard_index n g b (0 + (g - 1))))
  low_next periodic (suc b) h =
      let few = guards_least size in
      let least = cells_least size in
      let row = next_row n b in
      let is = low_own n g blocks size (g - 1) (omega arith) periodic b h in
      let inside = inside_block blocks n (suc b) h b (n - g + 1 * (g - 1)) (omega arith) (omega arith) in
      subst (IsNext periodic blocks n (suc b)) (sym is) (record { inside = inside; which = inl (omega arith, omega arith) })
  low_next true zero h =
      let few = guards_least size in
      let least = cells_least size in
      let last = last_row n blocks h in
      let is = low_turned n g blocks size (g - 1) (omega arith) h in
      subst (IsNext true blocks n 0) (sym is) (record { inside = omega arith; which = inr (refl, inl (refl, omega arith)) })
  low_next false zero h =
      let few = guards_least size in
      let least = cells_least size in
      let last = last_row n blocks h in
      let is = low_clamped n g blocks size (g - 1) (omega arith) in
      let none : n * 0 ≡ 0 = omega arith in
      subst (IsNext false blocks n 0) (sym is) (record { inside = omega arith; which = inl (omega arith, omega arith) })

  high_next : (periodic : Bool) (b : ℕ) → b < blocks → IsNext periodic blocks n b (brought_in periodic (blocks * n) (blocks * n - 1) (guard_index n g b (g + n + 0)))
  high_next periodic b h =
      let few = guards_least size in
      let least = cells_least size in
      elim (cases_lt (suc b) blocks) [
        | inl more ↦
            let row = next_row n b in
            let is = high_own n g blocks b size h 0 (omega arith) periodic more in
            let inside = inside_block blocks n b h (suc b) (0 + 1 * 0) more (omega arith) in
            subst (IsNext periodic blocks n b) (sym is) (record { inside = inside; which = inl (omega arith, omega arith) })
        | inr past ↦ high_last periodic b h (omega arith)
      ]
    where
      high_last : (periodic : Bool) (b : ℕ) → b < blocks → suc b ≡ blocks → IsNext periodic blocks n b (brought_in periodic (blocks * n) (blocks * n - 1) (guard_index n g b (g + n + 0)))
      high_last true b h last =
          let few = guards_least size in
          let least = cells_least size in
          let row = last_row n blocks (omega arith) in
          let is = high_turned n g blocks b size h 0 (omega arith) last in
          let none : n * 0 ≡ 0 = omega arith in
          subst (IsNext true blocks n b) (sym is) (record { inside = omega arith; which = inr (refl, inr (last, omega arith)) })
      high_last false b h last =
          let few = guards_least size in
          let least = cells_least size in
          let is = high_clamped n g blocks b size h 0 (omega arith) last in
          let inside = inside_block blocks n b h b (n - 1 + 0 * 0) h (omega arith) in
          subst (IsNext false blocks n b) (sym is) (record { inside = inside; which = inl (omega arith, omega arith) })

  own_next : (periodic : Bool) (b t : ℕ) → b < blocks → t < n → IsNext periodic blocks n b (brought_in periodic (blocks * n) (blocks * n - 1) (guard_index n g b (g + t)))
  own_next periodic b t h l =
      let is = (along_same n g periodic blocks b h).stand t l in
      let inside = inside_block blocks n b h b (0 + 1 * t) h (omega arith) in
      subst (IsNext periodic blocks n b) (sym is) (record { inside = inside; which = inl (omega arith, omega arith) })

  -- the cell that stands for a place of the block, or of the nearest guard cells
  next_there : (periodic : Bool) (b i : ℕ) → b < blocks → g ≤ i + 1 → i ≤ g + n → IsNext periodic blocks n b (brought_in periodic (blocks * n) (blocks * n - 1) (guard_index n g b i))
  next_there periodic b i h low high =
      let few = guards_least size in
      let at : ℕ → Type 0 = λ k. IsNext periodic blocks n b (brought_in periodic (blocks * n) (blocks * n - 1) (guard_index n g b k)) in
      elim (cases_lt i g) [
        | inl before ↦ (let is : 0 + (g - 1) ≡ i = omega arith in subst at is (low_next periodic b h))
        | inr some ↦ elim (cases_lt i (g + n)) [
          | inl within ↦ (let is : g + (i - g) ≡ i = omega arith in subst at is (own_next periodic b (i - g) h (omega arith)))
          | inr past ↦ (let is : g + n + 0 ≡ i = omega arith in subst at is (high_next periodic b h))
        ]
      ]

-- the cell that stands for a place, on an axis of the domain
pub next_cell : (s : Shape) (a : Axis) (l b i : ℕ) → IsShape s → b < roots s a * 2 ^ l → IsNear s i → IsNext (is_periodic s a) (roots s a * 2 ^ l) s.n b (cell_in s a l (guard_index s.n s.g b i))
next_cell s a l b i shape h near =
    let all : extent s a l ≡ roots s a * 2 ^ l * s.n = sym (turn_over (roots s a) s.n l) in
    subst (λ m. IsNext (is_periodic s a) (roots s a * 2 ^ l) s.n b (brought_in (is_periodic s a) m (m - 1) (guard_index s.n s.g b i))) (sym all)
    (next_there s.n s.g (roots s a * 2 ^ l) (record { cells = shape.cells; guards = shape.guards }) (is_periodic s a) b i h near.low near.high)

-- ---- the blocks of such a cell and of its sub-cells touch the block

-- in blocks, of a cell y that is less than a block away from those from b to e
stretch_meets : (periodic : Bool) (blocks n b e y : ℕ) → 0 < n →
    ((n * b ≤ y + n) × (y < n * e + n)) ⊎ ((periodic ≡ true) × (((b ≡ 0) × (n * blocks ≤ y + n)) ⊎ ((e ≡ blocks) × (y < n)))) → Meet periodic blocks b e (y / n) (suc (y / n))
stretch_meets periodic blocks n b e y some near = elim near [
  | inl (low, high) ↦ inl (begins b low, (let less : y / n < suc e = (div-lt_iff_lt-mul {k = n} {x = y} {y = suc e} some).1 (let row : suc e * n ≡ n * e + n = grind arith in omega arith) in omega arith))
  | inr (turn, inl (first, end)) ↦ (let past = begins blocks end in inr (turn, inl (omega arith)))
  | inr (turn, inr (last, start)) ↦ (let none : y / n < 1 = (div-lt_iff_lt-mul {k = n} {x = y} {y = 1} some).1 (omega arith) in inr (turn, inr (omega arith)))
]
  where
    begins : (m : ℕ) → n * m ≤ y + n → m ≤ suc (y / n)
    begins m h =
        let near : y < y / n * n + n = lt-div-mul-add {a = y} some in
        let row : (y / n + 2) * n ≡ y / n * n + n + n = grind arith in
        let turned : m * n ≡ n * m = grind arith in
        let less : m < y / n + 2 = lt_of_mul-lt-mul_right n (let here : m * n < (y / n + 2) * n = omega arith in here) in
        omega arith

cell_meets : (periodic : Bool) (blocks n b x : ℕ) → 4 ≤ n → IsNext periodic blocks n b x → Meet periodic blocks b (suc b) (x / n) (suc (x / n))
cell_meets periodic blocks n b x least next =
    let turned : n * blocks ≡ blocks * n = grind arith in
    let row : n * suc b ≡ n * b + n = grind arith in
    stretch_meets periodic blocks n b (suc b) x (omega arith) (elim next.which [
      | inl near ↦ inl (omega arith, omega arith)
      | inr (turn, inl first) ↦ inr (turn, inl (first.0, omega arith))
      | inr (turn, inr last) ↦ inr (turn, inr (last.0, omega arith))
    ])

-- in halves of blocks
halves_meet : (periodic : Bool) (blocks n b x r : ℕ) → 4 ≤ n → r < 2 → IsNext periodic blocks n b x → Meet periodic (2 * blocks) (2 * b + 0) (suc (2 * b + 1)) ((2 * x + r) / n) (suc ((2 * x + r) / n))
halves_meet periodic blocks n b x r least half next =
    let turned : n * (2 * blocks) ≡ 2 * (blocks * n) = grind arith in
    let first_row : n * (2 * b + 0) ≡ 2 * (n * b) = grind arith in
    let last_row : n * suc (2 * b + 1) ≡ 2 * (n * b) + n + n = grind arith in
    stretch_meets periodic (2 * blocks) n (2 * b + 0) (suc (2 * b + 1)) (2 * x + r) (omega arith) (elim next.which [
      | inl near ↦ inl (omega arith, omega arith)
      | inr (turn, inl first) ↦ inr (turn, inl (omega arith, omega arith))
      | inr (turn, inr last) ↦ inr (turn, inr (omega arith, omega arith))
    ])

-- in blocks of the finest level
scaled : (periodic : Bool) (k l a a2 c c2 : ℕ) → l ≤ 10 → Meet periodic (k * 2 ^ l) a (suc a2) c (suc c2) →
    Meet periodic (k * 2 ^ 10) (low_end l a) (high_end l a2) (low_end l c) (high_end l c2)
unfolding low_end high_end
scaled periodic k l a a2 c c2 deep meet =
    subst (λ e. Meet periodic e (a * 2 ^ (10 - l)) (suc a2 * 2 ^ (10 - l)) (c * 2 ^ (10 - l)) (suc c2 * 2 ^ (10 - l))) (whole_turn k l deep)
    (meet_times periodic (k * 2 ^ l) a (suc a2) c (suc c2) (2 ^ (10 - l)) meet)

meets_sub : (periodic : Bool) (k l n b x r : ℕ) → l < 10 → 4 ≤ n → r < 2 → IsNext periodic (k * 2 ^ l) n b x →
    Meet periodic (k * 2 ^ 10) (low_end l b) (high_end l b) (low_end (suc l) ((2 * x + r) / n)) (high_end (suc l) ((2 * x + r) / n))
meets_sub periodic k l n b x r deep least half next =
    let c = (2 * x + r) / n in
    let twice : 2 * (k * 2 ^ l) ≡ k * 2 ^ suc l = grind arith in
    let blocks = subst (λ e. Meet periodic e (2 * b + 0) (suc (2 * b + 1)) c (suc c)) twice (halves_meet periodic (k * 2 ^ l) n b x r least half next) in
    let finest = scaled periodic k (suc l) (2 * b + 0) (2 * b + 1) c c (omega arith) blocks in
    subst (λ e. Meet periodic (k * 2 ^ 10) e (high_end l b) (low_end (suc l) c) (high_end (suc l) c)) (low_first l b deep)
    (subst (λ e. Meet periodic (k * 2 ^ 10) (low_end (suc l) (2 * b + 0)) e (low_end (suc l) c) (high_end (suc l) c)) (high_second l b deep) finest)

-- ---- so the cell is split at most once, and lies in a leaf that is at most one level coarser

module _ (g : Grid) (valid : Valid g) (b : BlockAt) (leaf : IsIn b g.leaves) (c : CellAt) (next : NextTo g b c) where
  pub next_inside : Inside g.shape c
  next_inside a =
      let here = (next.axes a).inside in
      let all : roots g.shape a * 2 ^ b.level * g.shape.n ≡ extent g.shape a c.level = turn_over (roots g.shape a) g.shape.n b.level ∙ ap (λ l. extent g.shape a l) (sym next.level) in
      subst (λ m. on a c < m) all here

  next_in_domain : InDomain g.shape (block_of g.shape.n c)
  next_in_domain =
      let level = next.level in
      let domain = (valid.tiles.inside b leaf).level in
      block_in_domain g.shape c (cells_some valid.shape) (omega arith) next_inside

  pub sub_calm : (q : ℕ) → is_split g c ≡ true → is_split g (sub_cell c q) ≡ false
  sub_calm q split =
      let s = g.shape in
      let n = s.n in
      let level = next.level in
      let d = sub_cell c q in
      let block = block_of n d in
      let finer = split_level g valid.tiles valid.shape.max (block_of n c) split in
      let top = valid.shape.max in
      let deep : b.level < 10 = omega arith in
      let child : IsChild block (block_of n c) = subst (λ u. IsChild block (block_of n u)) (parent_of_sub c q) (parent_block_of n c.level d refl) in
      let in_d : InDomain s block = domain_child s block (block_of n c) child next_in_domain (omega arith) in
      let touch : Touch s b block = record { on = three _ (on_sub X (q % 2) deep (omega arith)) (on_sub Y (q / 2 % 2) deep (omega arith)) (on_sub Z (q / 4 % 2) deep (omega arith)) } in
      refuted _ (λ again.
      let under = touching_leaf g valid.tiles valid.shape.max b block in_d touch in
      let lower : suc c.level < under.0.level = under.3 again in
      let near : under.0.level ≤ suc b.level = valid.rule.near under.0 b under.1 leaf (touch_shows s under.0 b (touch_swap s b under.0 under.2)) in
      omega arith)
    where
      on_sub : (a : Axis) (r : ℕ) → b.level < 10 → r < 2 →
          Meet (is_periodic g.shape a) (roots g.shape a * 2 ^ 10) (low_end b.level (block_on a b)) (high_end b.level (block_on a b)) (low_end (suc c.level) ((2 * on a c + r) / g.shape.n)) (high_end (suc c.level) ((2 * on a c + r) / g.shape.n))
      on_sub a r deep half =
          let k = (2 * on a c + r) / g.shape.n in
          subst (λ l. Meet (is_periodic g.shape a) (roots g.shape a * 2 ^ 10) (low_end b.level (block_on a b)) (high_end b.level (block_on a b)) (low_end (suc l) k) (high_end (suc l) k)) (sym next.level)
          (meets_sub (is_periodic g.shape a) (roots g.shape a) b.level g.shape.n (block_on a b) (on a c) r deep (shape_cells_least valid.shape) half (next.axes a))

  next_touches : Touch g.shape b (block_of g.shape.n c)
  next_touches = record { on = three _ (on_each X) (on_each Y) (on_each Z) }
    where
      on_each : (a : Axis) → Meet (is_periodic g.shape a) (roots g.shape a * 2 ^ 10) (low_end b.level (block_on a b)) (high_end b.level (block_on a b)) (low_end c.level (on a c / g.shape.n)) (high_end c.level (on a c / g.shape.n))
      on_each a =
          let n = g.shape.n in
          let k = on a c / n in
          let domain = (valid.tiles.inside b leaf).level in
          let top = valid.shape.max in
          subst (λ l. Meet (is_periodic g.shape a) (roots g.shape a * 2 ^ 10) (low_end b.level (block_on a b)) (high_end b.level (block_on a b)) (low_end l k) (high_end l k)) (sym next.level)
          (scaled (is_periodic g.shape a) (roots g.shape a) b.level (block_on a b) (block_on a b) k k (omega arith)
          (cell_meets (is_periodic g.shape a) (roots g.shape a * 2 ^ b.level) n (block_on a b) (on a c) (shape_cells_least valid.shape) (next.axes a)))

  pub coarse_leaf : is_split g c ≡ false → is_leaf g c ≡ false → is_leaf g (parent_cell c) ≡ true
  coarse_leaf whole none =
      let s = g.shape in
      let block = block_of s.n c in
      let round = home g valid.tiles valid.shape.max block next_in_domain whole in
      let lies = round.2.level in
      let domain = next_in_domain.level in
      let top = valid.shape.max in
      let level = next.level in
      let touch : Touch s b round.0 = touch_up s b block round.0 next_touches round.2 (omega arith) in
      let near : b.level ≤ suc round.0.level = valid.rule.near b round.0 leaf round.1 (touch_shows s b round.0 touch) in
      elim (cases_lt round.0.level c.level) [
        | inl coarser ↦
            let one : c.level ≡ suc round.0.level = omega arith in
            let child : IsChild block (block_of s.n (parent_cell c)) = parent_block_of s.n round.0.level c one in
            let inner : LiesIn (block_of s.n (parent_cell c)) round.0 = nested block (block_of s.n (parent_cell c)) round.0 (child_in block (block_of s.n (parent_cell c)) child) round.2 (omega arith) in
            leaf_shows g (block_of s.n (parent_cell c)) (subst (λ k. IsIn k g.leaves) (sym (same_level (block_of s.n (parent_cell c)) round.0 inner (omega arith))) round.1)
        | inr same ↦
            let is : is_leaf g c ≡ true = leaf_shows g block (subst (λ k. IsIn k g.leaves) (sym (same_level block round.0 round.2 (omega arith))) round.1) in
            cc
      ]
