-- The strips of an axis.
use Rattle.std.proofs.Common.{◌≡◌, ℕ, zero, suc, ◌+◌, ◌-◌, ◌*◌, ◌/◌, ◌%◌, ◌<◌, ◌≤◌, Bool, true, false, min, Option, Some, None, pos, negsuc, nat_lt, refl, sym, ap, ◌∙◌, arith, inl, inr, mod-eq_of_lt, eq-eqb, ne_eqb, subst, ℤ, pow_mono, ◌^◌, if◌then◌else◌}
use Rattle.std.proofs.Math.Nat.{add-mul-mod_self_left, div-add-mod, mod_self, mul-le-mul_left}
use Rattle.std.proofs.lemmas.Nat.{mul-le}
use Rattle.std.proofs.lemmas.Int.{ints}
use Rattle.std.proofs.lemmas.Bool.{cases_lt, lt-ltb, le-ltb}
use Rattle.amr_num.specs.Numbers.{floor_mod}
use Rattle.mesh_model.specs.declared.fields.values.Var.{Var}
use Rattle.mesh_model.specs.declared.fields.values.Var.TheVariants.{Cell, CellWork, Edge, EdgeWork, Face, FaceWork}
use Rattle.mesh_model.specs.Fields.FinePlaces.{half_extents}
use Rattle.mesh_model.specs.Fields.ArrayPlaces.{IsSize, extents_of}
use Rattle.amr_num.specs.declared.Axis.TheVariants.{X, Y, Z}
use Rattle.amr_num.specs.declared.BlockAt.{BlockAt}
use Rattle.mesh_model.specs.declared.geometry.Shape.{Shape}
use Rattle.mesh_model.specs.Geometry.Coordinates.{above, below, is_periodic, roots, wrapped}
use Rattle.mesh_model.specs.Geometry.Outside.{brought_in}
use Rattle.mesh_model.specs.Geometry.Places.{guard_index}
use Rattle.guard_fill.specs.declared.strips.Patch.{Patch}
use Rattle.guard_fill.specs.declared.strips.Strip.{Strip}
use Rattle.guard_fill.specs.Guarding.{AreReaches, at_positions}
use Rattle.guard_fill.specs.Strips.{AllReach, AreWithin, IsPatch, IsReach, IsStrip, IsWithin, Reaches, begin_of, cell_at, many_of, one_more}

pub guards_least : {n g : ℕ} → IsSize n g → (0 < g) × (g ≤ 4)
guards_least size = elim size.guards [ inl e ↦ (omega arith, omega arith) | inr (inl e) ↦ (omega arith, omega arith) | inr (inr e) ↦ (omega arith, omega arith) ]

pub cells_least : {n g : ℕ} → IsSize n g → (4 ≤ n) × (n ≤ 8)
cells_least size = elim size.cells [ inl e ↦ (omega arith, omega arith) | inr e ↦ (omega arith, omega arith) ]

-- ---- coordinates, as they are brought in

module _ (blocks n b : ℕ) (inside : b < blocks) where
  pub row : n * b + n ≤ n * blocks
  row = let next : n * suc b ≤ n * blocks = mul-le-mul_left n inside in let sum : n * suc b ≡ n * b + n = grind arith in omega arith

  -- of a cell of the axis
  pub own : (periodic : Bool) (q : ℕ) → q < blocks * n → brought_in periodic (blocks * n) (blocks * n - 1) (pos q) ≡ q
  own true q h = mod-eq_of_lt h
  own false q h = omega arith

  -- of one before the first
  pub low_wrapped : (k : ℕ) → k < blocks * n → floor_mod (negsuc k) (blocks * n) ≡ blocks * n - 1 - k
  low_wrapped k h = let small : k % (blocks * n) ≡ k = mod-eq_of_lt h in omega (arith, ints, small)

  -- and of one behind the last
  high_wrapped : (m : ℕ) → m < blocks * n → floor_mod (pos (blocks * n + m)) (blocks * n) ≡ m
  high_wrapped m h =
      let turned : blocks * n + m ≡ m + blocks * n * 1 = omega arith in
      ap (λ p. p % (blocks * n)) turned ∙ add-mul-mod_self_left m (blocks * n) 1 ∙ mod-eq_of_lt h

  -- the cells of another block of the axis
  pub inside_block : (c u : ℕ) → c < blocks → u < n → n * c + u < blocks * n
  inside_block c u hc hu =
      let next : n * suc c ≤ n * blocks = mul-le-mul_left n hc in
      let sum : n * suc c ≡ n * c + n = grind arith in
      let turned : n * blocks ≡ blocks * n = grind arith in
      omega arith

pub next_row : (n b : ℕ) → n * suc b ≡ n * b + n
next_row n b = grind arith

pub last_row : (n blocks : ℕ) → 0 < blocks → blocks * n ≡ n * (blocks - 1) + n
last_row n (suc b) h = let one : suc b - 1 ≡ b = omega arith in rw one (turned n b)
  where
    turned : (n b : ℕ) → suc b * n ≡ n * b + n
    turned n b = grind arith
last_row n zero h = absurd (omega arith)

-- ---- before a block

module _ (n g blocks : ℕ) (size : IsSize n g) (t : ℕ) (within : t < g) where
  pub low_own : (periodic : Bool) (b : ℕ) → suc b < blocks → brought_in periodic (blocks * n) (blocks * n - 1) (guard_index n g (suc b) (0 + t)) ≡ n * b + (n - g + 1 * t)
  low_own periodic b h =
      let few = guards_least size in
      let least = cells_least size in
      let next = next_row n b in
      let is : guard_index n g (suc b) (0 + t) ≡ pos (n * b + (n - g + 1 * t)) = omega (arith, ints) in
      ap (brought_in periodic (blocks * n) (blocks * n - 1)) is ∙ own blocks n (suc b) h periodic (n * b + (n - g + 1 * t)) (inside_block blocks n (suc b) h b (n - g + 1 * t) (omega arith) (omega arith))

  first_index : guard_index n g 0 (0 + t) ≡ negsuc (g - 1 - t)
  first_index = let none : n * 0 ≡ 0 = omega arith in omega (arith, ints)

  pub low_turned : 0 < blocks → brought_in true (blocks * n) (blocks * n - 1) (guard_index n g 0 (0 + t)) ≡ n * (blocks - 1) + (n - g + 1 * t)
  low_turned some =
      let few = guards_least size in
      let least = cells_least size in
      let last = last_row n blocks some in
      ap (brought_in true (blocks * n) (blocks * n - 1)) first_index ∙ low_wrapped blocks n 0 some (g - 1 - t) (omega arith) ∙ omega arith

  pub low_clamped : brought_in false (blocks * n) (blocks * n - 1) (guard_index n g 0 (0 + t)) ≡ n * 0 + (0 + 0 * t)
  low_clamped = ap (brought_in false (blocks * n) (blocks * n - 1)) first_index ∙ (let none : n * 0 ≡ 0 = omega arith in omega arith)

-- ---- behind a block

module _ (n g blocks b : ℕ) (size : IsSize n g) (inside : b < blocks) (t : ℕ) (within : t < g) where
  high_index : guard_index n g b (g + n + t) ≡ pos (n * suc b + t)
  high_index = let next = next_row n b in omega (arith, ints)

  pub high_own : (periodic : Bool) → suc b < blocks → brought_in periodic (blocks * n) (blocks * n - 1) (guard_index n g b (g + n + t)) ≡ n * suc b + (0 + 1 * t)
  high_own periodic h =
      let few = guards_least size in
      let least = cells_least size in
      ap (brought_in periodic (blocks * n) (blocks * n - 1)) high_index ∙ own blocks n b inside periodic (n * suc b + t) (inside_block blocks n b inside (suc b) t h (omega arith)) ∙ omega arith

  all_cells : suc b ≡ blocks → n * suc b ≡ blocks * n
  all_cells last = ap (λ m. n * m) last ∙ turned n blocks
    where
      turned : (x y : ℕ) → x * y ≡ y * x
      turned x y = grind arith

  pub high_turned : suc b ≡ blocks → brought_in true (blocks * n) (blocks * n - 1) (guard_index n g b (g + n + t)) ≡ n * 0 + (0 + 1 * t)
  high_turned last =
      let few = guards_least size in
      let least = cells_least size in
      let all = all_cells last in
      let row = last_row n blocks (omega arith) in
      let is : n * suc b + t ≡ blocks * n + t = omega arith in
      ap (brought_in true (blocks * n) (blocks * n - 1)) (high_index ∙ ap pos is) ∙ high_wrapped blocks n b inside t (omega arith) ∙ (let none : n * 0 ≡ 0 = omega arith in omega arith)

  pub high_clamped : suc b ≡ blocks → brought_in false (blocks * n) (blocks * n - 1) (guard_index n g b (g + n + t)) ≡ n * b + (n - 1 + 0 * t)
  high_clamped last =
      let few = guards_least size in
      let least = cells_least size in
      let all = all_cells last in
      let next = next_row n b in
      ap (brought_in false (blocks * n) (blocks * n - 1)) high_index ∙ clamp (n * suc b) t (blocks * n) all ∙ omega arith
    where
      clamp : (q t e : ℕ) → q ≡ e → min (q + t) (e - 1) ≡ e - 1
      clamp q t e same = omega arith

-- ---- strips

pub before_other : (n g : ℕ) (periodic : Bool) (blocks b other : ℕ) → IsSize n g → b < blocks → below periodic blocks b ≡ Some other →
    IsStrip n g periodic blocks b 0 (record { to = 0; many = g; block = other; first = n - g; step = 1 })
before_other n g true blocks zero other size h is =
    let few = guards_least size in
    let least = cells_least size in
    let last : blocks - 1 ≡ other = cc in
    record {
      to = refl;
      many = refl;
      beside = record { there = omega arith; which = inr (refl, inl (refl, omega arith)) };
      cells = λ t l. omega arith;
      stand = λ t l. low_turned n g blocks size t l h ∙ ap (λ m. n * m + (n - g + 1 * t)) last;
    }
before_other n g false blocks zero other size h is = cc
before_other n g periodic blocks (suc b) other size h is =
    let few = guards_least size in
    let least = cells_least size in
    let same : b ≡ other = cc in
    record {
      to = refl;
      many = refl;
      beside = record { there = omega arith; which = inl (omega arith, omega arith) };
      cells = λ t l. omega arith;
      stand = λ t l. low_own n g blocks size t l periodic b h ∙ ap (λ m. n * m + (n - g + 1 * t)) same;
    }

pub before_same : (n g : ℕ) (periodic : Bool) (blocks b : ℕ) → IsSize n g → b < blocks → below periodic blocks b ≡ None →
    IsStrip n g periodic blocks b 0 (record { to = 0; many = g; block = b; first = 0; step = 0 })
before_same n g true blocks zero size h is = cc
before_same n g false blocks zero size h is =
    let least = cells_least size in
    record {
      to = refl;
      many = refl;
      beside = record { there = h; which = inl (omega arith, omega arith) };
      cells = λ t l. omega arith;
      stand = λ t l. low_clamped n g blocks size t l;
    }
before_same n g periodic blocks (suc b) size h is = cc

pub along_same : (n g : ℕ) (periodic : Bool) (blocks b : ℕ) → b < blocks → IsStrip n g periodic blocks b 1 (record { to = g; many = n; block = b; first = 0; step = 1 })
along_same n g periodic blocks b h = record {
  to = refl;
  many = refl;
  beside = record { there = h; which = inl (omega arith, omega arith) };
  cells = λ t l. omega arith;
  stand = λ t l.
      let is : guard_index n g b (g + t) ≡ pos (n * b + (0 + 1 * t)) = omega (arith, ints) in
      ap (brought_in periodic (blocks * n) (blocks * n - 1)) is ∙ own blocks n b h periodic (n * b + (0 + 1 * t)) (inside_block blocks n b h b (0 + 1 * t) h (omega arith));
}

pub behind_other : (n g : ℕ) (periodic : Bool) (blocks b other : ℕ) → IsSize n g → b < blocks → above periodic blocks (b + 1) ≡ Some other →
    IsStrip n g periodic blocks b 2 (record { to = g + n; many = g; block = other; first = 0; step = 1 })
behind_other n g periodic blocks b other size h is = elim (cases_lt (b + 1) blocks) [
  | inl inside ↦
      let test : nat_lt (b + 1) blocks ≡ true = lt-ltb (b + 1) blocks inside in
      let found : above periodic blocks (b + 1) ≡ Some (b + 1) = rw test refl in
      let same : suc b ≡ other = (let here : b + 1 ≡ other = cc in omega arith) in
      beside_strip n g periodic blocks b other size h (omega arith) same
  | inr past ↦
      let test : nat_lt (b + 1) blocks ≡ false = le-ltb (b + 1) blocks past in
      let last : suc b ≡ blocks = omega arith in
      first_strip n g periodic blocks b other size h last (sym (rw test refl) ∙ is)
]
  where
    beside_strip : (n g : ℕ) (periodic : Bool) (blocks b other : ℕ) → IsSize n g → b < blocks → suc b < blocks → suc b ≡ other →
        IsStrip n g periodic blocks b 2 (record { to = g + n; many = g; block = other; first = 0; step = 1 })
    beside_strip n g periodic blocks b other size h inside same =
        let few = guards_least size in
        let least = cells_least size in
        record {
          to = refl;
          many = refl;
          beside = record { there = omega arith; which = inl (omega arith, omega arith) };
          cells = λ t l. omega arith;
          stand = λ t l. high_own n g blocks b size h t l periodic inside ∙ ap (λ m. n * m + (0 + 1 * t)) same;
        }

    first_strip : (n g : ℕ) (periodic : Bool) (blocks b other : ℕ) → IsSize n g → b < blocks → suc b ≡ blocks → (if◌then◌else◌ {A = Option ℕ} periodic (Some 0) None) ≡ Some other →
        IsStrip n g periodic blocks b 2 (record { to = g + n; many = g; block = other; first = 0; step = 1 })
    first_strip n g true blocks b other size h last is =
        let few = guards_least size in
        let least = cells_least size in
        let same : 0 ≡ other = cc in
        record {
          to = refl;
          many = refl;
          beside = record { there = omega arith; which = inr (refl, inr (omega arith, last)) };
          cells = λ t l. omega arith;
          stand = λ t l. high_turned n g blocks b size h t l last ∙ ap (λ m. n * m + (0 + 1 * t)) same;
        }
    first_strip n g false blocks b other size h last is = cc

pub behind_same : (n g : ℕ) (periodic : Bool) (blocks b : ℕ) → IsSize n g → b < blocks → above periodic blocks (b + 1) ≡ None →
    IsStrip n g periodic blocks b 2 (record { to = g + n; many = g; block = b; first = n - 1; step = 0 })
behind_same n g periodic blocks b size h is = elim (cases_lt (b + 1) blocks) [
  | inl inside ↦
      let test : nat_lt (b + 1) blocks ≡ true = lt-ltb (b + 1) blocks inside in
      let found : above periodic blocks (b + 1) ≡ Some (b + 1) = rw test refl in
      cc
  | inr past ↦
      let test : nat_lt (b + 1) blocks ≡ false = le-ltb (b + 1) blocks past in
      clamped_strip n g periodic blocks b size h (omega arith) (sym (rw test refl) ∙ is)
]
  where
    clamped_strip : (n g : ℕ) (periodic : Bool) (blocks b : ℕ) → IsSize n g → b < blocks → suc b ≡ blocks → (if◌then◌else◌ {A = Option ℕ} periodic (Some 0) None) ≡ None →
        IsStrip n g periodic blocks b 2 (record { to = g + n; many = g; block = b; first = n - 1; step = 0 })
    clamped_strip n g true blocks b size h last is = cc
    clamped_strip n g false blocks b size h last is =
        let least = cells_least size in
        record {
          to = refl;
          many = refl;
          beside = record { there = h; which = inl (omega arith, omega arith) };
          cells = λ t l. omega arith;
          stand = λ t l. high_clamped n g blocks b size h t l last;
        }

-- the blocks of an axis are few enough for the machine
pub few_blocks : (r l : ℕ) → r ≤ 8 → l ≤ 10 → r * 2 ^ l % 4294967296 ≡ r * 2 ^ l
few_blocks r l few deep = let most = mul-le r (2 ^ l) 8 1024 few (pow_mono {j = 10} deep) in mod-eq_of_lt (omega arith)

-- the places of a direction lie within an array
strip_within : (n g : ℕ) (periodic : Bool) (blocks b d : ℕ) (s : Strip) → IsSize n g → d < 3 → IsStrip n g periodic blocks b d s → IsWithin n g s
strip_within n g periodic blocks b zero s size h is = let few = guards_least size in let to = is.to in let many = is.many in record { some = omega arith; places = omega arith; cells = is.cells }
strip_within n g periodic blocks b (suc zero) s size h is = let least = cells_least size in let to = is.to in let many = is.many in record { some = omega arith; places = omega arith; cells = is.cells }
strip_within n g periodic blocks b (suc (suc d)) s size h is = let few = guards_least size in let to = is.to in let many = is.many in record { some = omega arith; places = omega arith; cells = is.cells }

pub patch_within : (n g : ℕ) (s : Shape) (b : BlockAt) (d : ℕ) (p : Patch) → IsSize n g → d < 27 → IsPatch n g s b d p → AreWithin n g p
patch_within n g s b d p size h is = record {
  x = strip_within n g (is_periodic s X) (roots s X * 2 ^ b.level) b.x (d % 3) p.x size (omega arith) is.x;
  y = strip_within n g (is_periodic s Y) (roots s Y * 2 ^ b.level) b.y (d / 3 % 3) p.y size (omega arith) is.y;
  z = strip_within n g (is_periodic s Z) (roots s Z * 2 ^ b.level) b.z (d / 9) p.z size (omega arith) is.z;
}

-- ---- positions

-- a block's cells lie on its axis
in_axis : (blocks n c u : ℕ) → c < blocks → u < n → n * c + u < blocks * n
in_axis blocks n c u hc hu = inside_block blocks n c hc c u hc hu

-- a position of the axis
pub own_position : (periodic : Bool) (e q : ℕ) → q ≤ e → brought_in periodic e e (pos q) ≡ wrapped periodic e q
unfolding wrapped
own_position false e q h = omega arith
own_position true e q h = elim (cases_lt q e) [
  | inl less ↦ mod-eq_of_lt less ∙ (let test = ne_eqb q e (λ is. absurd (omega arith)) in rw test refl)
  | inr end ↦ (let is : q ≡ e = omega arith in let test = eq-eqb q e is in ap (λ m. m % e) is ∙ mod_self e ∙ (rw test refl))
]

-- a position below the last is where a cell is
same_place : (periodic : Bool) (e : ℕ) (i : ℤ) (m : ℕ) → 0 < e → m < e → ((q : ℕ) → i ≡ pos q → q < e) → brought_in periodic e (e - 1) i ≡ m → brought_in periodic e e i ≡ wrapped periodic e m
unfolding wrapped
same_place true e i m some less below is = is ∙ (let test = ne_eqb m e (λ is. absurd (omega arith)) in rw test refl)
same_place false e (pos q) m some less below is = (let low = below q refl in omega arith)
same_place false e (negsuc q) m some less below is = is

-- one position further than a cell
next_place : (periodic : Bool) (e q m : ℕ) → 0 < e → m < e → brought_in periodic e (e - 1) (pos q) ≡ m → brought_in periodic e e (pos (q + 1)) ≡ wrapped periodic e (m + 1)
unfolding wrapped
next_place false e q m some less is = omega arith
next_place true e q m some less is =
    let whole : q + 1 ≡ m + 1 + e * (q / e) = (let parts = div-add-mod q e in omega (arith, parts, is)) in
    ap (λ k. k % e) whole ∙ add-mul-mod_self_left (m + 1) e (q / e) ∙ own_position true e (m + 1) (omega arith)

pub reach_before : (n g : ℕ) (positions periodic : Bool) (blocks b : ℕ) (s : Strip) → IsSize n g → b < blocks → IsStrip n g periodic blocks b 0 s → IsReach n g positions periodic blocks b 0 s
reach_before n g false periodic blocks b s size h is = is
reach_before n g true periodic blocks b s size h is =
    let few = guards_least size in
    let to = is.to in
    let many = is.many in
    record {
      to = is.to;
      many = is.many;
      beside = is.beside;
      cells = λ t l. (let less = is.cells t l in omega arith);
      stand = λ t l.
          let inside = in_axis blocks n s.block (cell_at s t) is.beside.there (is.cells t l) in
          let line = row blocks n b h in
          let turned : n * blocks ≡ blocks * n = grind arith in
          same_place periodic (blocks * n) (guard_index n g b (s.to + t)) (n * s.block + cell_at s t) (omega arith) inside (λ q at. omega (arith, ints, at)) (is.stand t l);
    }

pub reach_along : (n g : ℕ) (positions periodic : Bool) (blocks b own : ℕ) → b < blocks → own ≡ one_more positions n → IsReach n g positions periodic blocks b 1 (record { to = g; many = own; block = b; first = 0; step = 1 })
reach_along n g false periodic blocks b own h is = subst (λ m. IsReach n g false periodic blocks b 1 (record { to = g; many = m; block = b; first = 0; step = 1 })) (sym is) (along_same n g periodic blocks b h)
reach_along n g true periodic blocks b own h is = record {
  to = refl;
  many = is;
  beside = record { there = h; which = inl (omega arith, omega arith) };
  cells = λ t l. omega arith;
  stand = λ t l.
      let line = row blocks n b h in
      let turned : n * blocks ≡ blocks * n = grind arith in
      let at : guard_index n g b (g + t) ≡ pos (n * b + (0 + 1 * t)) = omega (arith, ints) in
      ap (brought_in periodic (blocks * n) (blocks * n)) at ∙ own_position periodic (blocks * n) (n * b + (0 + 1 * t)) (omega arith);
}

-- so many places further behind a block, and so many further in the block from which they have their numbers
pub reach_behind : (n g : ℕ) (positions periodic : Bool) (blocks b own block first step : ℕ) → IsSize n g → b < blocks → own ≡ one_more positions n →
    IsStrip n g periodic blocks b 2 (record { to = g + n; many = g; block = block; first = first; step = step }) →
    IsReach n g positions periodic blocks b 2 (record { to = g + own; many = g; block = block; first = first + (own - n); step = step })
reach_behind n g false periodic blocks b own block first step size h is strip =
    let none : first + (own - n) ≡ first = omega arith in
    subst (λ f. IsReach n g false periodic blocks b 2 (record { to = g + own; many = g; block = block; first = f; step = step })) (sym none)
    (subst (λ m. IsReach n g false periodic blocks b 2 (record { to = g + m; many = g; block = block; first = first; step = step })) (sym is) strip)
reach_behind n g true periodic blocks b own block first step size h is strip = record {
  to = (let far = is in omega arith);
  many = refl;
  beside = strip.beside;
  cells = λ t l. (let less = strip.cells t l in let far = is in omega arith);
  stand = λ t l.
      let far = is in
      let inside = in_axis blocks n block (first + step * t) strip.beside.there (strip.cells t l) in
      let next = next_row n b in
      let at : guard_index n g b (g + n + t) ≡ pos (n * suc b + t) = omega (arith, ints) in
      let after : guard_index n g b (g + own + t) ≡ pos (n * suc b + t + 1) = omega (arith, ints) in
      let stands : brought_in periodic (blocks * n) (blocks * n - 1) (pos (n * suc b + t)) ≡ n * block + (first + step * t) = ap (brought_in periodic (blocks * n) (blocks * n - 1)) (sym at) ∙ strip.stand t l in
      let one : n * block + (first + step * t) + 1 ≡ n * block + (first + (own - n) + step * t) = omega arith in
      ap (brought_in periodic (blocks * n) (blocks * n)) after
      ∙ next_place periodic (blocks * n) (n * suc b + t) (n * block + (first + step * t)) (omega arith) inside stands
      ∙ ap (wrapped periodic (blocks * n)) one;
}

-- the places of a direction lie within an array, and those from which they have their numbers behind its first guards
strip_reaches : (n g : ℕ) (positions periodic : Bool) (blocks b d : ℕ) (s : Strip) (many : ℕ) → IsSize n g → d < 3 → many ≡ one_more positions n + 2 * g → IsReach n g positions periodic blocks b d s → Reaches many g s
strip_reaches n g positions periodic blocks b d s many size h all is = record {
  some = (let most = own_least n positions in let l = cells_least size in let f = guards_least size in let m = is.many in let k = many_least (one_more positions n) g d (omega arith) (omega arith) in omega arith);
  to = (let m = is.many in let t = is.to in let k = begins_within (one_more positions n) g d h in omega arith);
  from = λ t l. (let c = is.cells t l in omega arith);
}
  where
    own_least : (n : ℕ) (positions : Bool) → n ≤ one_more positions n
    own_least n true = omega arith
    own_least n false = omega arith

    many_least : (m g d : ℕ) → 0 < m → 0 < g → 0 < many_of m g d
    many_least m g zero hm hg = hg
    many_least m g (suc zero) hm hg = hm
    many_least m g (suc (suc d)) hm hg = hg

    begins_within : (m g d : ℕ) → d < 3 → begin_of m g d + many_of m g d ≤ m + 2 * g
    begins_within m g zero h = omega arith
    begins_within m g (suc zero) h = omega arith
    begins_within m g (suc (suc d)) h = omega arith

-- an array has two guards more than a block has places of its own
pub record Widths (n g : ℕ) (var : Var) : Type 0 where
  pub x : (extents_of n g var).x ≡ one_more (at_positions var X) n + 2 * g
  pub y : (extents_of n g var).y ≡ one_more (at_positions var Y) n + 2 * g
  pub z : (extents_of n g var).z ≡ one_more (at_positions var Z) n + 2 * g
  pub own_x : (half_extents n var).x ≡ one_more (at_positions var X) n
  pub own_y : (half_extents n var).y ≡ one_more (at_positions var Y) n
  pub own_z : (half_extents n var).z ≡ one_more (at_positions var Z) n

pub widths : (n g : ℕ) (var : Var) → Widths n g var
widths n g (Cell v) = record { x = refl; y = refl; z = refl; own_x = refl; own_y = refl; own_z = refl }
widths n g CellWork = record { x = refl; y = refl; z = refl; own_x = refl; own_y = refl; own_z = refl }
widths n g (Face X) = record { x = omega arith; y = refl; z = refl; own_x = refl; own_y = refl; own_z = refl }
widths n g (Face Y) = record { x = refl; y = omega arith; z = refl; own_x = refl; own_y = refl; own_z = refl }
widths n g (Face Z) = record { x = refl; y = refl; z = omega arith; own_x = refl; own_y = refl; own_z = refl }
widths n g (FaceWork X) = record { x = omega arith; y = refl; z = refl; own_x = refl; own_y = refl; own_z = refl }
widths n g (FaceWork Y) = record { x = refl; y = omega arith; z = refl; own_x = refl; own_y = refl; own_z = refl }
widths n g (FaceWork Z) = record { x = refl; y = refl; z = omega arith; own_x = refl; own_y = refl; own_z = refl }
widths n g (Edge X) = record { x = refl; y = omega arith; z = omega arith; own_x = refl; own_y = refl; own_z = refl }
widths n g (Edge Y) = record { x = omega arith; y = refl; z = omega arith; own_x = refl; own_y = refl; own_z = refl }
widths n g (Edge Z) = record { x = omega arith; y = omega arith; z = refl; own_x = refl; own_y = refl; own_z = refl }
widths n g (EdgeWork X) = record { x = refl; y = omega arith; z = omega arith; own_x = refl; own_y = refl; own_z = refl }
widths n g (EdgeWork Y) = record { x = omega arith; y = refl; z = omega arith; own_x = refl; own_y = refl; own_z = refl }
widths n g (EdgeWork Z) = record { x = omega arith; y = omega arith; z = refl; own_x = refl; own_y = refl; own_z = refl }

pub all_reach : (n g : ℕ) (s : Shape) (var : Var) (b : BlockAt) (d : ℕ) (p : Patch) → IsSize n g → d < 27 → AreReaches n g s var b d p → AllReach (extents_of n g var) g p
all_reach n g s var b d p size h is =
    let w = widths n g var in
    record {
      x = strip_reaches n g (at_positions var X) (is_periodic s X) (roots s X * 2 ^ b.level) b.x (d % 3) p.x (extents_of n g var).x size (omega arith) w.x is.x;
      y = strip_reaches n g (at_positions var Y) (is_periodic s Y) (roots s Y * 2 ^ b.level) b.y (d / 3 % 3) p.y (extents_of n g var).y size (omega arith) w.y is.y;
      z = strip_reaches n g (at_positions var Z) (is_periodic s Z) (roots s Z * 2 ^ b.level) b.z (d / 9) p.z (extents_of n g var).z size (omega arith) w.z is.z;
    }

-- and at most 17 places along each axis
pub extents_short : (n g : ℕ) → IsSize n g → (var : Var) → ((extents_of n g var).x ≤ 17) × ((extents_of n g var).y ≤ 17) × ((extents_of n g var).z ≤ 17)
extents_short n g size var =
    let w = widths n g var in
    let f = guards_least size in
    let l = cells_least size in
    (short (at_positions var X) (extents_of n g var).x w.x, short (at_positions var Y) (extents_of n g var).y w.y, short (at_positions var Z) (extents_of n g var).z w.z)
  where
    short : (positions : Bool) (m : ℕ) → m ≡ one_more positions n + 2 * g → m ≤ 17
    short true m is = (let f = guards_least size in let l = cells_least size in omega arith)
    short false m is = (let f = guards_least size in let l = cells_least size in omega arith)
